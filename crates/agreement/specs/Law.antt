-- The law of the two keepers: receivables' keeper r, and treasury's q.
use Rattle.std.specs.Prelude.{◌≡◌, ◌≤◌}
use Rattle.agreement.specs.Accounts.{Account, TrueToLedger, count}
use Rattle.agreement.specs.Runs.{ledger_trees}
use Rattle.entries.specs.Readings.{bookings}
use Rattle.layout.specs.Held.{held_trees}
use Rattle.ledger.specs.Runs.{granted_of, grants}

-- what the two agree on
pub record Agree (r q : Account) : Type 0 where
  -- treasury's granted each of the granted ones, with the same answer
  pub same_answers : q.gave ≡ grants r.gave
  -- both hold, under every name, the tree that the plain ledger of either count makes of the granted ones
  pub r_by_r : held_trees r.after ≡ ledger_trees (count r) q.list
  pub r_by_q : held_trees r.after ≡ ledger_trees (count q) q.list
  pub q_by_r : held_trees q.after ≡ ledger_trees (count r) q.list
  pub q_by_q : held_trees q.after ≡ ledger_trees (count q) q.list

-- Tidies stand anywhere in either list.
pub record Settled (r q : Account) : Type 0 where
  pub receivables : TrueToLedger r
  pub treasury : TrueToLedger q
  -- where treasury's store has at least as many words, and its list has the bookings that receivables' granted, in order
  pub agreed : count r ≤ count q → bookings q.list ≡ granted_of (bookings r.list) r.gave → Agree r q
