-- What comes of making two keepers and of playing a list to each.
use Rattle.std.specs.Prelude.{◌≡◌, ℕ, ◌<◌, ◌≤◌, ◌⊎◌, List, map, length, take, Ok, Err, Result}
use Rattle.agreement.specs.Accounts.{Account}
use Rattle.agreement.specs.Law.{Settled}
use Rattle.agreement.specs.Playing.{Ended}
use Rattle.agreement.specs.declared.settlement.Played.{Played}
use Rattle.agreement.specs.declared.settlement.Settlement.{Settlement}
use Rattle.agreement.specs.declared.settlement.Unsettled.{Unsettled}
use Rattle.agreement.specs.declared.settlement.Unsettled.TheVariants.{TooSmall, NoMemory, BrokeOff}
use Rattle.entries.specs.Readings.{reply_of}
use Rattle.entries.specs.declared.entry.Entry.{Entry}

-- the account of a keeper to which a list was played
abbrev pub account : List ℕ → List Entry → Played → List ℕ → Account
account ws es p us = record { before = ws; list = es; gave = map reply_of p.replies.items; after = us }

-- the same of the entries that were played
abbrev pub account_so_far : List ℕ → List Entry → Played → List ℕ → Account
account_so_far ws es p us = account ws (take p.entries es) p us

-- The memory gave out at a row that was read, by one keeper or by both: all is so of the entries that were played.
pub record Broken (ws : List ℕ) (es : List Entry) (p : Played) (ws' : List ℕ) (vs : List ℕ) (fs : List Entry) (q : Played) (vs' : List ℕ) : Type 0 where
  pub settled : Settled (account_so_far ws es p ws') (account_so_far vs fs q vs')
  pub receivables : Ended es p ws'
  pub treasury : Ended fs q vs'
  pub somewhere : (p.entries < length es) ⊎ (q.entries < length fs)

-- nothing was done
pub record Untouched (ws ws' vs vs' : List ℕ) : Type 0 where
  pub receivables : ws' ≡ ws
  pub treasury : vs' ≡ vs

-- Receivables' store had the words ws and has the words ws' now, and its keeper got the list es; treasury's store had vs and has vs', and
-- its keeper got fs.
abbrev pub SettlesTo : (ws : List ℕ) (es : List Entry) (ws' : List ℕ) (vs : List ℕ) (fs : List Entry) (vs' : List ℕ)
    → Result Settlement Unsettled → Type 0
SettlesTo ws es ws' vs fs vs' (Ok s) =
    (s.receivables.entries ≡ length es) × (s.treasury.entries ≡ length fs)
    × Settled (account ws es s.receivables ws') (account vs fs s.treasury vs')
SettlesTo ws es ws' vs fs vs' (Err (BrokeOff s)) = Broken ws es s.receivables ws' vs fs s.treasury vs'
SettlesTo ws es ws' vs fs vs' (Err TooSmall) = ((length ws < 67) ⊎ (length vs < 67)) × Untouched ws ws' vs vs'
SettlesTo ws es ws' vs fs vs' (Err NoMemory) = (67 ≤ length ws) × (67 ≤ length vs) × Untouched ws ws' vs vs'
