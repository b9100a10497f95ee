-- Two keepers that are true to the plain ledger agree.
use Rattle.std.proofs.Common.{◌≡◌, ℕ, zero, suc, ◌<◌, ◌≤◌, ◌⊎◌, List, [], ◌∷◌, length, drop, ap, ◌∙◌, sym, inl, inr, arith}
use Rattle.agreement.specs.Accounts.{Account, TrueToLedger, count}
use Rattle.agreement.specs.Law.{Agree, Settled}
use Rattle.agreement.specs.Outcomes.{Broken, account}
use Rattle.agreement.specs.Playing.{Ended, Plays}
use Rattle.agreement.specs.Runs.{RowNext, ledger_trees}
use Rattle.agreement.specs.declared.settlement.Played.{Played}
use Rattle.agreement.proofs.Keeps.{so_far, whole}
use Rattle.entries.specs.Readings.{bookings}
use Rattle.entries.specs.declared.entry.Entry.{Entry}
use Rattle.layout.specs.Keeping.{made}
use Rattle.ledger.specs.Runs.{granted_of, grants, replies, trees_after}
use Rattle.ledger.specs.Trees.{no_trees}
use Rattle.ledger.proofs.Room.{larger_grants_alike}

module _ (r q : Account) (R : TrueToLedger r) (Q : TrueToLedger q) (le : count r ≤ count q)
    (handed : bookings q.list ≡ granted_of (bookings r.list) r.gave) where
  -- what was handed on, told by the plain ledger of receivables' count
  fed : bookings q.list ≡ granted_of (bookings r.list) (replies (count r) no_trees (bookings r.list))
  fed = handed ∙ ap (granted_of (bookings r.list)) R.replies_are

  same_answers : q.gave ≡ grants r.gave
  same_answers =
      Q.replies_are ∙ ap (replies (count q) no_trees) fed ∙ (larger_grants_alike (count r) (count q) le no_trees (bookings r.list)).0
      ∙ ap grants (sym R.replies_are)

  -- the trees of the granted ones are those of the whole list, for a count as large as receivables'
  by : (n : ℕ) → count r ≤ n → ledger_trees n q.list ≡ ledger_trees (count r) r.list
  by n h = ap (trees_after n no_trees) fed ∙ (larger_grants_alike (count r) n h no_trees (bookings r.list)).1

  agree : Agree r q
  agree =
      let own : count r ≤ count r = omega arith in
      let held = Q.trees_are ∙ by (count q) le in
      record {
        same_answers = same_answers;
        r_by_r = R.trees_are ∙ sym (by (count r) own);
        r_by_q = R.trees_are ∙ sym (by (count q) le);
        q_by_r = held ∙ sym (by (count r) own);
        q_by_q = Q.trees_are;
      }

pub settled : (r q : Account) → TrueToLedger r → TrueToLedger q → Settled r q
settled r q R Q = record { receivables = R; treasury = Q; agreed = λ le handed. agree r q R Q le handed }

row_within : (us : List ℕ) (k : ℕ) (es : List Entry) → RowNext us (drop k es) → k < length es
row_within us zero [] r = absurd r
row_within us (suc k) [] r = absurd r
row_within us zero (e ∷ es) r = omega arith
row_within us (suc k) (e ∷ es) r = omega (arith, row_within us k es r)

-- Both were made and got their lists.
module _ (ws : List ℕ) (lo : 67 ≤ length ws) (hi : length ws ≤ 262_144) (es : List Entry) (p : Played) (ws' : List ℕ)
    (P : Plays (made ws).1 es p ws') (vs : List ℕ) (lo' : 67 ≤ length vs) (hi' : length vs ≤ 262_144) (fs : List Entry) (q : Played) (vs' : List ℕ)
    (Q : Plays (made vs).1 fs q vs') where
  pub both_whole : p.entries ≡ length es → q.entries ≡ length fs
      → (p.entries ≡ length es) × (q.entries ≡ length fs) × Settled (account ws es p ws') (account vs fs q vs')
  both_whole e f = (e, f, settled _ _ (whole ws lo hi es p ws' P e) (whole vs lo' hi' fs q vs' Q f))

  shorter : Ended es p ws' → Ended fs q vs' → (p.entries ≡ length es → q.entries ≡ length fs → ⊥) → (p.entries < length es) ⊎ (q.entries < length fs)
  shorter (inl e) (inl f) n = absurd (n e f)
  shorter (inl e) (inr r) n = inr (row_within vs' q.entries fs r)
  shorter (inr r) f n = inl (row_within ws' p.entries es r)

  pub broken : (p.entries ≡ length es → q.entries ≡ length fs → ⊥) → Broken ws es p ws' vs fs q vs'
  broken n = record {
    settled = settled _ _ (so_far ws lo hi es p ws' P) (so_far vs lo' hi' fs q vs' Q);
    receivables = P.ended;
    treasury = Q.ended;
    somewhere = shorter P.ended Q.ended n;
  }
