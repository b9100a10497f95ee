use Rattle.std.proofs.Common.{◌≡◌, ℕ, ◌<◌, ◌≢◌, Bool, true, false, List, length, MatchBool, Decides, refl, arith, rules, tests}
use Rattle.std.specs.List.{HoldsAt, AllWithin}
use Rattle.std.proofs.lemmas.Bool.{false≢true}
use Rattle.std.proofs.lemmas.Iterator.{cases_from_all, YieldsList-from_slice}
use native.Mathlib.Decide.{dec_lt}
use lib.ListN.{get_or-eq_default}
use Rattle.judge.specs.Marks.{Zeros}
use Rattle.judge.proofs.Bits.{down_zero, zeros_down}
use Rattle.judge.proofs.marks.all_zero.Goals as goal

zeros_told : (r : Bool) (ws : List ℕ)
    → MatchBool r (AllWithin (λ x. x ≡ 0) ws 0 (length ws)) ((k : ℕ) × (k < length ws) × HoldsAt (λ x. x ≢ 0) ws k) → Decides r (Zeros ws)
zeros_told true ws h =
    ((λ _ k. elim (dec_lt k (length ws)) [ yes l ↦ h k 0 (omega arith) l | no l ↦ get_or-eq_default ws 0 (omega arith) ]), (λ _. refl))
zeros_told false ws h = ((λ e. absurd (false≢true e)), (λ z. absurd (h.2 0 (z h.0))))

pub returns : goal.returns
returns c =
    let ws = c.args.words.now in
    let by_call =
    cases_from_all _ _ _ (λ x. x ≡ 0) (λ x. x ≢ 0) c.all.ensures.ran (YieldsList-from_slice ws cc)
    (λ x q k. search (rules, tests)) (λ x q k. search (rules, tests)) in
    let told = zeros_told c.all.result ws by_call in
    record { zeros = told; marks = (λ e. zeros_down ws (told.0 e), λ m. told.1 (λ k. down_zero ws k (omega (arith, c.type_inv.words k)) m)) }
