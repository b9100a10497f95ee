-- A trace that takes up a list of subscripts one by one.
use Rattle.std.proofs.Common.{◌≡◌, ℕ, ◌+◌, ◌<◌, ◌≤◌, List, [], ◌∷◌, ◌++◌, length, get_or, take, ℤ, pos, Err, Result, sym, ap, ◌∙◌, subst, inr, length-take, arith}
use Rattle.booking.specs.Traces.{subscripts}
use Rattle.booking.specs.declared.refusal.Refusal.{Refusal}
use Rattle.booking.specs.declared.refusal.Refusal.TheVariants.{TooDeep}
use Rattle.booking.specs.declared.trace.Trace.{Trace}
use Rattle.keeper_c.specs.Traced.{Traced}
use Rattle.std.proofs.lemmas.List.{take_more}

-- a trace that can go no deeper has three subscripts
pub full : (t : Trace) → t.depth ≡ 3 → length (subscripts t) ≡ 3
full t d = length-take t.depth t.at ∙ omega (arith, t.lawful.3)

pub told_deep : (n k : ℕ) (is : List ℤ) (t : Trace) (e : Refusal) (x : Result Trace Refusal) → 1 ≤ t.name → t.name ≤ 64 → t.name ≡ n
    → subscripts t ≡ take k is → k < length is → t.depth ≡ 3 → e ≡ TooDeep → x ≡ Err e → Traced n is x
told_deep n k is t e x a b m p l d q s =
    subst (Traced n is) (sym s) (inr ((omega arith, omega arith, omega (arith, full t d, ap length p, length-take k is)), q))

pub further : (k : ℕ) (is xs ys : List ℤ) (z : ℤ) → xs ≡ take k is → k < length is → z ≡ get_or is k (pos 0) → ys ≡ xs ++ (z ∷ [])
    → ys ≡ take (k + 1) is
further k is xs ys z p l q e =
    e ∙ ap (λ (l : List ℤ). l ++ (z ∷ [])) p ∙ ap (λ (y : ℤ). take k is ++ (y ∷ [])) q ∙ sym (take_more is k (pos 0) l)
