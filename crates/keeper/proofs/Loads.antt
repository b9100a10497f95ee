-- What loading comes to hangs on the list and the count alone, and takes what was saved.
use Rattle.std.proofs.Common.{◌≡◌, ℕ, eqb, List, length, Ok, Err, Result, sym, ◌∙◌, subst, arith}
use Rattle.std.proofs.lemmas.Bool.{cond-true, eq-eqb}
use Rattle.booking.specs.declared.refusal.Refusal.{Refusal}
use Rattle.booking.specs.declared.refusal.Refusal.TheVariants.{Inconsistent, WrongCount}
use Rattle.keeper.specs.Loaded.{LoadsComeOutAlike, SavedIsCarriedOver, Loads, apart, other_length, together}
use Rattle.keeper.specs.Saved.{saved}

not_granted : (r : Result (Unit {0}) Refusal) (e : Refusal) → r ≡ Err e → r ≡ Ok tt → ⊥
not_granted r e p q = let z : ◌≡◌ {A = ℕ} 0 1 = cc in omega arith

pub alike : LoadsComeOutAlike
alike ws vs list ws' vs' r s n (other_length p q e) (other_length p' q' e') = (q ∙ sym q', λ g. absurd (not_granted r WrongCount q g))
alike ws vs list ws' vs' r s n (other_length p q e) (apart p' h' q' e') = absurd (p (p' ∙ sym n))
alike ws vs list ws' vs' r s n (other_length p q e) (together p' h' q' e') = absurd (p (p' ∙ sym n))
alike ws vs list ws' vs' r s n (apart p h q e) (other_length p' q' e') = absurd (p' (p ∙ n))
alike ws vs list ws' vs' r s n (apart p h q e) (apart p' h' q' e') = (q ∙ sym q', λ g. absurd (not_granted r Inconsistent q g))
alike ws vs list ws' vs' r s n (apart p h q e) (together p' h' q' e') = absurd (h h')
alike ws vs list ws' vs' r s n (together p h q e) (other_length p' q' e') = absurd (p' (p ∙ n))
alike ws vs list ws' vs' r s n (together p h q e) (apart p' h' q' e') = absurd (h' h)
alike ws vs list ws' vs' r s n (together p h q e) (together p' h' q' e') = (q ∙ sym q', λ g. e ∙ sym e')

saved_all : (ws list : List ℕ) → length list ≡ length ws → saved ws list ≡ ws
saved_all ws list n = cond-true (eqb (length list) (length ws)) ws list (eq-eqb (length list) (length ws) n)

pub carried : SavedIsCarriedOver
carried ws vs list vs' r h n m l = go (subst (λ (us : List ℕ). Loads vs us r vs') (saved_all ws list m) l)
  where
    go : Loads vs ws r vs' → (r ≡ Ok tt) × (vs' ≡ ws)
    go (other_length p q e) = absurd (p (sym n))
    go (apart p k q e) = absurd (k h)
    go (together p k q e) = (q, e)
