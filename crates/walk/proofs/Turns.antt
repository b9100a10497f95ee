-- A turn of the walk: the subscripts that are left, and the first of them.
use Rattle.std.proofs.Common.{◌≡◌, ℕ, suc, ◌+◌, List, [], ◌∷◌, get_or, ℤ, Ok, Err, sym, ap, ◌∙◌, add-one}
use Rattle.booking.specs.declared.refusal.Refusal.{Refusal}
use Rattle.layout.specs.Walks.{and_then, gone_down, walked}
use Rattle.layout.proofs.Gone.{through_err, through_ok}

-- no subscript is left
pub walked_none : (ws : List ℕ) (j a : ℕ) (is : List ℤ) → is ≡ [] → walked ws j a is ≡ Ok a
unfolding walked
walked_none ws j a is e = ap (walked ws j a) e

-- step j takes the subscript i, which the code has as z, and others are left
module _ (ws : List ℕ) (k j a w : ℕ) (i z : ℤ) (is others : List ℤ) (p : j ≡ k) (e : is ≡ i ∷ others) (q : z ≡ i) (at : w ≡ get_or ws a 0) where
  turn : walked ws k a is ≡ and_then (gone_down w z j) (λ b. walked ws (suc j) b others)
  unfolding walked
  turn =
      ap (λ (n : ℕ). walked ws n a is) (sym p) ∙ ap (walked ws j a) e
      ∙ ap (λ (x : ℤ). and_then (gone_down (get_or ws a 0) x j) (λ b. walked ws (suc j) b others)) (sym q)
      ∙ ap (λ (v : ℕ). and_then (gone_down v z j) (λ b. walked ws (suc j) b others)) (sym at)

  pub walked_further : (b n : ℕ) → Ok b ≡ gone_down w z j → n ≡ j + 1 → walked ws k a is ≡ walked ws n b others
  walked_further b n h s = turn ∙ through_ok _ _ b h ∙ ap (λ (m : ℕ). walked ws m b others) (sym (s ∙ add-one j))

  pub walked_out : (r : Refusal) → Err r ≡ gone_down w z j → walked ws k a is ≡ Err r
  walked_out r h = turn ∙ through_err _ _ r h
