-- A list turned element by element, each result written from a place on in another list: one more, and all.
use Rattle.std.proofs.Common.{◌≡◌, ℕ, ◌+◌, ◌<◌, ◌≤◌, List, ◌++◌, map, length, get_or, set, ap, sym, ◌∙◌, arith}
use lib.ListN.{length-map}
use lib.Seq.{paste}
use Rattle.std.proofs.lemmas.List.{append-nil, drop_all, get_or-map}
use Rattle.std.proofs.lemmas.List.Edits.{paste_all, paste_more}

module _ {X Y : Type 0} (f : X → Y) (xs : List X) (ys us : List Y) where
  pub turned_more : (at k j : ℕ) (y : Y) (d : X) → j ≡ at + k → k < length xs → at + length xs ≤ length ys
      → us ≡ paste ys at (map f xs) k → y ≡ f (get_or xs k d) → set us j y ≡ paste ys at (map f xs) (k + 1)
  turned_more at k j y d i h room e is =
      let n = length-map xs f in
      ap (λ zs. set zs j y) e
      ∙ ap (λ m. set (paste ys at (map f xs) k) m y) i
      ∙ ap (set (paste ys at (map f xs) k) (at + k)) (is ∙ sym (get_or-map f xs k d y h))
      ∙ paste_more ys at (map f xs) k y (omega arith) (omega (arith, n))

  pub turned_all : (k : ℕ) → us ≡ paste ys 0 (map f xs) k → k ≡ length xs → length xs ≡ length ys → us ≡ map f xs
  turned_all k e h l =
      e ∙ paste_all ys 0 (map f xs) k (h ∙ sym (length-map xs f))
      ∙ ap (λ zs. map f xs ++ zs) (drop_all (0 + k) ys (omega arith)) ∙ append-nil (map f xs)
