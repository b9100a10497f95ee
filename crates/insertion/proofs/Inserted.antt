-- The elements of a list in which some came in.
use Rattle.std.proofs.Common.{◌≡◌, ℕ, ◌+◌, ◌-◌, ◌<◌, ◌≤◌, List, ◌++◌, length, get_or, take, drop, replicate, ap, ◌∙◌, arith, length-take}
use lib.ListN.{length-replicate}
use Rattle.std.proofs.lemmas.List.{get_or-append_right, get_or-drop, get_or-replicate, get_or-take, get_or_append_left}
use Rattle.ledger.specs.Lists.{insert_at}

module _ {X : Type 0} (k n : ℕ) (x : X) (xs : List X) (le : k ≤ length xs) where
  front : length (take k xs) ≡ k
  front = simp length-take (omega arith)

  pub come_before : (m : ℕ) → m < k → get_or (insert_at k n x xs) m x ≡ get_or xs m x
  come_before m h =
      get_or_append_left (take k xs) (replicate n x ++ drop k xs) x m (omega (arith, front)) ∙ get_or-take k xs m x h

  pub come_in : (m : ℕ) → k ≤ m → m < k + n → get_or (insert_at k n x xs) m x ≡ x
  come_in m h l =
      get_or-append_right (take k xs) (replicate n x ++ drop k xs) k m x front h
      ∙ get_or_append_left (replicate n x) (drop k xs) x (m - k) (omega (arith, length-replicate n x))
      ∙ get_or-replicate n (m - k) x x (omega arith)

  pub come_after : (m : ℕ) → k + n ≤ m → get_or (insert_at k n x xs) m x ≡ get_or xs (m - n) x
  come_after m h =
      get_or-append_right (take k xs) (replicate n x ++ drop k xs) k m x front (omega arith)
      ∙ get_or-append_right (replicate n x) (drop k xs) n (m - k) x (length-replicate n x) (omega arith)
      ∙ get_or-drop k xs (m - k - n) x
      ∙ ap (λ (j : ℕ). get_or xs j x) (omega arith)
