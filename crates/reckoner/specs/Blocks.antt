-- Which item of a block a subscript selects, and how items come and go.
use Rattle.std.specs.Prelude.{◌≡◌, ℕ, ◌+◌, ℤ, pos, ◌+ℤ◌, ◌≤ℤ◌, ◌<ℤ◌, List, ◌++◌, length, take, drop}

-- the subscript selects one of n items, the first of which has the base for its subscript
abbrev pub IsWithin : ℤ → ℕ → ℤ → Type 0
IsWithin base n i = (base ≤ℤ i) × (i <ℤ (base +ℤ pos n))

-- it selects the item behind k others
abbrev pub IsAt : ℤ → ℕ → ℤ → Type 0
IsAt base k i = base +ℤ pos k ≡ i

-- n items come in behind the first k
pub record Widens {A : Type 0} (k n : ℕ) (xs ys : List A) : Type 0 where
  pub front : take k ys ≡ take k xs
  pub back : drop (k + n) ys ≡ drop k xs
  pub long : length ys ≡ length xs + n

-- what is left once n items behind the first k leave
abbrev pub narrowed : {A : Type 0} → ℕ → ℕ → List A → List A
narrowed k n xs = take k xs ++ drop (k + n) xs
