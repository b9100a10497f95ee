-- The walk on words: from the codeword of a name down to that of the place.
use Rattle.std.specs.Prelude.{ℕ, suc, ◌+◌, cond, List, [], ◌∷◌, ℤ, Ok, Err, Result, ◌==◌, slice_index}
use Rattle.booking.specs.declared.refusal.Refusal.{Refusal}
use Rattle.booking.specs.declared.refusal.Refusal.TheVariants.{OutOfBounds, Unlabelled, WrongSort}
use Rattle.codeword.specs.Codeword.{unpacked}
use Rattle.codeword.specs.declared.Codeword.{Codeword}
use Rattle.ledger.specs.Doors.{element, off}

-- on after a step that was granted
abbrev pub and_then : {A B : Type 0} → Result A Refusal → (A → Result B Refusal) → Result B Refusal
and_then (Ok a) f = f a
and_then (Err r) f = Err r

-- which element of the block a subscript selects
unfoldable pub chosen : Codeword → ℤ → ℕ → Result ℕ Refusal
chosen c i step = cond (off c.base c.length i) (Err (OutOfBounds step)) (Ok (element c.base i))

-- the address of the codeword that a subscript selects in the block that a word labels
unfoldable pub gone_down : ℕ → ℤ → ℕ → Result ℕ Refusal
gone_down w i step =
    cond (w == 0) (Err (Unlabelled step))
    (cond (unpacked w).r (and_then (chosen (unpacked w) i step) (λ k. Ok ((unpacked w).first + k))) (Err (WrongSort step)))

-- the address of the codeword at the end of the subscripts, from the one at address a on
unfoldable pub walked : List ℕ → ℕ → ℕ → List ℤ → Result ℕ Refusal
walked ws step a [] = Ok a
walked ws step a (i ∷ is) = and_then (gone_down (slice_index ws a) i step) (λ b. walked ws (suc step) b is)
