-- The data element that a subscript selects, on words.
use Rattle.std.specs.Prelude.{ℕ, ◌+◌, ◌-◌, ◌%◌, ◌^◌, cond, List, ℤ, Ok, Err, Result, ◌==◌, nat_lt, slice_index, slice_set}
use Rattle.booking.specs.Traces.{subscripts}
use Rattle.booking.specs.declared.refusal.Refusal.{Refusal}
use Rattle.booking.specs.declared.refusal.Refusal.TheVariants.{Unlabelled, WrongSort, WrongType}
use Rattle.booking.specs.declared.trace.Trace.{Trace}
use Rattle.codeword.specs.Codeword.{unpacked}
use Rattle.layout.specs.Walks.{and_then, chosen, walked}

-- its address, and how many elements there are from it on, in the block of data that a word labels
unfoldable pub row_chosen : ℕ → ℕ → ℤ → ℕ → Result (ℕ × ℕ) Refusal
row_chosen w kind i step =
    cond (w == 0) (Err (Unlabelled step))
    (cond (unpacked w).r (Err (WrongSort step))
    (and_then (chosen (unpacked w) i step)
    (λ k. cond ((unpacked w).kind == kind) (Ok ((unpacked w).first + k, (unpacked w).length - k)) (Err WrongType))))

-- the same at the end of a trace
unfoldable pub row_found : List ℕ → Trace → ℕ → ℤ → Result (ℕ × ℕ) Refusal
row_found ws t kind i = and_then (walked ws 1 t.name (subscripts t)) (λ a. row_chosen (slice_index ws a) kind i (t.depth + 1))

-- a codeword written at an address, and the address into the back-reference of its block
unfoldable pub relabelled : List ℕ → ℕ → ℕ → List ℕ
relabelled ws at code = cond (nat_lt 0 (code % 2 ^ 18)) (slice_set (slice_set ws at code) (code % 2 ^ 18 - 1) at) (slice_set ws at code)
