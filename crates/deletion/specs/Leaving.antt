-- Which elements leave a block.
use Rattle.std.specs.Prelude.{ℕ, cond, ◌||◌, ℤ, Ok, Err, Result, ◌==◌}
use Rattle.booking.specs.declared.refusal.Refusal.{Refusal}
use Rattle.booking.specs.declared.refusal.Refusal.TheVariants.{BadLength, Unlabelled}
use Rattle.codeword.specs.Codeword.{unpacked}
use Rattle.ledger.specs.Doors.{bad_run}
use Rattle.layout.specs.Walks.{and_then, chosen}

-- the first of n elements that leave the block which a word labels, from the one that a subscript selects on; not all leave
unfoldable pub leaving_found : ℕ → ℤ → ℕ → ℕ → Result ℕ Refusal
leaving_found w i n step =
    cond (w == 0) (Err (Unlabelled step))
    (and_then (chosen (unpacked w) i step)
    (λ k. cond (bad_run k n (unpacked w).length || n == (unpacked w).length) (Err BadLength) (Ok k)))
