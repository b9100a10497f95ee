-- A new block: its label, and what labelling it does to the words.
use Rattle.std.specs.Prelude.{◌≡◌, ℕ, ◌+◌, Bool, cond, List, ℤ, Ok, Err, Result, ◌==◌, slice_set}
use Rattle.booking.specs.declared.refusal.Refusal.{Refusal}
use Rattle.booking.specs.declared.refusal.Refusal.TheVariants.{BadField, BadLength}
use Rattle.codeword.specs.Codeword.{InWidth, packed}
use Rattle.codeword.specs.declared.Codeword.{Codeword}
use Rattle.ledger.specs.Doors.{bad_fields}
use Rattle.layout.specs.Words.{labelling}

-- the label of a block of n elements to be taken at a step, which has no address yet; refused where no block can be so
unfoldable pub label_taken : ℕ → ℤ → Bool → ℕ → ℕ → Result Codeword Refusal
label_taken n b codes t step =
    cond (bad_fields b codes t step) (Err BadField) (cond (n == 0) (Err BadLength) (Ok (labelling 0 n b codes t)))

-- the same label with the block's first address
abbrev pub aimed_at : ℕ → Codeword → Codeword
aimed_at first c = record { first = first; length = c.length; base = c.base; p = c.p; q = c.q; r = c.r; s = c.s; kind = c.kind }

-- us are the words after a block that begins at `start` was labelled by the codeword at an address: where the fields fit a word, that stands
-- there, and the address in the block's back-reference
abbrev pub Attaches : (ws : List ℕ) (at start : ℕ) → Codeword → List ℕ → Type 0
Attaches ws at start c us = InWidth (aimed_at (start + 1) c) → us ≡ slice_set (slice_set ws at (packed (aimed_at (start + 1) c))) start at
