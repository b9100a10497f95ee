-- Where elements come into a block, and what they do to the words.
use Rattle.std.specs.Prelude.{ℕ, ◌+◌, ◌-◌, cond, List, ℤ, Ok, Err, Result, ◌==◌, slice_index, slice_set}
use Rattle.booking.specs.Traces.{subscripts}
use Rattle.booking.specs.declared.refusal.Refusal.{Refusal}
use Rattle.booking.specs.declared.refusal.Refusal.TheVariants.{Unlabelled}
use Rattle.booking.specs.declared.trace.Trace.{Trace}
use Rattle.codeword.specs.Codeword.{packed, unpacked}
use Rattle.codeword.specs.declared.Codeword.{Codeword}
use Rattle.layout.specs.Walks.{and_then, chosen, walked}
use Rattle.placement.specs.Moves.{renewed}
use Rattle.store.specs.Edits.{lifted, zeroed}

-- the label of a block of n elements more
abbrev pub longer : ℕ → Codeword → Codeword
longer n c = record { first = c.first; length = c.length + n; base = c.base; p = c.p; q = c.q; r = c.r; s = c.s; kind = c.kind }

-- the label that a word is, and the element that a subscript selects in its block, or the one past the last
unfoldable pub opening_in : ℕ → ℤ → ℕ → Result (Codeword × ℕ) Refusal
opening_in w i step =
    cond (w == 0) (Err (Unlabelled step)) (and_then (chosen (longer 1 (unpacked w)) i step) (λ k. Ok (unpacked w, k)))

-- the same at the end of a trace
unfoldable pub opened : List ℕ → Trace → ℤ → Result (Codeword × ℕ) Refusal
opened ws t i = and_then (walked ws 1 t.name (subscripts t)) (λ a. opening_in (slice_index ws a) i (t.depth + 1))

-- n words of 0 come in before element k of a block: those from there on go up, and the label says the greater length
abbrev pub opened_up : Codeword → ℕ → ℕ → List ℕ → List ℕ
opened_up c k n ws =
    slice_set (zeroed (lifted (c.length - k) (c.first + k) n ws) (c.first + k) n) (slice_index ws (c.first - 1)) (packed (longer n c))

-- and the blocks that the moved codewords label name their new addresses
abbrev pub grown_words : Codeword → ℕ → ℕ → List ℕ → List ℕ
grown_words c k n ws = cond c.r (renewed (c.length - k) (c.first + k + n) (opened_up c k n ws)) (opened_up c k n ws)
