-- What closing a block up behind elements that leave does to a list of words.
use Rattle.std.specs.Prelude.{ℕ, ◌+◌, ◌-◌, cond, List, slice_set}
use Rattle.codeword.specs.Codeword.{packed}
use Rattle.codeword.specs.declared.Codeword.{Codeword}
use Rattle.placement.specs.Moves.{renewed}
use Rattle.store.specs.Edits.{copied}

-- the codeword of a block that has n elements fewer
abbrev pub shorter : Codeword → ℕ → Codeword
shorter c n = record { first = c.first; length = c.length - n; base = c.base; p = c.p; q = c.q; r = c.r; s = c.s; kind = c.kind }

-- the words from an address up to another go down by n; where they are codewords, the blocks that they label are renewed
abbrev pub elements_closed_up : Codeword → (from past n : ℕ) → List ℕ → List ℕ
elements_closed_up c from past n ws =
    let moved : List ℕ = copied (past - (from + n)) (from + n) from ws in
    cond c.r (renewed (past - n - from) from moved) moved

-- so do the elements behind the n from element k on, and the codeword at an address says that there are n fewer
abbrev pub shut : (at : ℕ) → Codeword → (k n : ℕ) → List ℕ → List ℕ
shut at c k n ws = slice_set (elements_closed_up c (c.first + k) (c.first + c.length) n ws) at (packed (shorter c n))
