-- Going over the gaps and blocks of a list from a first address to its end.
use Rattle.std.specs.Prelude.{ℕ, zero, suc, ◌+◌, ◌-◌, ◌/◌, ◌%◌, ◌^◌, Bool, true, false, cond, ◌&&◌, List, length, Some, None, Option, ◌==◌, nat_le, nat_lt, slice_index, slice_index_or, slice_set}
use Rattle.codeword.specs.Codeword.{field}
use Rattle.codeword.specs.declared.head.Head.{Head}

-- the two numbers in the header, or in the first word of a gap: words, and the address of the next gap
abbrev pub low : ℕ → ℕ
low w = w % 2 ^ 18

abbrev pub high : ℕ → ℕ
high w = w / 2 ^ 18

-- both, where no other bit is set
abbrev pub head_of : ℕ → Option Head
head_of w = cond (nat_lt w (2 ^ 36)) (Some (record { size = low w; next = high w })) None

-- n words from a on are 0
unfoldable pub is_blank : List ℕ → ℕ → ℕ → Bool
is_blank ws a zero = true
is_blank ws a (suc n) = cond (slice_index ws a == 0) (is_blank ws (a + 1) n) false

-- a gap of at most so many words lies at x: its size is 1 or more, it ends by the end of the list, and its other words are 0
unfoldable pub is_gap : List ℕ → ℕ → ℕ → Bool
is_gap ws x left =
    let w : ℕ = slice_index_or ws x 0 in
    nat_lt w (2 ^ 36) && (nat_le 1 (low w) && (nat_le (low w) left && (nat_le (low w) (length ws - x) && is_blank ws (x + 1) (low w - 1))))

-- what it says
abbrev pub gap_head : List ℕ → ℕ → ℕ → Option Head
gap_head ws x left = cond (is_gap ws x left) (Some (record { size = low (slice_index ws x); next = high (slice_index ws x) })) None

-- the words of the active block whose back-reference lies at x, if one does
unfoldable pub tile_size : List ℕ → ℕ → ℕ
tile_size ws x = 1 + field 18 18 (slice_index ws (slice_index ws x))

-- the gaps and blocks from x on, where the next gap is due and how many words of gaps are left: every block's start is marked.
-- None where they do not fill the list to its end, or the gaps are not those of the chain
unfoldable pub tiled_from : ℕ → List ℕ → (x next left : ℕ) → List Bool → Option (List Bool)
tiled_from zero ws x next left ms = None
tiled_from (suc k) ws x next left ms =
    cond (nat_lt x (length ws))
    (cond (x == next)
    (cond (is_gap ws x left) (tiled_from k ws (x + low (slice_index ws x)) (high (slice_index ws x)) (left - low (slice_index ws x)) ms) None)
    (cond (nat_le (tile_size ws x) (length ws - x)) (tiled_from k ws (x + tile_size ws x) next left (slice_set ms x true)) None))
    (cond (next == 0 && left == 0) (Some ms) None)

-- what a pass answers and the marks that it leaves, as one value; those of a pass that fails are not told
abbrev pub outcome : Bool → List Bool → Option (List Bool)
outcome r ms = cond r (Some ms) None
