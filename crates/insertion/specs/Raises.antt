-- What moving blocks up does to a list of words.
use Rattle.std.specs.Prelude.{◌≡◌, ℕ, ◌+◌, ◌-◌, ◌<◌, ◌≤◌, cond, List, nat_lt, slice_index, slice_set}
use Rattle.layout.specs.Arrangement.{Arrangement, Piece, blocks}
use Rattle.layout.specs.Gaps.{a_gap}
use Rattle.layout.specs.Holds.{Displays}
use Rattle.layout.specs.Rearranged.{raised}
use Rattle.layout.specs.Sound.{Each, Sound}
use Rattle.layout.specs.Words.{total}
use Rattle.placement.specs.Moves.{aimed}

-- where a word stands once those from `point` on have gone up by n
abbrev pub above : ℕ → ℕ → ℕ → ℕ
above point n y = cond (nat_lt y point) y (y + n)

-- the block whose back-reference stands at an address, and its codeword, name the addresses where both will stand
abbrev pub renamed_at : (point n at : ℕ) → List ℕ → List ℕ
renamed_at point n at ws =
    slice_set (slice_set ws (slice_index ws at) (aimed (slice_index ws (slice_index ws at)) (above point n at + 1))) at
    (above point n (slice_index ws at))

-- a block lies before e or from e on, and from e on if it begins past s
abbrev pub Beside : ℕ → ℕ → Piece → Type 0
Beside s e p = (p.start ≤ s → p.start + p.size ≤ e) × (s < p.start → e ≤ p.start)

-- us are the words after all blocks from `point` on went up by n: where those of ws display blocks with one gap behind them, and a block
-- from s on ends at `point`
abbrev pub Raises : (point n : ℕ) (ws us : List ℕ) → Type 0
Raises point n ws us =
    (s : ℕ) (B : Arrangement) → Sound B → Displays ws B → B.gaps ≡ a_gap (B.count - total B.gaps) (total B.gaps)
    → 65 ≤ s → s < point → Each (Beside s point) (blocks B.names) → 1 ≤ n → n ≤ total B.gaps → Displays us (raised s n B)
