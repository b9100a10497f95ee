-- What moving blocks does to a list of words.
use Rattle.std.specs.Prelude.{◌≡◌, ℕ, zero, suc, ◌+◌, ◌-◌, ◌%◌, ◌^◌, ◌==◌, max, cond, List, length, set, nat_lt, slice_index, slice_index_or, slice_set}
use Rattle.codeword.specs.Codeword.{field, unpacked}
use Rattle.layout.specs.Chains.{next_at, size_at}
use Rattle.store.specs.Edits.{copied}

-- the block that the codeword at an address labels, if any, gets that address as its back-reference
abbrev pub renewed_at : ℕ → List ℕ → List ℕ
renewed_at at ws = cond (nat_lt 0 (unpacked (slice_index ws at)).first) (slice_set ws ((unpacked (slice_index ws at)).first - 1) at) ws

-- so do those of the n codewords from `at` on, one after another
unfoldable pub renewed : ℕ → ℕ → List ℕ → List ℕ
renewed zero at ws = ws
renewed (suc i) at ws = renewed_at (at + i) (renewed i at ws)

-- the codeword with another first address
abbrev pub aimed : ℕ → ℕ → ℕ
aimed code first = code - field 0 18 code + first % 2 ^ 18

-- how many words the block has whose back-reference stands at an address, with that
abbrev pub block_size : List ℕ → ℕ → ℕ
block_size ws from = (unpacked (slice_index ws (slice_index ws from))).length + 1

-- the block whose back-reference stands at `from` is moved to `to`: its words, its codeword, the back-references below it
abbrev pub stepped : ℕ → ℕ → List ℕ → List ℕ
stepped from to ws =
    let owner : ℕ = slice_index_or ws from 0 in
    let code : ℕ = slice_index_or ws owner 0 in
    let n : ℕ = (unpacked code).length in
    let there : List ℕ = set (copied (n + 1) from to ws) owner (aimed code (to + 1)) in
    cond (unpacked code).r (renewed n (to + 1) there) there

-- where closing up begins, since nothing moves below the first gap: there, or past the last word where there is no gap
abbrev pub closing_from : List ℕ → ℕ
closing_from ws = cond (next_at ws 0 == 0) (length ws) (next_at ws 0)

-- closing up, at `at` with the blocks behind it moved to below `to` and the next gap at `link`, passes over a gap
abbrev pub OverGap : (at to link : ℕ) → List ℕ → (at' to' link' : ℕ) → List ℕ → Type 0
OverGap at to link ws at' to' link' ws' = (at' ≡ at + max (size_at ws at) 1) × (to' ≡ to) × (link' ≡ next_at ws at) × (ws' ≡ ws)

-- or over a block, which moves down
abbrev pub OverBlock : (at to link : ℕ) → List ℕ → (at' to' link' : ℕ) → List ℕ → Type 0
OverBlock at to link ws at' to' link' ws' = (at' ≡ at + block_size ws at) × (to' ≡ to + block_size ws at) × (link' ≡ link) × (ws' ≡ stepped at to ws)
