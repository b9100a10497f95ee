-- Going down from a codeword over the blocks that it labels.
use Rattle.std.specs.Prelude.{ℕ, zero, suc, ◌+◌, ◌-◌, Bool, false, cond, ◌&&◌, List, length, get_or, Some, None, Option, option_and_then, ◌==◌, nat_le, slice_index, slice_index_or, slice_set}
use Rattle.codeword.specs.Codeword.{unpacked}
use Rattle.codeword.specs.Lawful.{lawful}

-- F and N of a codeword, and whether its block holds codewords
abbrev pub first : ℕ → ℕ
first w = (unpacked w).first

abbrev pub count : ℕ → ℕ
count w = (unpacked w).length

abbrev pub coded : ℕ → Bool
coded w = (unpacked w).r

-- a codeword is lawful, and labels a block that lies behind the names in a list of n words
unfoldable pub is_label : ℕ → ℕ → Bool
is_label n w = lawful w && (nat_le 66 (first w) && nat_le (first w + count w) n)

-- n codewords from a on, each in turn
unfoldable pub in_turn : (ℕ → List Bool → Option (List Bool)) → ℕ → ℕ → List Bool → Option (List Bool)
in_turn f a zero ms = Some ms
in_turn f a (suc n) ms = option_and_then (in_turn f (a + 1) n) (f a ms)

-- the codeword at a: its block begins at a mark, which goes down, and names a; codewords in it are gone over in turn
abbrev pub visit_block : (ℕ → List Bool → Option (List Bool)) → List ℕ → ℕ → List Bool → Option (List Bool)
visit_block f ws a ms =
    let w : ℕ = get_or ws a 0 in
    cond (is_label (length ws) w && (slice_index_or ms (first w - 1) false && slice_index ws (first w - 1) == a))
    (cond (coded w) (in_turn f (first w) (count w) (slice_set ms (first w - 1) false)) (Some (slice_set ms (first w - 1) false)))
    None

-- the codeword at a, with so many levels of blocks left
unfoldable pub visit : ℕ → List ℕ → ℕ → List Bool → Option (List Bool)
visit zero ws a ms = cond (slice_index ws a == 0) (Some ms) None
visit (suc d) ws a ms = cond (slice_index ws a == 0) (Some ms) (visit_block (visit d ws) ws a ms)
