-- What releasing arrays does to the words. A release carries along how many words it may still give to the chain, so that over any words
-- it ends soon, and the gap that it linked last, from which the next search of the chain begins.
use Rattle.std.specs.Prelude.{◌≡◌, ℕ, ◌+◌, ◌-◌, ◌<◌, ◌≤◌, List, ◌∷◌, ◌++◌, map, length, slice_index, slice_index_or}
use Rattle.layout.specs.Arrangement.{Piece, Placed, concat, pieces}
use Rattle.layout.specs.Chains.{Chained, InChain, Loose, Relinked}
use Rattle.layout.specs.Gaps.{link, link_all}
use Rattle.layout.specs.Holds.{Along, Shows}
use Rattle.layout.specs.Sound.{Each, Good, covered, covers}
use Rattle.layout.specs.Words.{total}

-- so many words from an address on
abbrev pub run : ℕ → ℕ → Piece
run a n = record { start = a; size = n }

-- ── One piece ──────────────────────────────────────────────────────────

-- vs are the words after a piece of so many words from an address on was linked; the chain was searched from the gap at `from` on
abbrev pub LinksAfter : (ws : List ℕ) (from at size : ℕ) (vs : List ℕ) → Type 0
LinksAfter ws from at size vs =
    (p : Piece) (gs : List Piece) → p.start ≡ at → p.size ≡ size → Chained ws gs → Loose p gs (length ws) → InChain from gs
    → Relinked ws vs (p ∷ gs) (link p gs)

-- ── What a release carries along ───────────────────────────────────────

-- so many words may be linked as the pieces have, and the chain may be searched from the gap at `last` on
pub record Ready (ps gs : List Piece) (left last : ℕ) : Type 0 where
  pub enough : total ps ≤ left
  pub known : InChain last gs

-- once they are linked, so many fewer may be, and the chain may be searched from another gap on
pub record Spent (ps gs : List Piece) (left left' last' : ℕ) : Type 0 where
  pub used : left' + total ps ≡ left
  pub known : InChain last' (link_all ps gs)

-- ── The array at an address ────────────────────────────────────────────

-- the codeword at an address shows an array; its blocks and the gaps lie in S and do not overlap, and the codeword is in none of them
pub record Rooted (d : ℕ) (ws : List ℕ) (at : ℕ) (p : Placed d) (gs : List Piece) : Type 0 where
  pub chained : Chained ws gs
  pub shows : Shows d ws at p
  pub good : Good d p
  pub past : 1 ≤ at
  pub inside : at < length ws
  pub own : covered at (pieces d p) + covered at gs ≡ 0
  pub apart : (y : ℕ) → covered y (pieces d p) + covered y gs ≤ covers y (run 65 (length ws - 65))

-- its blocks are gaps and its codeword is 0; every word in none of these, nor in a gap before, is as it was
pub record Released (d : ℕ) (ws vs : List ℕ) (at : ℕ) (p : Placed d) (gs : List Piece) : Type 0 where
  pub relinked : Relinked ws vs (run at 1 ∷ pieces d p ++ gs) (link_all (pieces d p) gs)
  pub emptied : slice_index_or vs at 0 ≡ 0

-- vs are the words after the array at an address, of at most d blocks deep, was released; where there is none, all words stay
abbrev pub Releases : (d : ℕ) (ws : List ℕ) (at : ℕ) (vs : List ℕ) → Type 0
Releases d ws at vs = (p : Placed d) (gs : List Piece) → Rooted d ws at p gs → Released d ws vs at p gs

-- the same of a release that carries something along, and what it carries then
abbrev pub ReleasesWithin : (d : ℕ) (ws : List ℕ) (at left last : ℕ) (vs : List ℕ) (left' last' : ℕ) → Type 0
ReleasesWithin d ws at left last vs left' last' =
    (p : Placed d) (gs : List Piece) → Rooted d ws at p gs → Ready (pieces d p) gs left last
    → Released d ws vs at p gs × Spent (pieces d p) gs left left' last'

-- ── Those of the elements in a row ─────────────────────────────────────

-- the blocks below elements
abbrev pub under : (d : ℕ) → List (Placed d) → List Piece
under d ps = concat (map (pieces d) ps)

-- codewords from an address on show arrays; they, the blocks of these and the gaps lie in S and do not overlap
pub record Row (d : ℕ) (ws : List ℕ) (a : ℕ) (ps : List (Placed d)) (gs : List Piece) : Type 0 where
  pub chained : Chained ws gs
  pub shows : Along (Shows d ws) a ps
  pub good : Each (Good d) ps
  pub past : 1 ≤ a
  pub inside : a + length ps ≤ length ws
  pub apart : (y : ℕ) → covers y (run a (length ps)) + covered y (under d ps) + covered y gs ≤ covers y (run 65 (length ws - 65))

-- the blocks are gaps and the codewords are 0; every word in none of these, nor in a gap before, is as it was
pub record Cleared (d : ℕ) (ws vs : List ℕ) (a : ℕ) (ps : List (Placed d)) (gs : List Piece) : Type 0 where
  pub relinked : Relinked ws vs (run a (length ps) ∷ under d ps ++ gs) (link_all (under d ps) gs)
  pub emptied : (j : ℕ) → j < length ps → slice_index vs (a + j) ≡ 0

-- vs are the words after the arrays below n elements from an address on were released
abbrev pub Clears : (d : ℕ) (ws : List ℕ) (a n : ℕ) (vs : List ℕ) → Type 0
Clears d ws a n vs = (ps : List (Placed d)) (gs : List Piece) → length ps ≡ n → Row d ws a ps gs → Cleared d ws vs a ps gs

-- the same of a release that carries something along, and what it carries then
abbrev pub ClearsWithin : (d : ℕ) (ws : List ℕ) (a n left last : ℕ) (vs : List ℕ) (left' last' : ℕ) → Type 0
ClearsWithin d ws a n left last vs left' last' =
    (ps : List (Placed d)) (gs : List Piece) → length ps ≡ n → Row d ws a ps gs → Ready (under d ps) gs left last
    → Cleared d ws vs a ps gs × Spent (under d ps) gs left left' last'
