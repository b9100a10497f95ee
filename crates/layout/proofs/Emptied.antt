-- A block becomes a gap once the arrays below its elements are released.
use Rattle.std.proofs.Common.{◌≡◌, ℕ, ◌+◌, ◌-◌, ◌<◌, ◌≤◌, List, ◌∷◌, ◌++◌, length, get_or, set, sym, ◌∙◌, subst, arith, length-set, get_or-set_other, get_or-set_same}
use Rattle.layout.specs.Arrangement.{Piece}
use Rattle.layout.specs.Chains.{Chained, Loose, Relinked, Rising}
use Rattle.layout.specs.Gaps.{link_all}
use Rattle.layout.specs.Released.{run}
use Rattle.layout.specs.Sound.{covered, covers}
use Rattle.layout.proofs.Chains.{chain_same, outside}
use Rattle.layout.proofs.Cover.{above, among, below, covered-++, covers_yes, lies}
use Rattle.layout.proofs.GivenUp.{all_covered}

-- ── A word in no gap is written ────────────────────────────────────────

chained_set : (ws : List ℕ) (at w : ℕ) (gs : List Piece) → 1 ≤ at → covered at gs ≡ 0 → Chained ws gs → Chained (set ws at w) gs
chained_set ws at w gs h o G =
    let n = length-set ws at w in
    record {
      few = omega (arith, n, G.few);
      rising = subst (Rising 65 gs) (sym n) G.rising;
      header = get_or-set_other ws at 0 w 0 (λ z. omega arith) ∙ G.header;
      chain = chain_same ws (set ws at w) 65 gs (length ws) G.rising
          (λ y k. get_or-set_other ws at y w 0 (λ z. k (outside y gs (subst (λ (x : ℕ). covered x gs ≡ 0) (sym z) o)))) G.chain;
    }

-- ── A piece among the others ───────────────────────────────────────────

module _ (own : Piece) (rest gs : List Piece) (n : ℕ)
    (apart : (y : ℕ) → covered y (own ∷ rest) + covered y gs ≤ covers y (run 65 (n - 65))) where
  -- what has all its words in S
  own_high : 1 ≤ own.size → 65 ≤ own.start
  own_high h =
      let one = covers_yes own.start own.start own.size (omega arith) (omega arith) in
      elim (lies own.start 65 (n - 65)) [ below l e ↦ absurd (omega (arith, apart own.start)) | among l k e ↦ l | above l e ↦ absurd (omega (arith, apart own.start)) ]

  pub own_inside : 1 ≤ own.size → own.start + own.size ≤ n
  own_inside h =
      let y = own.start + own.size - 1 in
      let one = covers_yes y own.start own.size (omega arith) (omega arith) in
      elim (lies y 65 (n - 65)) [ below l e ↦ absurd (omega (arith, apart y)) | among l k e ↦ omega arith | above l e ↦ absurd (omega (arith, apart y)) ]

  -- it can be linked once the others are
  pub own_loose : 1 ≤ own.size → Loose own (link_all rest gs) n
  own_loose h = record {
    some = h;
    high = own_high h;
    inside = own_inside h;
    apart = λ y. elim (lies y 65 (n - 65)) [
      | below l e ↦ omega (arith, apart y, all_covered y rest gs)
      | among l k e ↦ omega (arith, apart y, all_covered y rest gs)
      | above l e ↦ omega (arith, apart y, all_covered y rest gs)
    ];
  }

-- a block of which some words may have changed is linked behind the others, and its codeword is 0
pub block_gone : (ws us vs : List ℕ) (at : ℕ) (some own : Piece) (rest gs : List Piece) → 1 ≤ at → at < length ws
    → covered at (own ∷ rest) + covered at gs ≡ 0 → ((y : ℕ) → covers y some ≤ covers y own)
    → Relinked ws us (some ∷ rest ++ gs) (link_all rest gs) → Relinked us vs (own ∷ link_all rest gs) (link_all (own ∷ rest) gs)
    → Relinked ws (set vs at 0) (run at 1 ∷ (own ∷ rest) ++ gs) (link_all (own ∷ rest) gs) × (get_or (set vs at 0) at 0 ≡ 0)
block_gone ws us vs at some own rest gs past inside free within R S = (
  record {
    long = length-set vs at 0 ∙ S.long ∙ R.long;
    chained = chained_set vs at 0 (link_all (own ∷ rest) gs) past (omega (arith, all_covered at (own ∷ rest) gs)) S.chained;
    kept = λ y lo h.
        get_or-set_other vs at y 0 0 (λ z. omega (arith, h, subst (λ (k : ℕ). covers k (run at 1) ≡ 1) (sym z) (covers_yes at at 1 (omega arith) (omega arith))))
        ∙ S.kept y lo (omega (arith, h, covered-++ y rest gs, all_covered y rest gs))
        ∙ R.kept y lo (omega (arith, h, covered-++ y rest gs, within y));
  },
  get_or-set_same vs at 0 0 (omega (arith, inside, S.long, R.long)),
)
