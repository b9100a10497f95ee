-- The words of a sound arrangement show its chain, and a change of the chain leaves the names shown.
use Rattle.std.proofs.Common.{ℕ, ◌+◌, ◌≤◌, List, [], ◌∷◌, map, ◌∙◌, subst, arith}
use Rattle.layout.specs.Arrangement.{Arrangement, Piece}
use Rattle.layout.specs.Chains.{Chained, Relinked, Rising}
use Rattle.layout.specs.Holds.{Displays, Shows}
use Rattle.layout.specs.Placement.{with_gaps}
use Rattle.layout.specs.Sound.{Each, Sound}
use Rattle.layout.specs.Words.{cells}
use Rattle.ledger.specs.Trees.{sum}
use Rattle.layout.proofs.Cells.{Shown, cells→shows, from_cells}
use Rattle.layout.proofs.Chains.{rising_more}
use Rattle.layout.proofs.Frame.{live}
use Rattle.layout.proofs.Live.{each_in, in_each, no_gap_there, past_header}
use Rattle.layout.proofs.Order.{Tile, idle, idles, ordered, size, used}
use Rattle.layout.proofs.Rewritten.{live_shown}

rising_idles : (a : ℕ) (ts : List Tile) → Each (λ t. 1 ≤ size t) ts → Rising a (idles a ts) (a + sum (map size ts))
rising_idles a [] e = omega arith
rising_idles a (idle n ∷ ts) e =
    (omega arith, e.0, subst (Rising (a + n) (idles (a + n) ts)) (omega arith) (rising_idles (a + n) ts e.1))
rising_idles a (used n ∷ ts) e =
    rising_more a (a + n) (idles (a + n) ts) _ (omega arith) (subst (Rising (a + n) (idles (a + n) ts)) (omega arith) (rising_idles (a + n) ts e.1))

module _ (A : Arrangement) (o : Sound A) where
  rising_gaps : Rising 65 A.gaps A.count
  rising_gaps =
      let r = ordered A o.least o.tiled in
      subst (λ (gs : List Piece). Rising 65 gs A.count) r.gaps_are
      (subst (Rising 65 (idles 65 r.order)) r.filled (rising_idles 65 r.order r.not_empty))

  module _ (ws : List ℕ) (s : Displays ws A) where
    pub chained : Chained ws A.gaps
    chained = record { few = omega (arith, s.count, o.most); rising = rw s.count rising_gaps; header = s.header; chain = s.chain }

    pub relinked : (us : List ℕ) (gs : List Piece) → Relinked ws us A.gaps gs → Displays us (with_gaps A gs)
    relinked us gs R = record {
      count = R.long ∙ s.count;
      header = R.chained.header;
      names = from_cells (Shown us) (Shows 4 us) (cells 4) (cells→shows us 4) 1 A.names
          (in_each (Shown us) (live A.names) (λ c m.
          R.kept c.at (past_header A o c.at c.says m) (no_gap_there A o c.at c.says m)
          ∙ each_in (Shown ws) (live A.names) (live_shown ws A s) c m));
      chain = R.chained.chain;
    }
