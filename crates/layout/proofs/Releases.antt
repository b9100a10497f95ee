-- Releasing the array at an address, by the codeword that is read there.
use Rattle.std.proofs.Common.{◌≡◌, ℕ, suc, ◌+◌, ◌-◌, ◌<◌, ◌≤◌, true, false, List, [], ◌∷◌, ◌++◌, length, get_or, set, ℤ, sym, refl, ap, ◌∙◌, subst, inl, arith}
use Rattle.std.proofs.lemmas.Bool.{both_ways}
use Rattle.codeword.specs.Codeword.{unpacked}
use Rattle.codeword.specs.declared.Codeword.{Codeword}
use Rattle.layout.specs.Arrangement.{Codes, Data, Piece, Placed, Vacant, pieces}
use Rattle.layout.specs.Chains.{Chained, InChain, Loose, Relinked}
use Rattle.layout.specs.Gaps.{link, link_all}
use Rattle.layout.specs.Released.{Clears, ClearsWithin, LinksAfter, Ready, Released, Releases, ReleasesWithin, Rooted, Row, Spent, run, under}
use Rattle.layout.specs.Sound.{Each, covered, covers}
use Rattle.layout.specs.Words.{labelling, total}
use Rattle.layout.proofs.Carried.{few_words, linked_known}
use Rattle.layout.proofs.Cover.{covers_none}
use Rattle.layout.proofs.Emptied.{block_gone, own_inside, own_loose}
use Rattle.layout.proofs.Order.{Some, concat_some, pieces_some}
use Rattle.layout.proofs.WalkEnd.{shown_label}
use Rattle.layout.proofs.Releasing.{run_within}

-- a piece of so many words from an address on is linked
abbrev pub Links : List ℕ → ℕ → ℕ → List ℕ → Type 0
Links ws at size vs =
    (p : Piece) (gs : List Piece) → p.start ≡ at → p.size ≡ size → Chained ws gs → Loose p gs (length ws) → Relinked ws vs (p ∷ gs) (link p gs)

-- nothing is done
nothing : (d : ℕ) (ws : List ℕ) (at : ℕ) (p : Placed d) (gs : List Piece) → pieces d p ≡ [] → get_or ws at 0 ≡ 0 → Chained ws gs → Released d ws ws at p gs
nothing d ws at p gs e z G = record {
  relinked = record { long = refl; chained = subst (λ (ps : List Piece). Chained ws (link_all ps gs)) (sym e) G; kept = λ y lo h. refl };
  emptied = z;
}

-- no words are linked
none_used : (left last : ℕ) (ps gs : List Piece) → ps ≡ [] → InChain last gs → Spent ps gs left left last
none_used left last ps gs e k = record { used = omega (arith, ap total e); known = subst (λ (qs : List Piece). InChain last (link_all qs gs)) (sym e) k }

pub released_deep : (ws : List ℕ) (at : ℕ) → Releases 0 ws at ws
released_deep ws at p gs r = nothing 0 ws at p gs refl r.shows r.chained

pub released_deep_within : (ws : List ℕ) (at left last : ℕ) → ReleasesWithin 0 ws at left last ws left last
released_deep_within ws at left last p gs r k = (released_deep ws at p gs r, none_used left last (pieces 0 p) gs refl k.known)

-- the elements of a block of codewords
pub elements : (d : ℕ) (ws : List ℕ) (at s : ℕ) (b : ℤ) (ps : List (Placed d)) (gs : List Piece) → Rooted (suc d) ws at (Codes s b ps) gs → Row d ws (s + 1) ps gs
elements d ws at s b ps gs r = record {
  chained = r.chained;
  shows = r.shows.2;
  good = r.good.2;
  past = omega arith;
  inside = omega (arith, own_inside (run s (length ps + 1)) (under d ps) gs (length ws) r.apart (omega arith));
  apart = λ y. omega (arith, r.apart y, run_within y (s + 1) (length ps) s (length ps + 1) (omega arith) (omega arith));
}

module _ (d : ℕ) (ws : List ℕ) (at w : ℕ) (is : w ≡ get_or ws at 0) where
  -- what the codeword says of the block
  pub of_row : (s : ℕ) (b : ℤ) (t : ℕ) (vs : List ℕ) (gs : List Piece) → Rooted (suc d) ws at (Data s b t vs) gs
      → (labelling (s + 1) (length vs) b false t ≡ unpacked w) × (w ≡ 0 → ⊥)
  of_row s b t vs gs r =
      let own : Piece = run s (length vs + 1) in
      let end = own_inside own [] gs (length ws) r.apart (omega arith) in
      shown_label ws r.chained.few w s (length vs) b false t r.good.0 (omega arith) r.good.1 r.good.2 (is ∙ r.shows.0)

  pub of_table : (s : ℕ) (b : ℤ) (ps : List (Placed d)) (gs : List Piece) → Rooted (suc d) ws at (Codes s b ps) gs
      → (labelling (s + 1) (length ps) b true 0 ≡ unpacked w) × (w ≡ 0 → ⊥)
  of_table s b ps gs r =
      let own : Piece = run s (length ps + 1) in
      let end = own_inside own (under d ps) gs (length ws) r.apart (omega arith) in
      shown_label ws r.chained.few w s (length ps) b true 0 r.good.0 (omega arith) r.good.1 (omega arith) (is ∙ r.shows.0)

  -- no array stands there
  pub released_none : w ≡ 0 → Releases (suc d) ws at ws
  released_none z Vacant gs r = nothing (suc d) ws at Vacant gs refl r.shows r.chained
  released_none z (Data s b t vs) gs r = absurd ((of_row s b t vs gs r).1 z)
  released_none z (Codes s b ps) gs r = absurd ((of_table s b ps gs r).1 z)

  pub released_none_within : w ≡ 0 → (left last : ℕ) → ReleasesWithin (suc d) ws at left last ws left last
  released_none_within z left last Vacant gs r k = (released_none z Vacant gs r, none_used left last [] gs refl k.known)
  released_none_within z left last (Data s b t vs) gs r k = absurd ((of_row s b t vs gs r).1 z)
  released_none_within z left last (Codes s b ps) gs r k = absurd ((of_table s b ps gs r).1 z)

  -- the block of a row is linked, and its codeword emptied
  row_gone : (us vs : List ℕ) → vs ≡ set us at 0 → (s : ℕ) (b : ℤ) (t : ℕ) (zs : List ℕ) (gs : List Piece) → Rooted (suc d) ws at (Data s b t zs) gs
      → Relinked ws us (run s (length zs + 1) ∷ gs) (link (run s (length zs + 1)) gs) → Released (suc d) ws vs at (Data s b t zs) gs
  row_gone us vs e s b t zs gs r S =
      let own : Piece = run s (length zs + 1) in
      let R : Relinked ws ws (run (s + 1) 0 ∷ gs) gs = record { long = refl; chained = r.chained; kept = λ y lo h. refl } in
      let T = block_gone ws ws us at (run (s + 1) 0) own [] gs r.past r.inside r.own (λ y. omega (arith, covers_none y (s + 1))) R S in
      record { relinked = subst (λ (z : List ℕ). Relinked ws z (run at 1 ∷ own ∷ gs) (link own gs)) (sym e) T.0; emptied = ap (λ (z : List ℕ). get_or z at 0) e ∙ T.1 }

  -- that of a table is, after those below it
  table_gone : (us vs xs : List ℕ) → xs ≡ set vs at 0 → (s : ℕ) (b : ℤ) (ps : List (Placed d)) (gs : List Piece) → Rooted (suc d) ws at (Codes s b ps) gs
      → Relinked ws us (run (s + 1) (length ps) ∷ under d ps ++ gs) (link_all (under d ps) gs)
      → Relinked us vs (run s (length ps + 1) ∷ link_all (under d ps) gs) (link (run s (length ps + 1)) (link_all (under d ps) gs))
      → Released (suc d) ws xs at (Codes s b ps) gs
  table_gone us vs xs e s b ps gs r R S =
      let own : Piece = run s (length ps + 1) in
      let rest = under d ps in
      let T = block_gone ws us vs at (run (s + 1) (length ps)) own rest gs r.past r.inside r.own
      (λ y. run_within y (s + 1) (length ps) s (length ps + 1) (omega arith) (omega arith)) R S in
      record {
        relinked = subst (λ (z : List ℕ). Relinked ws z (run at 1 ∷ own ∷ rest ++ gs) (link own (link_all rest gs))) (sym e) T.0;
        emptied = ap (λ (z : List ℕ). get_or z at 0) e ∙ T.1;
      }

  module _ (c : Codeword) (read : c ≡ unpacked w) (some : w ≡ 0 → ⊥) where
    module _ (left last : ℕ) where
      -- more words than may be linked: no array that holds together
      pub released_short : left < c.length + 1 → (vs : List ℕ) (left' last' : ℕ) → ReleasesWithin (suc d) ws at left last vs left' last'
      released_short h vs left' last' Vacant gs r k = absurd (some (is ∙ r.shows))
      released_short h vs left' last' (Data s b t zs) gs r k =
          absurd (omega (arith, k.enough, ap (λ (x : Codeword). x.length) ((of_row s b t zs gs r).0 ∙ sym read)))
      released_short h vs left' last' (Codes s b ps) gs r k =
          absurd (omega (arith, k.enough, ap (λ (x : Codeword). x.length) ((of_table s b ps gs r).0 ∙ sym read)))

      pub released_row_within : c.r ≡ false → c.length + 1 ≤ left → (us vs : List ℕ) → LinksAfter ws last (c.first - 1) (c.length + 1) us → vs ≡ set us at 0
          → ReleasesWithin (suc d) ws at left last vs (left - (c.length + 1)) (c.first - 1)
      released_row_within q h us vs L e Vacant gs r k = absurd (some (is ∙ r.shows))
      released_row_within q h us vs L e (Data s b t zs) gs r k =
          let m : labelling (s + 1) (length zs) b false t ≡ c = (of_row s b t zs gs r).0 ∙ sym read in
          let first : c.first - 1 ≡ s = omega (arith, ap (λ (x : Codeword). x.first) m) in
          let n : c.length ≡ length zs = sym (ap (λ (x : Codeword). x.length) m) in
          let own : Piece = run s (length zs + 1) in (
            row_gone us vs e s b t zs gs r
                (L own gs (omega (arith, first)) (omega (arith, n)) r.chained (own_loose own [] gs (length ws) r.apart (omega arith)) k.known),
            record { used = omega (arith, n, k.enough); known = subst (λ (y : ℕ). InChain y (link own gs)) (sym first) (linked_known own gs) },
          )
      released_row_within q h us vs L e (Codes s b ps) gs r k = absurd (both_ways c.r q (sym (ap (λ (x : Codeword). x.r) ((of_table s b ps gs r).0 ∙ sym read))))

      pub released_table_within : c.r ≡ true → c.length + 1 ≤ left → (us vs xs : List ℕ) (left' last' : ℕ)
          → ClearsWithin d ws c.first c.length (left - (c.length + 1)) last us left' last' → LinksAfter us last' (c.first - 1) (c.length + 1) vs → xs ≡ set vs at 0
          → ReleasesWithin (suc d) ws at left last xs left' (c.first - 1)
      released_table_within q h us vs xs left' last' C L e Vacant gs r k = absurd (some (is ∙ r.shows))
      released_table_within q h us vs xs left' last' C L e (Data s b t zs) gs r k =
          absurd (both_ways c.r (sym (ap (λ (x : Codeword). x.r) ((of_row s b t zs gs r).0 ∙ sym read))) q)
      released_table_within q h us vs xs left' last' C L e (Codes s b ps) gs r k =
          let m : labelling (s + 1) (length ps) b true 0 ≡ c = (of_table s b ps gs r).0 ∙ sym read in
          let first : c.first ≡ s + 1 = sym (ap (λ (x : Codeword). x.first) m) in
          let n : c.length ≡ length ps = sym (ap (λ (x : Codeword). x.length) m) in
          let own : Piece = run s (length ps + 1) in
          let rest = under d ps in
          let below = subst (λ (a : ℕ). ClearsWithin d ws a c.length (left - (c.length + 1)) last us left' last') first C ps gs (sym n) (elements d ws at s b ps gs r)
          (record { enough = omega (arith, n, k.enough); known = k.known }) in
          let R = below.0.relinked in (
            table_gone us vs xs e s b ps gs r R
                (L own (link_all rest gs) (omega (arith, first)) (omega (arith, n)) R.chained
                (subst (Loose own (link_all rest gs)) (sym R.long) (own_loose own rest gs (length ws) r.apart (omega arith))) below.1.known),
            record {
              used = omega (arith, n, k.enough, below.1.used);
              known = subst (λ (y : ℕ). InChain y (link own (link_all rest gs))) (let z : s ≡ c.first - 1 = omega arith in z) (linked_known own (link_all rest gs));
            },
          )

-- ── With as many words as the store has ────────────────────────────────

ready : (ps gs : List Piece) (n : ℕ) → Each Some ps → ((y : ℕ) → covered y ps + covered y gs ≤ covers y (run 65 (n - 65))) → Ready ps gs n 0
ready ps gs n e o = record { enough = omega (arith, few_words ps n e (λ y. omega (arith, o y))); known = inl refl }

pub vacates : (d : ℕ) (ws : List ℕ) (at : ℕ) (vs : List ℕ) (left' last' : ℕ) → ReleasesWithin d ws at (length ws) 0 vs left' last' → Releases d ws at vs
vacates d ws at vs left' last' R p gs r = (R p gs r (ready (pieces d p) gs (length ws) (pieces_some d p) r.apart)).0

pub vacates_each : (d : ℕ) (ws : List ℕ) (a n : ℕ) (vs : List ℕ) (left' last' : ℕ) → ClearsWithin d ws a n (length ws) 0 vs left' last' → Clears d ws a n vs
vacates_each d ws a n vs left' last' C ps gs e r =
    (C ps gs e r (ready (under d ps) gs (length ws) (concat_some (pieces d) (pieces_some d) ps) (λ y. omega (arith, r.apart y)))).0
