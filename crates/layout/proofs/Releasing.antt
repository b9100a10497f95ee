-- Releasing an array: element after element, then its own block.
use Rattle.std.proofs.Common.{◌≡◌, ℕ, zero, suc, ◌+◌, ◌-◌, ◌<◌, ◌≤◌, eqb, List, [], ◌∷◌, ◌++◌, map, length, get_or, take, drop, sym, refl, ap, ◌∙◌, subst, inl, inr, append_assoc, append-nil, add-zero, add-one, arith, length-drop, length-take}
use Rattle.std.proofs.lemmas.Bool.{cases_eq, cases_lt, cond-false, ne_eqb}
use Rattle.layout.specs.Arrangement.{Piece, Placed, concat, pieces, vacant}
use Rattle.layout.specs.Chains.{Chained, InChain, Relinked}
use Rattle.layout.specs.Gaps.{link_all}
use Rattle.layout.specs.Holds.{Along, Shows}
use Rattle.layout.specs.Released.{Cleared, ClearsWithin, Released, ReleasesWithin, Rooted, Row, run, under}
use Rattle.layout.specs.Sound.{Good, covered, covers}
use Rattle.layout.specs.Words.{cells, total}
use Rattle.layout.proofs.Cells.{cells→shows, shows→cells}
use Rattle.layout.proofs.Change.{at_most_1, each_get}
use Rattle.layout.proofs.Cover.{above, among, below, covered-++, covers_high, covers_low, covers_split, covers_yes, lies}
use Rattle.layout.proofs.Hits.{hits_cells}
use Rattle.layout.proofs.GivenUp.{all_covered, each_drop, each_take}
use Rattle.layout.proofs.Linking.{all_turn, apart_away}
use Rattle.layout.proofs.Order.{concat_some, pieces_some}
use Rattle.layout.proofs.WalkEnd.{along_get}
use Rattle.layout.proofs.FreeWords.{total-++}
use Rattle.layout.proofs.Rewritten.{each_kept}

-- ── Fronts of a list ───────────────────────────────────────────────────

module _ {X : Type 0} (f : X → List Piece) where
  -- what the first k give
  abbrev front : ℕ → List X → List Piece
  front k xs = concat (map f (take k xs))

  front_more : (k : ℕ) (xs : List X) (v : X) → k < length xs → front (suc k) xs ≡ front k xs ++ f (get_or xs k v)
  front_more k [] v h = absurd (omega arith)
  front_more zero (x ∷ xs) v h = append-nil (f x)
  front_more (suc k) (x ∷ xs) v h =
      ap (λ (ps : List Piece). f x ++ ps) (front_more k xs v (omega arith)) ∙ sym (append_assoc (f x) (front k xs) (f (get_or xs k v)))

  front_whole : (xs : List X) → front (length xs) xs ≡ concat (map f xs)
  front_whole [] = refl
  front_whole (x ∷ xs) = ap (λ (ps : List Piece). f x ++ ps) (front_whole xs)

  front_covered : (y k : ℕ) (xs : List X) → covered y (front k xs) ≤ covered y (concat (map f xs))
  front_covered y zero xs = omega arith
  front_covered y (suc k) [] = omega arith
  front_covered y (suc k) (x ∷ xs) =
      omega (arith, covered-++ y (f x) (front k xs), covered-++ y (f x) (concat (map f xs)), front_covered y k xs)

-- ── Words elsewhere change ─────────────────────────────────────────────

shows_kept : (d : ℕ) (ws vs : List ℕ) (a : ℕ) (p : Placed d) → get_or vs a 0 ≡ get_or ws a 0
    → ((y : ℕ) → 1 ≤ covered y (pieces d p) → get_or vs y 0 ≡ get_or ws y 0) → Shows d ws a p → Shows d vs a p
shows_kept d ws vs a p e h s =
    cells→shows vs d a p (each_kept ws vs (cells d a p) (λ y k. elim (cases_eq a y) [
      | inl z ↦ subst (λ (n : ℕ). get_or vs n 0 ≡ get_or ws n 0) z e
      | inr z ↦ h y (omega (arith, k, hits_cells y d a p, cond-false {A = ℕ} (eqb a y) 1 0 (ne_eqb a y z)))
    ]) (shows→cells ws d a p s))

-- ── Element after element ──────────────────────────────────────────────

-- the words after the first k of them were released
record Passed (d : ℕ) (ws vs : List ℕ) (a k : ℕ) (ps : List (Placed d)) (gs : List Piece) : Type 0 where
  pub relinked : Relinked ws vs (run a k ∷ front (pieces d) k ps ++ gs) (link_all (front (pieces d) k ps) gs)
  pub emptied : (j : ℕ) → j < k → get_or vs (a + j) 0 ≡ 0

-- a run lies in a longer one
pub run_within : (y a m b n : ℕ) → b ≤ a → a + m ≤ b + n → covers y (run a m) ≤ covers y (run b n)
run_within y a m b n lo hi =
    elim (lies y a m) [ below l e ↦ omega arith | among l k e ↦ omega (arith, covers_yes y b n (omega arith) (omega arith)) | above l e ↦ omega arith ]

module _ (d : ℕ) (ws : List ℕ) (a : ℕ) (ps : List (Placed d)) (gs : List Piece) (r : Row d ws a ps gs) where
  module _ (k : ℕ) (l : k < length ps) where
    parts : (y : ℕ) → covered y (front (pieces d) k ps) + covered y (pieces d (get_or ps k (vacant d))) ≤ covered y (concat (map (pieces d) ps))
    parts y =
        let q = get_or ps k (vacant d) in
        omega (
          arith,
          front_covered (pieces d) y (suc k) ps,
          ap (covered y) (front_more (pieces d) k ps (vacant d) l),
          covered-++ y (front (pieces d) k ps) (pieces d q),
        )

    -- the words of the row are in no block and in no gap
    clear : (j : ℕ) → j < length ps → covered (a + j) (concat (map (pieces d) ps)) + covered (a + j) gs ≡ 0
    clear j h = omega (arith, r.apart (a + j), at_most_1 (a + j) 65 (length ws - 65), covers_yes (a + j) a (length ps) (omega arith) (omega arith))

    -- an element of the row shows an array of its own
    pub row_rooted : Rooted d ws (a + k) (get_or ps k (vacant d)) gs
    row_rooted = record {
      chained = r.chained;
      shows = along_get (Shows d ws) a ps (vacant d) k l r.shows;
      good = each_get (Good d) (vacant d) ps k l r.good;
      past = omega (arith, r.past);
      inside = omega (arith, r.inside);
      own = omega (arith, clear k l, parts (a + k));
      apart = λ y. omega (arith, r.apart y, parts y);
    }

    cut : front (pieces d) (k + 1) ps ≡ front (pieces d) k ps ++ pieces d (get_or ps k (vacant d))
    cut = ap (λ (n : ℕ). front (pieces d) n ps) (add-one k) ∙ front_more (pieces d) k ps (vacant d) l

    -- the order in which they are linked does not matter
    same : link_all (front (pieces d) (k + 1) ps) gs ≡ link_all (pieces d (get_or ps k (vacant d))) (link_all (front (pieces d) k ps) gs)
    same =
        let q = get_or ps k (vacant d) in
        let F = front (pieces d) k ps in
        ap (λ (zs : List Piece). link_all zs gs) cut
        ∙ all_turn F (pieces d q) gs
        (apart_away F (pieces d q) (concat_some (pieces d) (pieces_some d) (take k ps)) (pieces_some d q)
        (λ y. omega (arith, at_most_1 y 65 (length ws - 65), r.apart y, parts y)))

    module _ (us : List ℕ) (P : Passed d ws us a k ps gs) where
      -- once the elements before it are released, it shows the same
      pass_next : Rooted d us (a + k) (get_or ps k (vacant d)) (link_all (front (pieces d) k ps) gs)
      pass_next =
          let q = get_or ps k (vacant d) in
          let F = front (pieces d) k ps in
          let R = P.relinked in
          let past = r.past in
          record {
            chained = R.chained;
            shows = shows_kept d ws us (a + k) q
                (R.kept (a + k) (omega arith) (omega (arith, clear k l, parts (a + k), covered-++ (a + k) F gs, covers_high (a + k) a k (omega arith))))
                (λ y h. R.kept y
                (elim (lies y 65 (length ws - 65)) [
                  | below m e ↦ absurd (omega (arith, r.apart y, parts y))
                  | among m n e ↦ omega arith
                  | above m e ↦ omega arith
                ])
                (omega (arith, h, at_most_1 y 65 (length ws - 65), r.apart y, parts y, covered-++ y F gs, run_within y a k a (length ps) (omega arith) (omega arith))))
                (along_get (Shows d ws) a ps (vacant d) k l r.shows);
            good = each_get (Good d) (vacant d) ps k l r.good;
            past = omega arith;
            inside = omega (arith, r.inside, R.long);
            own = omega (arith, clear k l, parts (a + k), all_covered (a + k) F gs);
            apart = λ y. subst (λ (n : ℕ). covered y (pieces d q) + covered y (link_all F gs) ≤ covers y (run 65 (n - 65)))
                (sym R.long) (omega (arith, r.apart y, parts y, all_covered y F gs));
          }

      pass_more : (vs : List ℕ) → Released d us vs (a + k) (get_or ps k (vacant d)) (link_all (front (pieces d) k ps) gs) → Passed d ws vs a (k + 1) ps gs
      pass_more vs D =
          let q = get_or ps k (vacant d) in
          let F : ℕ → List Piece = λ n. front (pieces d) n ps in
          let T = D.relinked in
          let past = r.past in
          record {
            relinked = record {
              long = T.long ∙ P.relinked.long;
              chained = subst (Chained vs) (sym same) T.chained;
              kept = λ y lo h.
                  let c : covered y (F (k + 1)) ≡ covered y (F k) + covered y (pieces d q) = ap (covered y) cut ∙ covered-++ y (F k) (pieces d q) in
                  let both = covered-++ y (F (k + 1)) gs in
                  let split = covers_split y a k 1 in
                  T.kept y lo (omega (arith, h, c, covered-++ y (pieces d q) (link_all (F k) gs), all_covered y (F k) gs))
                  ∙ P.relinked.kept y lo (omega (arith, h, c, covered-++ y (F k) gs));
            };
            emptied = λ j h.
                elim (cases_eq j k) [
                  | inl e ↦ ap (λ (n : ℕ). get_or vs (a + n) 0) e ∙ D.emptied
                  | inr e ↦
                      let y = a + j in
                      let under : j < k = elim (cases_lt j k) [ inl m ↦ m | inr m ↦ absurd (e (omega arith)) ] in
                      T.kept y (omega arith)
                      (omega (arith, clear j (omega arith), parts y, covers_low y (a + k) 1 (omega arith), covered-++ y (pieces d q) (link_all (F k) gs), all_covered y (F k) gs))
                      ∙ P.emptied j under
                ];
          }

-- ── A part of a row ────────────────────────────────────────────────────

module _ {X : Type 0} where
  pub along_drop : (P : ℕ → X → Type 0) (a m : ℕ) (xs : List X) → m ≤ length xs → Along P a xs → Along P (a + m) (drop m xs)
  along_drop P a zero xs h p = subst (λ (k : ℕ). Along P k xs) (sym (add-zero a)) p
  along_drop P a (suc m) [] h p = tt
  along_drop P a (suc m) (x ∷ xs) h p =
      subst (λ (k : ℕ). Along P k (drop m xs)) (let e : a + 1 + m ≡ a + suc m = omega arith in e) (along_drop P (a + 1) m xs (omega arith) p.1)

  pub along_take : (P : ℕ → X → Type 0) (a n : ℕ) (xs : List X) → Along P a xs → Along P a (take n xs)
  along_take P a zero xs p = tt
  along_take P a (suc n) [] p = tt
  along_take P a (suc n) (x ∷ xs) p = (p.0, along_take P (a + 1) n xs p.1)

  drop_covered : (f : X → List Piece) (y m : ℕ) (xs : List X) → covered y (concat (map f (drop m xs))) ≤ covered y (concat (map f xs))
  drop_covered f y zero xs = omega arith
  drop_covered f y (suc m) [] = omega arith
  drop_covered f y (suc m) (x ∷ xs) = omega (arith, covered-++ y (f x) (concat (map f xs)), drop_covered f y m xs)

-- n elements from the m-th on
pub row_part : (d : ℕ) (ws : List ℕ) (a : ℕ) (ps : List (Placed d)) (gs : List Piece) (m n : ℕ) → m + n ≤ length ps → Row d ws a ps gs
    → Row d ws (a + m) (take n (drop m ps)) gs
row_part d ws a ps gs m n h r =
    let qs = take n (drop m ps) in
    let long : length qs ≡ n = omega (arith, length-take n (drop m ps), length-drop m ps) in
    record {
      chained = r.chained;
      shows = along_take (Shows d ws) (a + m) n (drop m ps) (along_drop (Shows d ws) a m ps (omega arith) r.shows);
      good = each_take (Good d) n (drop m ps) (each_drop (Good d) m ps r.good);
      past = omega (arith, r.past);
      inside = omega (arith, long, r.inside);
      apart = λ y.
          omega (
            arith,
            run_within y (a + m) (length qs) a (length ps) (omega arith) (omega (arith, long)),
            r.apart y,
            front_covered (pieces d) y n (drop m ps),
            drop_covered (pieces d) y m ps,
          );
    }

-- ── As the loop goes ───────────────────────────────────────────────────

-- the front of a row
row_front : (d : ℕ) (ws : List ℕ) (a k : ℕ) (ps : List (Placed d)) (gs : List Piece) → k ≤ length ps → Row d ws a ps gs → Row d ws a (take k ps) gs
row_front d ws a k ps gs h r = subst (λ (y : ℕ). Row d ws y (take k ps) gs) (add-zero a) (row_part d ws a ps gs 0 k (omega arith) r)

-- once it is released, it is passed
passed_front : (d : ℕ) (ws us : List ℕ) (a k : ℕ) (ps : List (Placed d)) (gs : List Piece) → length (take k ps) ≡ k → Cleared d ws us a (take k ps) gs
    → Passed d ws us a k ps gs
passed_front d ws us a k ps gs long c = record {
  relinked = subst (λ (m : ℕ). Relinked ws us (run a m ∷ front (pieces d) k ps ++ gs) (link_all (front (pieces d) k ps) gs)) long c.relinked;
  emptied = λ j h. c.emptied j (omega arith);
}

-- once all are passed, they are released
passed_all : (d : ℕ) (ws vs : List ℕ) (a n : ℕ) (ps : List (Placed d)) (gs : List Piece) → length ps ≡ n → Passed d ws vs a n ps gs → Cleared d ws vs a ps gs
passed_all d ws vs a n ps gs e P =
    let Q = subst (λ (m : ℕ). Passed d ws vs a m ps gs) (sym e) P in
    record {
      relinked = subst (λ (zs : List Piece). Relinked ws vs (run a (length ps) ∷ zs ++ gs) (link_all zs gs)) (front_whole (pieces d) ps) Q.relinked;
      emptied = Q.emptied;
    }

module _ (d : ℕ) (ws us vs : List ℕ) (a k left last left₁ last₁ left₂ last₂ : ℕ) where
  pub clears_more_within : ClearsWithin d ws a k left last us left₁ last₁ → ReleasesWithin d us (a + k) left₁ last₁ vs left₂ last₂
      → ClearsWithin d ws a (k + 1) left last vs left₂ last₂
  clears_more_within C R ps gs n r ready =
      let long : length (take k ps) ≡ k = omega (arith, length-take k ps) in
      let q = get_or ps k (vacant d) in
      let F = front (pieces d) k ps in
      let in_row : k < length ps = omega arith in
      let whole : front (pieces d) (k + 1) ps ≡ under d ps = ap (λ (m : ℕ). front (pieces d) m ps) (sym n) ∙ front_whole (pieces d) ps in
      let words : total (under d ps) ≡ total F + total (pieces d q) =
      ap total (sym whole ∙ ap (λ (m : ℕ). front (pieces d) m ps) (add-one k) ∙ front_more (pieces d) k ps (vacant d) in_row) ∙ total-++ F (pieces d q) in
      let c = C (take k ps) gs long (row_front d ws a k ps gs (omega arith) r) (record { enough = omega (arith, ready.enough); known = ready.known }) in
      let P = passed_front d ws us a k ps gs long c.0 in
      let D = R q (link_all F gs) (pass_next d ws a ps gs r k in_row us P) (record { enough = omega (arith, ready.enough, c.1.used); known = c.1.known }) in (
        passed_all d ws vs a (k + 1) ps gs n (pass_more d ws a ps gs r k in_row us P vs D.0),
        record {
          used = omega (arith, c.1.used, D.1.used);
          known = subst (InChain last₂) (sym (same d ws a ps gs r k in_row) ∙ ap (λ (zs : List Piece). link_all zs gs) whole) D.1.known;
        },
      )
