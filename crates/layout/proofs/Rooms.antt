-- Finding room: adjacent gaps combined leave a sound arrangement, which closes up to the same; and what is found is no block's and no gap's.
use Rattle.std.proofs.Common.{◌≡◌, ℕ, zero, suc, ◌+◌, ◌-◌, ◌≤◌, cond, ltb, List, [], ◌∷◌, map, refl, ap, ◌∙◌, subst, inl, inr, arith}
use Rattle.std.proofs.lemmas.Bool.{cases_eq, cond-false, cond-true, eq-eqb, le-ltb, ne_eqb}
use Rattle.layout.specs.Arrangement.{Arrangement, Codes, Data, Piece, Placed, Vacant, blocks, concat, pieces}
use Rattle.layout.specs.Gaps.{GapFound, a_gap, combined, first_fit_of, gap_at, join, link}
use Rattle.layout.specs.Holds.{Displays}
use Rattle.layout.specs.Keeping.{tidied}
use Rattle.layout.specs.Placement.{closed_up, gap_below, move, with_gaps}
use Rattle.layout.specs.Sound.{Each, Sound, covered, covers}
use Rattle.layout.specs.Words.{total, words_of}
use Rattle.layout.proofs.Change.{Climbs, at_most_1, stronger, weaker}
use Rattle.layout.proofs.CloseCells.{one_gap}
use Rattle.layout.proofs.Cover.{above, among, below, each_left, each_right, each_start, lies}
use Rattle.layout.proofs.Kept.{closed_up_sound}
use Rattle.layout.proofs.GivenUp.{link_climbs, link_covered, link_each}
use Rattle.layout.proofs.Laws.{tidy_left}
use Rattle.layout.proofs.Order.{Some, blocks_some}
use Rattle.layout.proofs.Taken.{Tried, combine_same, failed, first_fits, fitted}
use Rattle.layout.proofs.Written.{words_shown}

-- ── Other gaps over the same words ─────────────────────────────────────

module _ (A : Arrangement) (o : Sound A) where
  regapped : (gs : List Piece) → ((y : ℕ) → covered y gs ≡ covered y A.gaps) → Each Some gs → Climbs gs → Sound (with_gaps A gs)
  regapped gs cover sized climbs = record {
    names_64 = o.names_64;
    least = o.least;
    most = o.most;
    tiled = record {
      once = λ y. omega (arith, o.tiled.once y, cover y);
      sized = sized;
      ascends = stronger gs sized (λ y. omega (arith, o.tiled.once y, cover y, at_most_1 y 65 (A.count - 65))) climbs;
    };
    good = o.good;
  }

  pub combined_sound : Sound (with_gaps A (combined A.gaps))
  combined_sound =
      let m = combine_same A.gaps o.tiled.sized (weaker A.gaps o.tiled.ascends) in
      regapped (combined A.gaps) m.cover m.sized m.climbs

  -- the n words that the first fit takes out of the chain, linked back in
  carved : (n x : ℕ) (left : List Piece) {fit : GapFound} → Tried n A.gaps fit → fit ≡ gap_at x left → 1 ≤ n
      → Sound (with_gaps A (link (record { start = x; size = n }) left))
  carved n x left (failed small) e some = let z : ◌≡◌ {A = ℕ} 0 1 = cc in absurd (omega arith)
  carved n x left (fitted {x = x'} {left = left'} cover sized climbs from) e some =
      let p : x' ≡ x = cc in
      let q : left' ≡ left = cc in
      let g : Piece = record { start = x; size = n } in
      regapped (link g left)
      (λ y. omega (
        arith,
        link_covered y g left,
        cover y,
        ap (λ (k : ℕ). covers y (record { start = k; size = n })) p,
        ap (covered y) q,
      ))
      (link_each Some g left some (subst (Each Some) q sized))
      (link_climbs g left (subst Climbs q climbs))

  pub fit_sound : (n x : ℕ) (left : List Piece) → first_fit_of n A.gaps ≡ gap_at x left → 1 ≤ n
      → Sound (with_gaps A (link (record { start = x; size = n }) left))
  fit_sound n x left e some =
      carved n x left
      (first_fits n A.gaps o.tiled.sized (weaker A.gaps o.tiled.ascends)
      (λ y. omega (arith, o.tiled.once y, at_most_1 y 65 (A.count - 65))))
      e some

-- ── Combined gaps close up to the same ─────────────────────────────────

join_total : (g : Piece) (gs : List Piece) → total (join g gs) ≡ g.size + total gs
join_total g [] = refl
join_total g (h ∷ hs) =
    elim (cases_eq (g.start + g.size) h.start) [
      | inl q ↦ ap total (cond-true _ _ _ (eq-eqb (g.start + g.size) h.start q)) ∙ omega arith
      | inr q ↦ ap total (cond-false _ _ _ (ne_eqb (g.start + g.size) h.start q))
    ]

pub combined_total : (gs : List Piece) → total (combined gs) ≡ total gs
combined_total [] = refl
combined_total (g ∷ gs) = omega (arith, join_total g (combined gs), combined_total gs)

-- the words in gaps below an address that lies in none
no_words : (g : Piece) (s : ℕ) → s ≤ g.start → cond (ltb g.start s) g.size 0 ≡ 0
no_words g s h = cond-false _ _ _ (le-ltb g.start s h)

join_below : (s : ℕ) (g : Piece) (gs : List Piece) → Some g → Each Some gs → covered s (g ∷ gs) ≡ 0 → gap_below s (join g gs) ≡ gap_below s (g ∷ gs)
join_below s g [] a e z = refl
join_below s g (h ∷ hs) a e z =
    elim (cases_eq (g.start + g.size) h.start) [
      | inr q ↦ ap (gap_below s) (cond-false _ _ _ (ne_eqb (g.start + g.size) h.start q))
      | inl q ↦
          let m : Piece = record { start = g.start; size = g.size + h.size } in
          ap (gap_below s) (cond-true _ _ _ (eq-eqb (g.start + g.size) h.start q))
          ∙ elim (lies s g.start g.size) [
            | below l k ↦ omega (arith, no_words m s (omega arith), no_words g s (omega arith), no_words h s (omega arith))
            | among l k c ↦ absurd (omega arith)
            | above l k ↦ elim (lies s h.start h.size) [
              | below u v ↦ absurd (omega arith)
              | among u v c ↦ absurd (omega arith)
              | above u v ↦
                  omega (
                    arith,
                    e.0,
                    one_gap g.start (g.size + h.size) s (omega (arith, a)),
                    one_gap g.start g.size s (omega (arith, a)),
                    one_gap h.start h.size s (omega (arith, e.0)),
                  )
            ]
          ]
    ]

combined_below : (s : ℕ) (gs : List Piece) → Each Some gs → Climbs gs → covered s gs ≡ 0 → gap_below s (combined gs) ≡ gap_below s gs
combined_below s [] e c z = refl
combined_below s (g ∷ gs) e c z =
    let m = combine_same gs e.1 c.1 in
    omega (arith, join_below s g (combined gs) e.0 m.sized (omega (arith, m.cover s)), combined_below s gs e.1 c.1 (omega arith))

-- two moves that agree where blocks begin
module _ (f g : ℕ → ℕ) where
  abbrev Alike : Piece → Type 0
  Alike p = f p.start ≡ g p.start

  move_all : (d : ℕ) → ((p : Placed d) → Each Alike (pieces d p) → move f d p ≡ move g d p)
      → (ps : List (Placed d)) → Each Alike (concat (map (pieces d) ps)) → map (move f d) ps ≡ map (move g d) ps
  move_all d h [] e = refl
  move_all d h (p ∷ ps) e =
      ap (λ (q : Placed d). q ∷ map (move f d) ps) (h p (each_left Alike (pieces d p) (concat (map (pieces d) ps)) e))
      ∙ ap (λ (qs : List (Placed d)). move g d p ∷ qs) (move_all d h ps (each_right Alike (pieces d p) (concat (map (pieces d) ps)) e))

  move_same : (d : ℕ) (p : Placed d) → Each Alike (pieces d p) → move f d p ≡ move g d p
  move_same zero p e = refl
  move_same (suc d) Vacant e = refl
  move_same (suc d) (Data s b t ws) e = ap (λ (k : ℕ). Data k b t ws) e.0
  move_same (suc d) (Codes s b ps) e =
      ap (λ (k : ℕ). Codes k b (map (move f d) ps)) e.0 ∙ ap (λ (qs : List (Placed d)). Codes (g s) b qs) (move_all d (move_same d) ps e.1)

pub combined_closes : (A : Arrangement) → Sound A → closed_up (with_gaps A (combined A.gaps)) ≡ closed_up A
combined_closes A o =
    let gs = A.gaps in
    let f : ℕ → ℕ = λ s. s - gap_below s (combined gs) in
    let g : ℕ → ℕ = λ s. s - gap_below s gs in
    let alike : Each (Alike f g) (blocks A.names) =
    each_start (λ y. f y ≡ g y) (blocks A.names) (blocks_some A.names)
    (λ y h. ap (λ (k : ℕ). y - k)
    (combined_below y gs o.tiled.sized (weaker gs o.tiled.ascends) (omega (arith, o.tiled.once y, at_most_1 y 65 (A.count - 65))))) in
    ap (λ (ns : List (Placed 4)). record { count = A.count; names = ns; gaps = a_gap (A.count - total (combined gs)) (total (combined gs)) })
    (move_all f g 4 (move_same f g 4) A.names alike)
    ∙ ap (λ (n : ℕ). record { count = A.count; names = map (move g 4) A.names; gaps = a_gap (A.count - n) n }) (combined_total gs)

-- ── What a tidy leaves ─────────────────────────────────────────────────

pub tidied_shown : (A : Arrangement) → Sound A → (ws : List ℕ) → Displays ws A → Displays (tidied ws) (closed_up A)
tidied_shown A o ws s =
    let d = words_shown (closed_up A) (closed_up_sound A o) in
    subst (λ (us : List ℕ). Displays us (closed_up A)) (tidy_left ws (words_of (closed_up A)) A o s d) d
