-- Where the array at a trace is released, the words display the arrangement in which it is freed.
use Rattle.std.proofs.Common.{◌≡◌, ℕ, zero, suc, ◌+◌, ◌-◌, ◌<◌, ◌≤◌, eqb, List, [], ◌∷◌, ◌++◌, map, length, get_or, sym, ap, ◌∙◌, subst, inl, inr, arith}
use Rattle.std.proofs.lemmas.Bool.{cases_eq, cases_lt, cond-false, ne_eqb}
use Rattle.booking.specs.declared.trace.Trace.{Trace}
use Rattle.layout.specs.Arrangement.{Arrangement, Codes, Data, Piece, Placed, Spot, Vacant, concat, pieces}
use Rattle.layout.specs.Gaps.{link_all}
use Rattle.layout.specs.Holds.{Displays, Shows}
use Rattle.layout.specs.Placement.{with_gaps}
use Rattle.layout.specs.Places.{at_trace}
use Rattle.layout.specs.Rearranged.{freed}
use Rattle.layout.specs.Released.{Released, Rooted, run}
use Rattle.layout.specs.Sound.{Each, Good, Sound, covered, covers}
use Rattle.layout.specs.Words.{cells, gap_cells, none}
use Rattle.layout.proofs.Bridge.{Fits}
use Rattle.layout.proofs.Cells.{Shown, cells→shows, from_cells}
use Rattle.layout.proofs.Cover.{above, among, below, covered-++, covers_yes, each-++, each_imp, each_left, each_right, lies}
use Rattle.layout.proofs.Frame.{cell, live}
use Rattle.layout.proofs.Hits.{here, here_yes, hits, hits-++, hits_cells, hits_gaps, one_word_each}
use Rattle.layout.proofs.Place.{Stands}
use Rattle.layout.proofs.Relink.{chained}
use Rattle.layout.proofs.Rewritten.{each_kept, live_shown}

-- ── An array that fits ─────────────────────────────────────────────────

pub fits_good : (n d : ℕ) (p : Placed d) → Fits n d p → Good d p
fits_good n zero p g = tt
fits_good n (suc d) Vacant g = tt
fits_good n (suc d) (Data s b t ws) g = (g.0, g.3, g.4)
fits_good n (suc d) (Codes s b ps) g = (g.0, g.3, each_imp (Fits n d) (Good d) (fits_good n d) ps g.4)

module _ (n y : ℕ) where
  abbrev Within : Type 0
  Within = (65 ≤ y) × (y < n)

  block_within : (s m c : ℕ) → 65 ≤ s → s + 1 + m ≤ n → (1 ≤ c → Within) → 1 ≤ covers y (record { start = s; size = m + 1 }) + c → Within
  block_within s m c lo hi f h = elim (lies y s (m + 1)) [
    | below l e ↦ f (omega arith)
    | among l k e ↦ (omega arith, omega arith)
    | above l e ↦ f (omega arith)
  ]

  some_within : {X : Type 0} (P : X → Type 0) (f : X → List Piece) → ((x : X) → P x → 1 ≤ covered y (f x) → Within) → (xs : List X) → Each P xs
      → 1 ≤ covered y (concat (map f xs)) → Within
  some_within P f g [] e h = absurd (omega arith)
  some_within P f g (x ∷ xs) e h =
      elim (cases_lt 0 (covered y (f x))) [
        | inl l ↦ g x e.0 (omega arith)
        | inr l ↦ some_within P f g xs e.1 (omega (arith, covered-++ y (f x) (concat (map f xs))))
      ]

  fits_within : (d : ℕ) (p : Placed d) → Fits n d p → 1 ≤ covered y (pieces d p) → Within
  fits_within zero p g h = absurd (omega arith)
  fits_within (suc d) Vacant g h = absurd (omega arith)
  fits_within (suc d) (Data s b t ws) g h = block_within s (length ws) 0 g.1 g.2 (λ k. absurd (omega arith)) h
  fits_within (suc d) (Codes s b ps) g h =
      block_within s (length ps) (covered y (concat (map (pieces d) ps))) g.1 g.2 (some_within (Fits n d) (pieces d) (fits_within d) ps g.4) h

pub word_here : (y a : ℕ) → covers y (run a 1) ≡ here y a
word_here y a =
    elim (cases_eq a y) [
      | inl z ↦ subst (λ (k : ℕ). covers k (run a 1) ≡ here k a) z (covers_yes a a 1 (omega arith) (omega arith) ∙ sym (here_yes a))
      | inr z ↦
          let no_one : here y a ≡ 0 = cond-false {A = ℕ} (eqb a y) 1 0 (ne_eqb a y z) in
          elim (lies y a 1) [ below l e ↦ omega arith | among l k e ↦ absurd (z (omega arith)) | above l e ↦ omega arith ]
    ]

-- ── In an arrangement ──────────────────────────────────────────────────

module _ (ws : List ℕ) (A : Arrangement) (t : Trace) (at depth : ℕ) (spot : Spot (Placed depth)) (o : Sound A) (s : Displays ws A)
    (st : Stands ws A t at depth spot) where
  -- header, gaps, and the cells with those of the spot apart: no address is that of two
  pub once : (y : ℕ)
      → here y 0 + covered y A.gaps + hits y st.before + (here y at + covered y (pieces (suc depth) spot)) + hits y st.after ≤ 1
  once y =
      let C = cells (suc depth) at spot in
      omega (
        arith,
        one_word_each A o y,
        hits-++ y (gap_cells A.gaps) (live A.names),
        hits_gaps y A.gaps o.tiled.sized,
        ap (hits y) st.here,
        hits-++ y st.before (C ++ st.after),
        hits-++ y C st.after,
        hits_cells y (suc depth) at spot,
      )

  pub rooted : Rooted (suc depth) ws at spot A.gaps
  rooted = record {
    chained = chained A o ws s;
    shows = st.shows;
    good = fits_good (length ws) (suc depth) spot st.fits_in;
    past = elim (cases_lt 0 at) [
      | inl l ↦ l
      | inr l ↦ absurd (omega (arith, once at, here_yes at, ap (here at) (let z : at ≡ 0 = omega arith in z)))
    ];
    inside = st.inside;
    own = omega (arith, once at, here_yes at);
    apart = λ y.
        let whole : covered y A.gaps ≤ covers y (record { start = 65; size = length ws - 65 }) =
        subst (λ (n : ℕ). covered y A.gaps ≤ covers y (record { start = 65; size = n - 65 })) (sym s.count) (omega (arith, o.tiled.once y)) in
        elim (cases_lt 0 (covered y (pieces (suc depth) spot))) [
          | inl l ↦
              let w = fits_within (length ws) y (suc depth) spot st.fits_in (omega arith) in
              omega (arith, once y, covers_yes y 65 (length ws - 65) w.0 (omega (arith, w.0, w.1)))
          | inr l ↦ omega (arith, whole)
        ];
  }

  pub freed_shown : (vs : List ℕ) → Released (suc depth) ws vs at spot A.gaps → Displays vs (freed t A)
  freed_shown vs r =
      let R = r.relinked in
      let ps = pieces (suc depth) spot in
      let C = cells (suc depth) at spot in
      let all : Each (Shown ws) (st.before ++ (C ++ st.after)) = subst (Each (Shown ws)) st.here (live_shown ws A s) in
      let kept : (y : ℕ) → 1 ≤ hits y st.before + hits y st.after → get_or vs y 0 ≡ get_or ws y 0 =
      λ y h. R.kept y
      (elim (cases_lt 0 y) [ inl l ↦ l | inr l ↦ absurd (omega (arith, h, once y, here_yes y, ap (here y) (let z : y ≡ 0 = omega arith in z))) ])
      (omega (arith, h, once y, word_here y at, covered-++ y ps A.gaps)) in
      let shown : Each (Shown vs) (st.before ++ (cell at none ∷ st.after)) =
      each-++ (Shown vs) st.before (cell at none ∷ st.after)
      (each_kept ws vs st.before (λ y h. kept y (omega arith)) (each_left (Shown ws) st.before (C ++ st.after) all)) (
        r.emptied,
        each_kept ws vs st.after (λ y h. kept y (omega arith)) (each_right (Shown ws) C st.after (each_right (Shown ws) st.before (C ++ st.after) all)),
      ) in
      let ns : List (Placed 4) = (at_trace (λ d p. Vacant) t A).names in
      subst (λ (zs : List Piece). Displays vs (at_trace (λ d p. Vacant) t (with_gaps A (link_all zs A.gaps)))) (sym (st.looked (λ d p. pieces (suc d) p)))
      (record {
        count = R.long ∙ s.count;
        header = R.chained.header;
        names = from_cells (Shown vs) (Shows 4 vs) (cells 4) (cells→shows vs 4) 1 ns (subst (Each (Shown vs)) (sym (st.there (λ d p. Vacant))) shown);
        chain = R.chained.chain;
      })
