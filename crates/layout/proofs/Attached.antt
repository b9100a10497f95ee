-- A block that was found room for is labelled at a place that labels nothing: the words display it.
use Rattle.std.proofs.Common.{◌≡◌, ℕ, zero, suc, ◌+◌, ◌<◌, ◌≤◌, Bool, true, false, ◌≢◌, List, ◌∷◌, ◌++◌, length, get_or, set, replicate, ℤ, sym, refl, ap, ◌∙◌, subst, add-zero, arith, length-set, get_or-set_other, get_or-set_same}
use lib.ListN.{length-replicate}
use Rattle.booking.specs.declared.trace.Trace.{Trace}
use Rattle.codeword.specs.Codeword.{packed}
use Rattle.layout.specs.Arrangement.{Arrangement, Placed, Spot, Vacant, vacant}
use Rattle.layout.specs.Gaps.{link}
use Rattle.layout.specs.Holds.{Displays}
use Rattle.layout.specs.Placement.{with_gaps}
use Rattle.layout.specs.Places.{at_trace}
use Rattle.layout.specs.Rearranged.{new_spot}
use Rattle.layout.specs.Released.{run}
use Rattle.layout.specs.Sound.{Each, Sound, covered, covers}
use Rattle.layout.specs.Words.{cells, cells_along, datum_at, gap_cells, labelling, none}
use Rattle.layout.proofs.Cells.{Shown}
use Rattle.layout.proofs.Cover.{covers_yes, each-++, each_left, each_right}
use Rattle.layout.proofs.Frame.{cell, displays, inner_zero, live, to_shown}
use Rattle.layout.proofs.Hits.{here, here_yes, hits, hits-++, hits_gaps, one_word_each}
use Rattle.layout.proofs.GivenUp.{link_covered, link_others}
use Rattle.layout.proofs.Order.{Some}
use Rattle.layout.proofs.Place.{Stands}
use Rattle.layout.proofs.Rewritten.{each_kept, live_shown}

-- ── Words of 0 ─────────────────────────────────────────────────────────

module _ (us : List ℕ) where
  abbrev Zeros : ℕ → ℕ → Type 0
  Zeros a n = (k : ℕ) → k < n → get_or us (a + k) 0 ≡ 0

  first_zero : (a n : ℕ) → Zeros a (suc n) → get_or us a 0 ≡ 0
  first_zero a n z = subst (λ (y : ℕ). get_or us y 0 ≡ 0) (add-zero a) (z 0 (omega arith))

  later_zeros : (a n : ℕ) → Zeros a (suc n) → Zeros (a + 1) n
  later_zeros a n z k h = subst (λ (y : ℕ). get_or us y 0 ≡ 0) (let e : a + suc k ≡ a + 1 + k = omega arith in e) (z (suc k) (omega arith))

  zeros_shown : (a n : ℕ) → Zeros a n → Each (Shown us) (cells_along datum_at a (replicate n 0))
  zeros_shown a zero z = tt
  zeros_shown a (suc n) z = (first_zero a n z, zeros_shown (a + 1) n (later_zeros a n z))

  pub nothing_shown : (d a : ℕ) → get_or us a 0 ≡ 0 → Each (Shown us) (cells d a (vacant d))
  nothing_shown zero a z = (z, tt)
  nothing_shown (suc d) a z = (z, tt)

  nothings_shown : (d a n : ℕ) → Zeros a n → Each (Shown us) (cells_along (cells d) a (replicate n (vacant d)))
  nothings_shown d a zero z = tt
  nothings_shown d a (suc n) z =
      each-++ (Shown us) (cells d a (vacant d)) (cells_along (cells d) (a + 1) (replicate n (vacant d)))
      (nothing_shown d a (first_zero a n z)) (nothings_shown d (a + 1) n (later_zeros a n z))

  -- a table has type 0
  new_shown : (n : ℕ) (b : ℤ) (c : Bool) (ty s y d : ℕ) (q : Spot (Placed d)) → (c ≡ true → ty ≡ 0) → get_or us y 0 ≡ packed (labelling (s + 1) n b c ty)
      → get_or us s 0 ≡ y → Zeros (s + 1) n → Each (Shown us) (cells (suc d) y (new_spot n b c ty s d q))
  new_shown n b true ty s y d q t w e z = (
    w ∙ ap (λ (k : ℕ). packed (labelling (s + 1) n b true k)) (t refl) ∙ ap (λ (k : ℕ). packed (labelling (s + 1) k b true 0)) (sym (length-replicate n (vacant d))),
    (e, nothings_shown d (s + 1) n z),
  )
  new_shown n b false ty s y d q t w e z =
      (w ∙ ap (λ (k : ℕ). packed (labelling (s + 1) k b false ty)) (sym (length-replicate {A = ℕ} n 0)), (e, zeros_shown (s + 1) n z))

-- ── In an arrangement with room ────────────────────────────────────────

module _ (xs : List ℕ) (B : Arrangement) (t : Trace) (n start at depth : ℕ) (s : Displays xs B)
    (o : Sound (with_gaps B (link (run start (n + 1)) B.gaps))) (st : Stands xs B t at depth Vacant)
    (clean : (k : ℕ) → 1 ≤ k → k < n + 1 → get_or xs (start + k) 0 ≡ 0) where
  sized : Each Some B.gaps
  sized = link_others Some (run start (n + 1)) B.gaps o.tiled.sized

  -- header, the room, gaps, and the cells with that of the place apart: no address is that of two
  once : (y : ℕ) → here y 0 + covers y (run start (n + 1)) + covered y B.gaps + hits y st.before + here y at + hits y st.after ≤ 1
  once y =
      let p = run start (n + 1) in
      omega (
        arith,
        one_word_each (with_gaps B (link p B.gaps)) o y,
        hits-++ y (gap_cells (link p B.gaps)) (live B.names),
        hits_gaps y (link p B.gaps) o.tiled.sized,
        link_covered y p B.gaps,
        ap (hits y) st.here,
        hits-++ y st.before (cell at none ∷ st.after),
      )

  start_covers : covers start (run start (n + 1)) ≡ 1
  start_covers = covers_yes start start (n + 1) (omega arith) (omega arith)

  module _ (code : ℕ) where
    abbrev us : List ℕ
    us = set (set xs at code) start at

    kept : (y : ℕ) → here y at ≡ 0 → covers y (run start (n + 1)) ≡ 0 → get_or us y 0 ≡ get_or xs y 0
    kept y h k =
        get_or-set_other (set xs at code) start y at 0 (λ e. omega (arith, k, subst (λ (z : ℕ). covers z (run start (n + 1)) ≡ 1) (sym e) start_covers))
        ∙ get_or-set_other xs at y code 0 (λ e. omega (arith, h, subst (λ (z : ℕ). here z at ≡ 1) (sym e) (here_yes at)))

    apart : start ≢ at
    apart e = omega (arith, once at, here_yes at, subst (λ (z : ℕ). covers z (run start (n + 1)) ≡ 1) e start_covers)

    long : length us ≡ length xs
    long = length-set (set xs at code) start at ∙ length-set xs at code

    pub attached_shown : (b : ℤ) (c : Bool) (ty : ℕ) → (c ≡ true → ty ≡ 0) → code ≡ packed (labelling (start + 1) n b c ty) → start < length xs
        → Displays us (at_trace (new_spot n b c ty start) t B)
    attached_shown b c ty table is inside =
        let f : (d : ℕ) → Spot (Placed d) → Spot (Placed d) = new_spot n b c ty start in
        let gs = gap_cells B.gaps in
        let all : Each (Shown xs) (st.before ++ (cell at none ∷ st.after)) = subst (Each (Shown xs)) st.here (live_shown xs B s) in
        let front : Each (Shown us) st.before =
        each_kept xs us st.before (λ y h. kept y (omega (arith, once y)) (omega (arith, once y))) (each_left (Shown xs) st.before (cell at none ∷ st.after) all) in
        let behind : Each (Shown us) st.after =
        each_kept xs us st.after (λ y h. kept y (omega (arith, once y)) (omega (arith, once y))) (each_right (Shown xs) st.before (cell at none ∷ st.after) all).1 in
        let w : get_or us at 0 ≡ packed (labelling (start + 1) n b c ty) =
        get_or-set_other (set xs at code) start at at 0 (λ e. apart (sym e)) ∙ get_or-set_same xs at code 0 st.inside ∙ is in
        let e : get_or us start 0 ≡ at = get_or-set_same (set xs at code) start at 0 (omega (arith, length-set xs at code)) in
        let zeros : (k : ℕ) → k < n → get_or us (start + 1 + k) 0 ≡ 0 =
        λ k h. let y = start + 1 + k in
        let same : y ≡ start + (1 + k) = omega arith in
        let cov : covers y (run start (n + 1)) ≡ 1 = covers_yes y start (n + 1) (omega arith) (omega arith) in
        get_or-set_other (set xs at code) start y at 0 (λ z. omega arith)
        ∙ get_or-set_other xs at y code 0 (λ z. omega (arith, once at, here_yes at, subst (λ (x : ℕ). covers x (run start (n + 1)) ≡ 1) z cov))
        ∙ ap (λ (x : ℕ). get_or xs x 0) same ∙ clean (1 + k) (omega arith) (omega arith) in
        let new = new_shown us n b c ty start at depth Vacant table w e zeros in
        displays us (at_trace f t B) (long ∙ s.count) (
          kept 0 (omega (arith, once 0, here_yes 0)) (omega (arith, once 0, here_yes 0)) ∙ s.header,
          each-++ (Shown us) gs (live (at_trace f t B).names)
              (each_kept xs us gs (λ y h. kept y (omega (arith, once y, hits_gaps y B.gaps sized)) (omega (arith, once y, hits_gaps y B.gaps sized)))
              (each_left (Shown xs) gs (live B.names) (to_shown xs B s).1))
              (subst (Each (Shown us)) (sym (st.there f)) (each-++ (Shown us) st.before (cells (suc depth) at (f depth Vacant) ++ st.after) front
              (each-++ (Shown us) (cells (suc depth) at (f depth Vacant)) st.after new behind))),
        )
        (λ y k. kept y (omega (arith, once y, hits_gaps y B.gaps sized)) (omega (arith, once y, hits_gaps y B.gaps sized)) ∙ inner_zero xs B.gaps s.chain y k)
