-- Two codewords change places, with what lies below them.
use Rattle.std.proofs.Common.{◌≡◌, ℕ, suc, ◌+◌, ◌^◌, ◌<◌, ◌≤◌, true, List, ◌++◌, length, get_or, set, ℤ, sym, refl, ap, ◌∙◌, subst, inl, inr, arith, length-set, get_or-set_other, get_or-set_same}
use Rattle.std.proofs.lemmas.List.{set-get_or}
use Rattle.std.proofs.lemmas.Bool.{cases_eq}
use Rattle.booking.specs.declared.trace.Trace.{Trace}
use Rattle.ledger.specs.Lists.{swap}
use Rattle.layout.specs.Arrangement.{Arrangement, Codes, Placed, vacant}
use Rattle.layout.specs.Elements.{relabelled}
use Rattle.layout.specs.Holds.{Displays, Shows}
use Rattle.layout.specs.Sound.{Each, Sound}
use Rattle.layout.specs.Words.{Cell, cells, cells_along, label, word, written}
use Rattle.layout.proofs.Bridge.{Fits}
use Rattle.layout.proofs.Cells.{Shown}
use Rattle.layout.proofs.Change.{each_get}
use Rattle.layout.proofs.Cover.{each-++, each_left, each_right}
use Rattle.layout.proofs.Frame.{live, redisplayed}
use Rattle.layout.proofs.Hits.{here, here_yes, hits, hits-++}
use Rattle.layout.proofs.WalkEnd.{along_get}
use Rattle.layout.proofs.Place.{Stands}
use Rattle.layout.proofs.Rewritten.{each_kept, live_shown, once_live, written-++}
use Rattle.layout.proofs.Written.{written_length, written_other, written_shows}
use Rattle.layout.proofs.Tops.{at_place, by_place, cells_are, cells_hits, code, codeword_is, one_hit, relabel_is, rest, starts, tops, tops_hits, tops_inside, two_hits, written_same}

-- ── The exchange ───────────────────────────────────────────────────────

module _ (ws : List ℕ) (A : Arrangement) (o : Sound A) (s : Displays ws A) (t : Trace) (at d start : ℕ) (b : ℤ) (ps : List (Placed d))
    (st : Stands ws A t at d (Codes start b ps)) where
  abbrev along : List Cell
  along = cells_along (cells d) (start + 1) ps

  abbrev whole : List (Placed d) → List Cell
  whole qs = st.before ++ (cells (suc d) at (Codes start b qs) ++ st.after)

  mine : Each (Shown ws) (whole ps)
  mine = subst (Each (Shown ws)) st.here (live_shown ws A s)

  few : length ws ≤ 2 ^ 18
  few = omega (arith, s.count, o.most)

  total : (z : ℕ) → hits z (live A.names) ≡ hits z st.before + (here z at + (here z start + hits z along) + hits z st.after)
  total z =
      ap (hits z) st.here ∙ hits-++ z st.before (cells (suc d) at (Codes start b ps) ++ st.after)
      ∙ ap (λ (k : ℕ). hits z st.before + k) (hits-++ z (cells (suc d) at (Codes start b ps)) st.after)

  once : (z : ℕ) → hits z st.before + (here z at + (here z start + hits z along) + hits z st.after) ≤ 1
  once z = subst (λ (k : ℕ). k ≤ 1) (total z) (once_live A o z)

  -- the cells of one element, and its address
  at_m : (m : ℕ) → m < length ps → Each (Shown ws) (cells d (start + 1 + m) (get_or ps m (vacant d)))
  at_m m lm =
      at_place (cells d) (vacant d) (Shown ws) (start + 1) ps m lm
      (each_left (Shown ws) (cells (suc d) at (Codes start b ps)) st.after (each_right (Shown ws) st.before _ mine)).1.1

  code_m : (m : ℕ) → m < length ps → get_or ws (start + 1 + m) 0 ≡ code d (get_or ps m (vacant d))
  code_m m lm = codeword_is ws d (start + 1 + m) (get_or ps m (vacant d)) (along_get (Shows d ws) (start + 1) ps (vacant d) m lm st.shows.2)

  good_m : (m : ℕ) → m < length ps → Fits (length ws) d (get_or ps m (vacant d))
  good_m m lm = each_get (Fits (length ws) d) (vacant d) ps m lm st.fits_in.4

  module _ (m n : ℕ) (lm : m < length ps) (ln : n < length ps) where
    abbrev p : Placed d
    p = get_or ps m (vacant d)

    abbrev q : Placed d
    q = get_or ps n (vacant d)

    abbrev x : ℕ
    x = start + 1 + m

    abbrev y : ℕ
    y = start + 1 + n

    abbrev N : List Cell
    N = tops d x q ++ tops d y p

    abbrev vs : List ℕ
    vs = written N ws

    is_written : relabelled (relabelled ws x (get_or ws y 0)) y (get_or ws x 0) ≡ vs
    is_written =
        ap (λ (w : ℕ). relabelled (relabelled ws x w) y (get_or ws x 0)) (code_m n ln)
        ∙ ap (λ (us : List ℕ). relabelled us y (get_or ws x 0)) (relabel_is ws (length ws) x d q few (good_m n ln))
        ∙ ap (relabelled (written (tops d x q) ws) y) (code_m m lm)
        ∙ relabel_is (written (tops d x q) ws) (length ws) y d p few (good_m m lm)
        ∙ sym (written-++ (tops d x q) (tops d y p) ws)

    N_hits : (z : ℕ) → hits z N ≡ here z x + starts z d q + (here z y + starts z d p)
    N_hits z = omega (arith, hits-++ z (tops d x q) (tops d y p), tops_hits z d x q, tops_hits z d y p)

    kept : (z : ℕ) → hits z (cells d x p) ≡ 0 → hits z (cells d y q) ≡ 0 → get_or vs z 0 ≡ get_or ws z 0
    kept z e f = written_other N ws z (omega (arith, N_hits z, cells_hits z d x p, cells_hits z d y q))

    kept_out : (z : ℕ) → hits z along ≡ 0 → get_or vs z 0 ≡ get_or ws z 0
    kept_out z e =
        kept z (omega (arith, one_hit (cells d) (vacant d) z (start + 1) ps m lm)) (omega (arith, one_hit (cells d) (vacant d) z (start + 1) ps n ln))

    module _ (apart : m ≡ n → ⊥) where
      both : (z : ℕ) → here z x + starts z d p + hits z (rest d p) + (here z y + starts z d q + hits z (rest d q)) ≤ 1
      both z =
          omega (arith, cells_hits z d x p, cells_hits z d y q, two_hits (cells d) (vacant d) z (start + 1) ps m n lm ln apart, once z)

      shown_N : Each (Shown vs) N
      shown_N =
          written_shows N ws (λ z. omega (arith, N_hits z, both z))
          (each-++ (λ c. c.at < length ws) (tops d x q) (tops d y p)
          (tops_inside (length ws) d x q (omega (arith, st.fits_in.2)) (good_m n ln))
          (tops_inside (length ws) d y p (omega (arith, st.fits_in.2)) (good_m m lm)))

      rest_of : (a : ℕ) (r : Placed d) → Each (Shown ws) (cells d a r) → Each (Shown ws) (rest d r)
      rest_of a r e = each_right (Shown ws) (tops d a r) (rest d r) (subst (Each (Shown ws)) (cells_are d a r) e)

      p_there : Each (Shown vs) (cells d y p)
      p_there =
          subst (Each (Shown vs)) (sym (cells_are d y p))
          (each-++ (Shown vs) (tops d y p) (rest d p) (each_right (Shown vs) (tops d x q) (tops d y p) shown_N)
          (each_kept ws vs (rest d p) (λ z h. written_other N ws z (omega (arith, N_hits z, both z))) (rest_of x p (at_m m lm))))

      q_there : Each (Shown vs) (cells d x q)
      q_there =
          subst (Each (Shown vs)) (sym (cells_are d x q))
          (each-++ (Shown vs) (tops d x q) (rest d q) (each_left (Shown vs) (tops d x q) (tops d y p) shown_N)
          (each_kept ws vs (rest d q) (λ z h. written_other N ws z (omega (arith, N_hits z, both z))) (rest_of y q (at_m n ln))))

      other_there : (k : ℕ) → k < length ps → (k ≡ m → ⊥) → (k ≡ n → ⊥) → Each (Shown vs) (cells d (start + 1 + k) (get_or ps k (vacant d)))
      other_there k lk km kn =
          each_kept ws vs _
          (λ z h. kept z
          (omega (arith, two_hits (cells d) (vacant d) z (start + 1) ps k m lk lm km, once z))
          (omega (arith, two_hits (cells d) (vacant d) z (start + 1) ps k n lk ln kn, once z)))
          (at_m k lk)

      there : (k : ℕ) → k < length ps → Each (Shown vs) (cells d (start + 1 + k) (get_or (swap m n (vacant d) ps) k (vacant d)))
      there k lk =
          elim (cases_eq k n) [
            | inl e ↦ subst (λ (j : ℕ). Each (Shown vs) (cells d (start + 1 + j) (get_or (swap m n (vacant d) ps) j (vacant d)))) (sym e)
                (subst (λ (r : Placed d). Each (Shown vs) (cells d y r)) (sym (get_or-set_same (set ps m q) n p (vacant d) (simp length-set ln))) p_there)
            | inr e ↦ elim (cases_eq k m) [
              | inl f ↦ subst (λ (j : ℕ). Each (Shown vs) (cells d (start + 1 + j) (get_or (swap m n (vacant d) ps) j (vacant d)))) (sym f)
                  (subst (λ (r : Placed d). Each (Shown vs) (cells d x r))
                  (sym (get_or-set_other (set ps m q) n m p (vacant d) apart ∙ get_or-set_same ps m q (vacant d) lm)) q_there)
              | inr f ↦ subst (λ (r : Placed d). Each (Shown vs) (cells d (start + 1 + k) r))
                  (sym (get_or-set_other (set ps m q) n k p (vacant d) e ∙ get_or-set_other ps m k q (vacant d) f)) (other_there k lk f e)
            ]
          ]

      length_is : length (swap m n (vacant d) ps) ≡ length ps
      length_is = simp length-set

      all_there : Each (Shown vs) (whole (swap m n (vacant d) ps))
      all_there =
          let own = each_right (Shown ws) st.before _ mine in
          each-++ (Shown vs) st.before _
          (each_kept ws vs st.before (λ z h. kept_out z (omega (arith, once z))) (each_left (Shown ws) st.before _ mine)) (
            kept_out at (omega (arith, once at, here_yes at)) ∙ own.0 ∙ ap (λ (k : ℕ). word (label start k b true 0)) (sym length_is),
            (
              kept_out start (omega (arith, once start, here_yes start)) ∙ own.1.0,
              each-++ (Shown vs) (cells_along (cells d) (start + 1) (swap m n (vacant d) ps)) st.after
                  (by_place (cells d) (vacant d) (Shown vs) (start + 1) (swap m n (vacant d) ps) (λ k l. there k (subst (λ (z : ℕ). k < z) length_is l)))
                  (each_kept ws vs st.after (λ z h. kept_out z (omega (arith, once z)))
                  (each_right (Shown ws) (cells (suc d) at (Codes start b ps)) st.after own)),
            ),
          )

      apart_done : (ns : List (Placed 4)) → live ns ≡ whole (swap m n (vacant d) ps)
          → Displays (relabelled (relabelled ws x (get_or ws y 0)) y (get_or ws x 0)) (record { count = A.count; names = ns; gaps = A.gaps })
      apart_done ns e =
          subst (λ (us : List ℕ). Displays us (record { count = A.count; names = ns; gaps = A.gaps })) (sym is_written)
          (redisplayed ws vs A o s (λ z h. kept_out z (omega (arith, total z))) ns (written_length N ws) (subst (Each (Shown vs)) (sym e) all_there))

  same_done : (m : ℕ) → m < length ps → (ns : List (Placed 4)) → live ns ≡ whole (swap m m (vacant d) ps)
      → Displays (relabelled (relabelled ws (start + 1 + m) (get_or ws (start + 1 + m) 0)) (start + 1 + m) (get_or ws (start + 1 + m) 0))
      (record { count = A.count; names = ns; gaps = A.gaps })
  same_done m lm ns e =
      let r = get_or ps m (vacant d) in
      let a = start + 1 + m in
      let top : Each (Shown ws) (tops d a r) = each_left (Shown ws) (tops d a r) (rest d r) (subst (Each (Shown ws)) (cells_are d a r) (at_m m lm)) in
      let still : relabelled (relabelled ws a (get_or ws a 0)) a (get_or ws a 0) ≡ ws =
      is_written m m lm lm ∙ written_same (tops d a r ++ tops d a r) ws (each-++ (Shown ws) (tops d a r) (tops d a r) top top) in
      let back_again : swap m m (vacant d) ps ≡ ps =
      ap (λ (us : List (Placed d)). set us m r) (set-get_or ps m (vacant d)) ∙ set-get_or ps m (vacant d) in
      subst (λ (us : List ℕ). Displays us (record { count = A.count; names = ns; gaps = A.gaps })) (sym still)
      (redisplayed ws ws A o s (λ z h. refl) ns refl (subst (Each (Shown ws)) (sym (e ∙ ap whole back_again)) mine))

  pub exchange_shown : (m n : ℕ) → m < length ps → n < length ps → (ns : List (Placed 4)) → live ns ≡ whole (swap m n (vacant d) ps)
      → Displays (relabelled (relabelled ws (start + 1 + m) (get_or ws (start + 1 + n) 0)) (start + 1 + n) (get_or ws (start + 1 + m) 0))
      (record { count = A.count; names = ns; gaps = A.gaps })
  exchange_shown m n lm ln ns e =
      elim (cases_eq m n) [
        | inl q ↦ subst
            (λ (k : ℕ). live ns ≡ whole (swap m k (vacant d) ps)
            → Displays (relabelled (relabelled ws (start + 1 + m) (get_or ws (start + 1 + k) 0)) (start + 1 + k) (get_or ws (start + 1 + m) 0))
            (record { count = A.count; names = ns; gaps = A.gaps }))
            q (same_done m lm ns) e
        | inr q ↦ apart_done m n lm ln q ns e
      ]
