-- The calls that look at, or change, the codeword at the place alone: span and rebase.
use Rattle.std.proofs.Common.{◌≡◌, ℕ, ◌+◌, ◌^◌, ◌≤◌, true, false, List, ◌∷◌, ◌++◌, length, get_or, set, ℤ, Some, None, Ok, sym, ap, ◌∙◌, subst, arith}
use lib.ListN.{length-map}
use Rattle.booking.specs.Bookings.{Done, Rebase, Reply, Span, Spans, granted, on, refused}
use Rattle.booking.specs.Traces.{subscripts}
use Rattle.booking.specs.declared.refusal.Refusal.TheVariants.{BadField, Unlabelled}
use Rattle.booking.specs.declared.trace.Trace.{Trace}
use Rattle.codeword.specs.Codeword.{packed, unpacked}
use Rattle.codeword.specs.declared.Codeword.{Codeword}
use Rattle.ledger.specs.Doors.{bad_base}
use Rattle.ledger.specs.Ledger.{book}
use Rattle.layout.specs.Arrangement.{Codes, Data, Vacant, tree}
use Rattle.layout.specs.Booked.{Booked}
use Rattle.layout.specs.Held.{held_trees}
use Rattle.layout.specs.Holds.{Displays, Holds}
use Rattle.layout.specs.Rearranged.{rearranged, rebased}
use Rattle.layout.specs.Walks.{walked}
use Rattle.layout.specs.Words.{back, cells, cells_along, datum_at, label, labelling}
use Rattle.layout.proofs.Frame.{cell, wrote}
use Rattle.layout.proofs.Owed.{granted_now, granted_owes, place_owes}
use Rattle.layout.proofs.WalkEnd.{door_open, door_shut, reply, shown_label}
use Rattle.layout.proofs.Place.{Reached, booked, came, replied, subscripts_count}

abbrev extent : Codeword → Reply
extent c = granted (Spans (Some (c.base, c.length, c.r, c.kind)))

module _ (ws : List ℕ) (h : Holds ws) (t : Trace) (at w : ℕ) (e : Ok at ≡ walked ws 1 t.name (subscripts t)) (is : w ≡ get_or ws at 0) where
  few : length ws ≤ 2 ^ 18
  few = omega (arith, h.shown.count, h.sound.most)

  none_there : w ≡ 0 → Reached ws h.arrangement t (Ok at) → booked h.arrangement t Span ≡ granted (Spans None)
  none_there z (depth, Vacant, st) = st.asked Span ∙ granted_now _ _
  none_there z (depth, Data s b y vs, st) =
      let g = st.fits_in in absurd ((shown_label ws few (get_or ws at 0) s (length vs) b false y g.0 g.2 g.3 g.4 st.shows.0).1 (sym is ∙ z))
  none_there z (depth, Codes s b ps, st) =
      let g = st.fits_in in absurd ((shown_label ws few (get_or ws at 0) s (length ps) b true 0 g.0 g.2 g.3 (omega arith) st.shows.0).1 (sym is ∙ z))

  some_there : (w ≡ 0 → ⊥) → (c : Codeword) → c ≡ unpacked w → Reached ws h.arrangement t (Ok at) → booked h.arrangement t Span ≡ extent c
  some_there z c u (depth, Vacant, st) = absurd (z (is ∙ st.shows))
  some_there z c u (depth, Data s b y vs, st) =
      let g = st.fits_in in
      let m = shown_label ws few (get_or ws at 0) s (length vs) b false y g.0 g.2 g.3 g.4 st.shows.0 in
      st.asked Span ∙ granted_now _ _ ∙ ap extent (m.0 ∙ ap unpacked (sym is) ∙ sym u)
  some_there z c u (depth, Codes s b ps, st) =
      let g = st.fits_in in
      let m = shown_label ws few (get_or ws at 0) s (length ps) b true 0 g.0 g.2 g.3 (omega arith) st.shows.0 in
      st.asked Span ∙ granted_now _ _
      ∙ ap (λ (n : ℕ). extent (labelling (s + 1) n b true 0)) (length-map ps (tree depth))
      ∙ ap extent (m.0 ∙ ap unpacked (sym is) ∙ sym u)

  -- ── Span ─────────────────────────────────────────────────────────────

  pub span_none : w ≡ 0 → granted (Spans None) ≡ (book (length ws) (held_trees ws) (on t Span)).0
  span_none z = sym (none_there z (came ws h t (Ok at) e)) ∙ replied ws h t Span

  pub span_some : (w ≡ 0 → ⊥) → (c : Codeword) → c ≡ unpacked w → extent c ≡ (book (length ws) (held_trees ws) (on t Span)).0
  span_some z c u = sym (some_there z c u (came ws h t (Ok at) e)) ∙ replied ws h t Span

  -- ── Rebase ───────────────────────────────────────────────────────────

  module _ (base : ℤ) where
    rebase_none : w ≡ 0 → Reached ws h.arrangement t (Ok at) → booked h.arrangement t (Rebase base) ≡ refused (Unlabelled (t.depth + 1))
    rebase_none z (depth, Vacant, st) =
        st.asked (Rebase base) ∙ ap (λ (n : ℕ). refused (Unlabelled n)) (omega (arith, subscripts_count t))
    rebase_none z (depth, Data s b y vs, st) =
        let g = st.fits_in in absurd ((shown_label ws few (get_or ws at 0) s (length vs) b false y g.0 g.2 g.3 g.4 st.shows.0).1 (sym is ∙ z))
    rebase_none z (depth, Codes s b ps, st) =
        let g = st.fits_in in absurd ((shown_label ws few (get_or ws at 0) s (length ps) b true 0 g.0 g.2 g.3 (omega arith) st.shows.0).1 (sym is ∙ z))

    rebase_bad : (w ≡ 0 → ⊥) → bad_base base ≡ true → Reached ws h.arrangement t (Ok at) → booked h.arrangement t (Rebase base) ≡ refused BadField
    rebase_bad z q (depth, Vacant, st) = absurd (z (is ∙ st.shows))
    rebase_bad z q (depth, Data s b y vs, st) = st.asked (Rebase base) ∙ ap (reply _) (door_shut _ _ _ q)
    rebase_bad z q (depth, Codes s b ps, st) = st.asked (Rebase base) ∙ ap (reply _) (door_shut _ _ _ q)

    -- the same codeword with the new base
    abbrev another : Codeword → Codeword
    another c = record { first = c.first; length = c.length; base = base; p = c.p; q = c.q; r = c.r; s = c.s; kind = c.kind }

    rebase_good : (w ≡ 0 → ⊥) → bad_base base ≡ false → (c : Codeword) → c ≡ unpacked w → Reached ws h.arrangement t (Ok at)
        → (booked h.arrangement t (Rebase base) ≡ granted Done) × Displays (set ws at (packed (another c))) (rearranged t (Rebase base) h.arrangement)
    rebase_good z q c u (depth, Vacant, st) = absurd (z (is ∙ st.shows))
    rebase_good z q c u (depth, Data x b y vs, st) =
        let g = st.fits_in in
        let m = shown_label ws few (get_or ws at 0) x (length vs) b false y g.0 g.2 g.3 g.4 st.shows.0 in (
          st.asked (Rebase base) ∙ ap (reply _) (door_open _ _ _ q) ∙ granted_now _ _,
          subst (λ (k : Codeword). Displays (set ws at (packed (another k))) (rearranged t (Rebase base) h.arrangement)) (m.0 ∙ ap unpacked (sym is) ∙ sym u)
              (wrote ws h.arrangement h.sound h.shown _ st.before (cell x (back at) ∷ (cells_along datum_at (x + 1) vs ++ st.after)) at
              (label x (length vs) b false y) (label x (length vs) base false y) st.inside st.here (st.there (rebased base))),
        )
    rebase_good z q c u (depth, Codes x b ps, st) =
        let g = st.fits_in in
        let m = shown_label ws few (get_or ws at 0) x (length ps) b true 0 g.0 g.2 g.3 (omega arith) st.shows.0 in (
          st.asked (Rebase base) ∙ ap (reply _) (door_open _ _ _ q) ∙ granted_now _ _,
          subst (λ (k : Codeword). Displays (set ws at (packed (another k))) (rearranged t (Rebase base) h.arrangement)) (m.0 ∙ ap unpacked (sym is) ∙ sym u)
              (wrote ws h.arrangement h.sound h.shown _ st.before (cell x (back at) ∷ (cells_along (cells depth) (x + 1) ps ++ st.after)) at
              (label x (length ps) b true 0) (label x (length ps) base true 0) st.inside st.here (st.there (rebased base))),
        )

    pub rebase_unlabelled : (j : ℕ) → j ≡ t.depth + 1 → w ≡ 0 → Booked ws (on t (Rebase base)) (refused (Unlabelled j)) ws
    rebase_unlabelled j deep z =
        place_owes ws h t (Rebase base) (Unlabelled j) (rebase_none z (came ws h t (Ok at) e) ∙ ap (λ (n : ℕ). refused (Unlabelled n)) (sym deep))

    pub rebase_refused : (w ≡ 0 → ⊥) → bad_base base ≡ true → Booked ws (on t (Rebase base)) (refused BadField) ws
    rebase_refused z q = place_owes ws h t (Rebase base) BadField (rebase_bad z q (came ws h t (Ok at) e))

    pub rebase_done : (w ≡ 0 → ⊥) → bad_base base ≡ false → (c : Codeword) → c ≡ unpacked w → (us : List ℕ) → us ≡ set ws at (packed (another c))
        → Booked ws (on t (Rebase base)) (granted Done) us
    rebase_done z q c u us v =
        let r = rebase_good z q c u (came ws h t (Ok at) e) in
        granted_owes ws h t (Rebase base) Done us r.0 (subst (λ (us : List ℕ). Displays us (rearranged t (Rebase base) h.arrangement)) (sym v) r.1)
