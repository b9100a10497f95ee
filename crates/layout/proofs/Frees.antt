-- The call that frees the array at a trace.
use Rattle.std.proofs.Common.{◌≡◌, ℕ, suc, ◌+◌, ◌-◌, ◌^◌, ◌≤◌, true, false, List, length, get_or, Some, None, Ok, Err, Result, sym, ap, ◌∙◌, subst, arith}
use Rattle.booking.specs.Bookings.{Answer, Done, Extent, Free, Span, Spans, granted, on, refused}
use Rattle.booking.specs.Traces.{subscripts}
use Rattle.booking.specs.declared.refusal.Refusal.{Refusal}
use Rattle.booking.specs.declared.refusal.Refusal.TheVariants.{Unlabelled}
use Rattle.booking.specs.declared.trace.Trace.{Trace}
use Rattle.ledger.specs.Ledger.{book}
use Rattle.ledger.specs.Trees.{Trees}
use Rattle.layout.specs.Arrangement.{Arrangement, Codes, Data, Vacant, trees}
use Rattle.layout.specs.Booked.{Booked}
use Rattle.layout.specs.Holds.{Displays, Holds}
use Rattle.layout.specs.Rearranged.{freed}
use Rattle.layout.specs.Released.{Releases}
use Rattle.layout.specs.Sound.{Sound}
use Rattle.layout.specs.Walks.{walked}
use Rattle.layout.proofs.Freed.{freed_shown, rooted}
use Rattle.layout.proofs.GivenUp.{freed_sound}
use Rattle.layout.proofs.Owed.{granted_now, granted_owes, place_owes}
use Rattle.layout.proofs.Relink.{chained}
use Rattle.layout.proofs.Place.{Fitting, Reached, Stands, booked, came, reached, subscripts_count}
use Rattle.layout.proofs.WalkEnd.{shown_label}

pub not_granted : (r : Refusal) (a : Answer) → refused r ≡ granted a → ⊥
not_granted r a e = let w : ◌≡◌ {A = ℕ} 0 1 = cc in omega arith

pub not_none : (x : Extent) → granted (Spans (Some x)) ≡ granted (Spans None) → ⊥
not_none x e = let w : ◌≡◌ {A = ℕ} 0 1 = cc in omega arith

module _ (ws : List ℕ) (h : Holds ws) (t : Trace) (at : ℕ) (e : Ok at ≡ walked ws 1 t.name (subscripts t)) where
  few : length ws ≤ 2 ^ 18
  few = (chained h.arrangement h.sound ws h.shown).few

  freed_there : (n : ℕ) → n ≡ 4 - t.depth → (vs : List ℕ) → Releases n ws at vs → Reached ws h.arrangement t (Ok at)
      → Sound (freed t h.arrangement) × Displays vs (freed t h.arrangement)
  freed_there n k vs R (depth, spot, st) =
      let A = h.arrangement in
      let same : n ≡ suc depth = omega (arith, k, st.level, subscripts_count t) in
      let r = rooted ws A t at depth spot h.sound h.shown st in (
        freed_sound (λ d q. Unit {0}) t A h.sound st.leads,
        freed_shown ws A t at depth spot h.sound h.shown st vs (subst (λ (m : ℕ). Releases m ws at vs) same R spot A.gaps r),
      )

  -- once the array at a trace is released, the words display the arrangement without it
  pub freed_by : (n : ℕ) → n ≡ 4 - t.depth → (vs : List ℕ) → Releases n ws at vs → Sound (freed t h.arrangement) × Displays vs (freed t h.arrangement)
  freed_by n k vs R = freed_there n k vs R (came ws h t (Ok at) e)

  module _ (w : ℕ) (is : w ≡ get_or ws at 0) where
    none_there : w ≡ 0 → Reached ws h.arrangement t (Ok at) → booked h.arrangement t Free ≡ refused (Unlabelled (t.depth + 1))
    none_there z (depth, Vacant, st) = st.asked Free ∙ ap (λ (n : ℕ). refused (Unlabelled n)) (omega (arith, subscripts_count t))
    none_there z (depth, Data s b y vs, st) =
        let g = st.fits_in in absurd ((shown_label ws few (get_or ws at 0) s (length vs) b false y g.0 g.2 g.3 g.4 st.shows.0).1 (sym is ∙ z))
    none_there z (depth, Codes s b ps, st) =
        let g = st.fits_in in absurd ((shown_label ws few (get_or ws at 0) s (length ps) b true 0 g.0 g.2 g.3 (omega arith) st.shows.0).1 (sym is ∙ z))

    some_there : (w ≡ 0 → ⊥) → Reached ws h.arrangement t (Ok at) → booked h.arrangement t Free ≡ granted Done
    some_there z (depth, Vacant, st) = absurd (z (is ∙ st.shows))
    some_there z (depth, Data s b y vs, st) = st.asked Free ∙ granted_now _ _
    some_there z (depth, Codes s b ps, st) = st.asked Free ∙ granted_now _ _

    pub free_unlabelled : (j : ℕ) → j ≡ t.depth + 1 → w ≡ 0 → Booked ws (on t Free) (refused (Unlabelled j)) ws
    free_unlabelled j deep z =
        place_owes ws h t Free (Unlabelled j) (none_there z (came ws h t (Ok at) e) ∙ ap (λ (n : ℕ). refused (Unlabelled n)) (sym deep))

    pub free_done : (w ≡ 0 → ⊥) → (n : ℕ) → n ≡ 4 - t.depth → (vs : List ℕ) → Releases n ws at vs → Booked ws (on t Free) (granted Done) vs
    free_done z n k vs R = granted_owes ws h t Free Done vs (some_there z (came ws h t (Ok at) e)) (freed_by n k vs R).1

  -- ── The walk once more ───────────────────────────────────────────────

  -- where no tree but the one freed has changed, the walk comes to a codeword that labels nothing
  abbrev pub Again : (vs : List ℕ) (B : Arrangement) → Result ℕ Refusal → Type 0
  Again vs B (Err r) = ⊥
  Again vs B (Ok y) = (depth : ℕ) × Stands vs B t y depth Vacant

  module _ (vs : List ℕ) (B : Arrangement) (count : B.count ≡ h.arrangement.count) (same : trees B ≡ trees (freed t h.arrangement)) where
    spans_none : Reached ws h.arrangement t (Ok at) → booked B t Span ≡ granted (Spans None)
    spans_none (depth, spot, st) =
        ap (λ (n : ℕ). (book n (trees B) (on t Span)).0) count
        ∙ ap (λ (ts : Trees). (book h.arrangement.count ts (on t Span)).0) same
        ∙ st.asked_there (λ d q. Vacant) Span ∙ granted_now _ _

    vacant_there : booked B t Span ≡ granted (Spans None) → (x : Result ℕ Refusal) → Reached vs B t x → Again vs B x
    vacant_there g (Err r) k = absurd (not_granted r (Spans None) (sym (k Span) ∙ g))
    vacant_there g (Ok y) (depth, Vacant, st) = (depth, st)
    vacant_there g (Ok y) (depth, Data s b ty us, st) = absurd (not_none _ (sym (granted_now _ _) ∙ sym (st.asked Span) ∙ g))
    vacant_there g (Ok y) (depth, Codes s b ps, st) = absurd (not_none _ (sym (granted_now _ _) ∙ sym (st.asked Span) ∙ g))

    pub walks_again : Fitting B → Displays vs B → (x : Result ℕ Refusal) → x ≡ walked vs 1 t.name (subscripts t) → Again vs B x
    walks_again o s x k =
        vacant_there (spans_none (came ws h t (Ok at) e)) x
        (subst (Reached vs B t) (sym k) (reached vs B o s t (omega (arith, subscripts_count t, t.lawful.2))))
