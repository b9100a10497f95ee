-- Finding room: in the first gap that fits, else once gaps are combined, else once blocks are closed up.
use Rattle.std.proofs.Common.{◌≡◌, ℕ, ◌-◌, ◌<◌, ◌≤◌, true, false, Option, Some, None, IfSome, is_some, unwrap_or, List, [], ◌∷◌, sym, refl, ap, ◌∙◌, subst, inl, inr, arith, lit≤}
use Rattle.std.proofs.lemmas.Bool.{cases_lt}
use Rattle.layout.specs.Arrangement.{Arrangement, Piece}
use Rattle.layout.specs.Chains.{Chained, Relinked}
use Rattle.layout.specs.Gaps.{GapFound, a_gap, combined, first_fit_of, gap_at, no_gap}
use Rattle.layout.specs.Holds.{Displays, Holds}
use Rattle.layout.specs.Keeping.{tidied}
use Rattle.layout.specs.Placement.{Found, closed_up, find, found_or, with_gaps}
use Rattle.layout.specs.Sound.{Each, Sound}
use Rattle.layout.specs.Words.{total}
use Rattle.layout.proofs.Chains.{gap_some}
use Rattle.layout.proofs.Grown.{gap_total}
use Rattle.layout.proofs.Kept.{closed_up_sound}
use Rattle.layout.proofs.Laws.{tidy_left}
use Rattle.layout.proofs.Relink.{chained, relinked}
use Rattle.layout.proofs.Rooms.{combined_closes, combined_sound, combined_total, fit_sound, tidied_shown}
use Rattle.placement.specs.Gaps.{Finds, PlacedIn}
use Rattle.layout.specs.Room.{Roomed}

-- an address that was found is above 0, which stands for none
pub some_above : (o : Option ℕ) → IfSome o (λ at. (0 < at) × (at < 262144)) → is_some o ≡ true → 0 < unwrap_or o 0
some_above (Some at) small e = small.0
some_above None small e = cc

pub none_zero : (o : Option ℕ) → is_some o ≡ false → unwrap_or o 0 ≤ 0
none_zero (Some at) e = cc
none_zero None e = lit≤ tt

-- what a search, the combining and a tidy say of their words
pub record Searches (n : ℕ) (ws : List ℕ) (at : ℕ) (us : List ℕ) : Type 0 where
  pub finds : (gs : List Piece) → Chained ws gs → Finds n gs at
  pub leaves : (gs : List Piece) → Chained ws gs → 1 ≤ n → PlacedIn n ws gs at us (first_fit_of n gs)

abbrev Combines : List ℕ → List ℕ → Type 0
Combines ws us = (gs : List Piece) → Chained ws gs → Relinked ws us gs (combined gs)

abbrev Tidies : List ℕ → List ℕ → Type 0
Tidies ws us = Holds ws → us ≡ tidied ws

each_small : (n : ℕ) (gs : List Piece) → total gs < n → Each (λ g. g.size < n) gs
each_small n [] h = tt
each_small n (g ∷ gs) h = (omega arith, each_small n gs (omega arith))

module _ (n : ℕ) (A : Arrangement) (o : Sound A) (ws us : List ℕ) (s : Displays ws A) (at : ℕ) (S : Searches n ws at us) where
  -- one search that answers
  got_fit : 1 ≤ n → (F : GapFound) → first_fit_of n A.gaps ≡ F → PlacedIn n ws A.gaps at us F → 0 < at → (other : Found) → Roomed n (found_or A F other) at us
  got_fit some no_gap is p h other = absurd (omega (arith, p.0))
  got_fit some (gap_at x left) is p h other = record {
    at_is = p.0;
    shown = relinked A o ws s us left p.1;
    apart = fit_sound A o n at left (is ∙ ap (λ (k : ℕ). gap_at k left) (sym p.0)) some;
    clean = p.4;
  }

  pub got : 1 ≤ n → 0 < at → (other : Found) → Roomed n (found_or A (first_fit_of n A.gaps) other) at us
  got some h other = got_fit some (first_fit_of n A.gaps) refl (S.leaves A.gaps (chained A o ws s) some) h other

  -- one that does not: nothing fits, and nothing has changed
  not_fit : (F : GapFound) → PlacedIn n ws A.gaps at us F → at ≤ 0 → (us ≡ ws) × ((other : Found) → found_or A F other ≡ other)
  not_fit no_gap p h = (p.1, λ other. refl)
  not_fit (gap_at x left) p h = absurd (omega (arith, p.2))

  pub not_got : 1 ≤ n → at ≤ 0 → (us ≡ ws) × ((other : Found) → found_or A (first_fit_of n A.gaps) other ≡ other)
  not_got some h = not_fit (first_fit_of n A.gaps) (S.leaves A.gaps (chained A o ws s) some) h

  pub too_small : total A.gaps < n → at ≡ 0
  too_small h = (S.finds A.gaps (chained A o ws s)).none.1 (each_small n A.gaps h)

-- closed up, there is room
fits_closed : (n s m : ℕ) → 1 ≤ n → n ≤ m → Each (λ g. g.size < n) (a_gap s m) → ⊥
fits_closed n s m h k e = let g = subst (Each (λ g. g.size < n)) (gap_some s m (omega arith)) e in omega (arith, g.0)

module _ (n : ℕ) (A : Arrangement) (o : Sound A) (some : 1 ≤ n) (ws us vs xs : List ℕ) (s : Displays ws A) (r q : ℕ)
    (first : Searches n ws r us) (left : r ≤ 0) (middle : Combines us vs) (second : Searches n vs q xs) where
  A₂ : Arrangement
  A₂ = with_gaps A (combined A.gaps)

  nothing : (us ≡ ws) × ((other : Found) → found_or A (first_fit_of n A.gaps) other ≡ other)
  nothing = not_got n A o ws us s r first some left

  shows : Displays vs A₂
  unfolding A₂
  shows =
      let t : Displays us A = subst (λ (zs : List ℕ). Displays zs A) (sym nothing.0) s in
      relinked A o us t vs (combined A.gaps) (middle A.gaps (chained A o us t))

  o₂ : Sound A₂
  unfolding A₂
  o₂ = combined_sound A o

  pub room_second : 0 < q → Roomed n (find n A) q xs
  unfolding A₂
  room_second h =
      subst (λ (f : Found). Roomed n f q xs) (sym (nothing.1 _)) (got n A₂ o₂ vs xs shows q second some h _)

  pub second_small : total A.gaps < n → q ≡ 0
  unfolding A₂
  second_small h = too_small n A₂ o₂ vs xs shows q second (omega (arith, combined_total A.gaps))

  module _ (none : q ≤ 0) (ys zs : List ℕ) (p : ℕ) (tidies : Tidies xs ys) (third : Searches n ys p zs) where
    unfound : (xs ≡ vs) × ((other : Found) → found_or A₂ (first_fit_of n A₂.gaps) other ≡ other)
    unfound = not_got n A₂ o₂ vs xs shows q second some none

    closed_shown : Displays ys (closed_up A)
    unfolding A₂
    closed_shown =
        let d : Displays xs A₂ = subst (λ (ks : List ℕ). Displays ks A₂) (sym unfound.0) shows in
        let e : ys ≡ tidied xs = tidies record { arrangement = A₂; sound = o₂; shown = d } in
        subst (λ (ks : List ℕ). Displays ks (closed_up A)) (sym e) (subst (Displays (tidied xs)) (combined_closes A o) (tidied_shown A₂ o₂ xs d))

    o₃ : Sound (closed_up A)
    o₃ = closed_up_sound A o

    pub room_third : n ≤ total A.gaps → Roomed n (find n A) p zs
    unfolding A₂
    room_third fit =
        let found : 0 < p =
        elim (cases_lt 0 p) [
          | inl h ↦ h
          | inr h ↦
              let e : p ≡ 0 = omega arith in
              absurd (fits_closed n (A.count - total A.gaps) (total A.gaps) some fit
              ((third.finds (closed_up A).gaps (chained (closed_up A) o₃ ys closed_shown)).none.0 e))
        ] in
        subst (λ (k : Found). Roomed n k p zs) (sym (nothing.1 _ ∙ unfound.1 _)) (got n (closed_up A) o₃ ys zs closed_shown p third some found _)

    pub no_room : total A.gaps < n → (p ≡ 0) × (zs ≡ tidied ws)
    no_room h =
        let z = too_small n (closed_up A) o₃ ys zs closed_shown p third (omega (arith, gap_total (A.count - total A.gaps) (total A.gaps))) in
        (z, (not_got n (closed_up A) o₃ ys zs closed_shown p third some (omega arith)).0 ∙ tidy_left ws ys A o s closed_shown)
