-- Exchange, door by door.
use Rattle.std.proofs.Common.{◌≡◌, ℕ, ◌+◌, ◌^◌, ◌≤◌, Bool, true, false, cond, ◌⊎◌, List, map, length, get_or, ℤ, Ok, Err, Result, sym, refl, ap, ◌∙◌, subst, inl, inr, arith}
use lib.ListN.{length-map}
use Rattle.std.proofs.lemmas.Bool.{or_left, or_right, or_from}
use Rattle.booking.specs.Bookings.{Done, Exchange, granted, on, refused}
use Rattle.booking.specs.Traces.{subscripts}
use Rattle.booking.specs.declared.refusal.Refusal.{Refusal}
use Rattle.booking.specs.declared.refusal.Refusal.TheVariants.{OutOfBounds, Unlabelled, WrongSort}
use Rattle.booking.specs.declared.trace.Trace.{Trace}
use Rattle.ledger.specs.Doors.{element, off}
use Rattle.layout.specs.Arrangement.{Arrangement, Codes, Data, Placed, Vacant, tree}
use Rattle.layout.specs.Booked.{Booked}
use Rattle.layout.specs.Elements.{relabelled}
use Rattle.layout.specs.Holds.{Displays, Holds}
use Rattle.layout.specs.Rearranged.{exchanged, rearranged}
use Rattle.layout.specs.Sound.{Sound}
use Rattle.layout.specs.Walks.{and_then, chosen, gone_down, walked}
use Rattle.layout.proofs.Exchanges.{exchange_shown}
use Rattle.layout.proofs.Gone.{gone_nothing, gone_row, gone_table}
use Rattle.layout.proofs.Owed.{granted_now, granted_owes, place_owes}
use Rattle.layout.proofs.WalkEnd.{door_open, door_shut, reply, shown_label}
use Rattle.layout.proofs.Place.{Reached, Stands, booked, came, subscripts_count}
use Rattle.ledger.proofs.Signs.{element_lt}

module _ (ws : List ℕ) (few : length ws ≤ 2 ^ 18) (A : Arrangement) (t : Trace) (at : ℕ) (z : ℤ) where
  abbrev j : ℕ
  j = 1 + length (subscripts t)

  down_data : (depth s : ℕ) (b : ℤ) (ty : ℕ) (vs : List ℕ) → Stands ws A t at depth (Data s b ty vs) → gone_down (get_or ws at 0) z j ≡ Err (WrongSort j)
  down_data depth s b ty vs st =
      let g = st.fits_in in
      let m = shown_label ws few (get_or ws at 0) s (length vs) b false ty g.0 g.2 g.3 g.4 st.shows.0 in
      gone_row (get_or ws at 0) z j _ m.0 m.1 refl

  down_codes : (depth s : ℕ) (b : ℤ) (ps : List (Placed depth)) → Stands ws A t at depth (Codes s b ps)
      → gone_down (get_or ws at 0) z j ≡ and_then (cond (off b (length ps) z) (Err (OutOfBounds j)) (Ok (element b z))) (λ k. Ok (s + 1 + k))
  unfolding chosen
  down_codes depth s b ps st =
      let g = st.fits_in in
      let m = shown_label ws few (get_or ws at 0) s (length ps) b true 0 g.0 g.2 g.3 (omega arith) st.shows.0 in
      gone_table (get_or ws at 0) z j _ m.0 m.1 refl

  -- where an element is refused, the exchange is, whichever of the two it was
  swap_off : (h i : ℤ) → (z ≡ h) ⊎ (z ≡ i) → (r : Refusal) → Err r ≡ gone_down (get_or ws at 0) z j → Reached ws A t (Ok at)
      → booked A t (Exchange h i) ≡ refused r
  swap_off h i w r e (depth, Vacant, st) =
      let g = gone_nothing (get_or ws at 0) z j st.shows in
      let q : r ≡ Unlabelled j = cc in
      st.asked (Exchange h i) ∙ ap (λ (x : Refusal). refused x) (sym q)
  swap_off h i w r e (depth, Data s b ty vs, st) =
      let g = down_data depth s b ty vs st in
      let q : r ≡ WrongSort j = cc in
      st.asked (Exchange h i) ∙ ap (λ (x : Refusal). refused x) (sym q)
  swap_off h i w r e (depth, Codes s b ps, st) = pick (off b (length ps) z) refl w
    where
      n_is : (k : ℤ) → off b (length (map (tree depth) ps)) k ≡ off b (length ps) k
      n_is k = ap (λ (n : ℕ). off b n k) (length-map ps (tree depth))

      pick : (q : Bool) → off b (length ps) z ≡ q → (z ≡ h) ⊎ (z ≡ i) → booked A t (Exchange h i) ≡ refused r
      pick true f (inl y) =
          let g = down_codes depth s b ps st ∙ ap (λ (q : Bool). and_then {B = ℕ} (cond q (Err (OutOfBounds j)) (Ok (element b z))) (λ k. Ok (s + 1 + k))) f in
          let q : r ≡ OutOfBounds j = cc in
          st.asked (Exchange h i) ∙ ap (reply _) (door_shut _ _ _ (or_left _ _ (n_is h ∙ ap (off b (length ps)) (sym y) ∙ f)))
          ∙ ap (λ (x : Refusal). refused x) (sym q)
      pick true f (inr y) =
          let g = down_codes depth s b ps st ∙ ap (λ (q : Bool). and_then {B = ℕ} (cond q (Err (OutOfBounds j)) (Ok (element b z))) (λ k. Ok (s + 1 + k))) f in
          let q : r ≡ OutOfBounds j = cc in
          st.asked (Exchange h i) ∙ ap (reply _) (door_shut _ _ _ (or_right _ _ (n_is i ∙ ap (off b (length ps)) (sym y) ∙ f)))
          ∙ ap (λ (x : Refusal). refused x) (sym q)
      pick false f y =
          let g = down_codes depth s b ps st ∙ ap (λ (q : Bool). and_then {B = ℕ} (cond q (Err (OutOfBounds j)) (Ok (element b z))) (λ k. Ok (s + 1 + k))) f in
          let q : ◌≡◌ {A = ℕ} 0 1 = cc in absurd (omega arith)

  -- where it is granted, the element stands in a block of codewords
  on_codes : (x : ℕ) → Ok x ≡ gone_down (get_or ws at 0) z j → (depth s : ℕ) (b : ℤ) (ps : List (Placed depth)) → Stands ws A t at depth (Codes s b ps)
      → (off b (length ps) z ≡ false) × (x ≡ s + 1 + element b z)
  on_codes x e depth s b ps st = pick (off b (length ps) z) refl
    where
      pick : (q : Bool) → off b (length ps) z ≡ q → (off b (length ps) z ≡ false) × (x ≡ s + 1 + element b z)
      pick true f =
          let g = down_codes depth s b ps st ∙ ap (λ (q : Bool). and_then {B = ℕ} (cond q (Err (OutOfBounds j)) (Ok (element b z))) (λ k. Ok (s + 1 + k))) f in
          let q : ◌≡◌ {A = ℕ} 0 1 = cc in absurd (omega arith)
      pick false f =
          let g = down_codes depth s b ps st ∙ ap (λ (q : Bool). and_then {B = ℕ} (cond q (Err (OutOfBounds j)) (Ok (element b z))) (λ k. Ok (s + 1 + k))) f in
          let q : x ≡ s + 1 + element b z = cc in (f, q)

module _ (ws : List ℕ) (A : Arrangement) (o : Sound A) (s : Displays ws A) (few : length ws ≤ 2 ^ 18) (t : Trace) (at : ℕ) (h i : ℤ) (x y : ℕ)
    (e : Ok x ≡ gone_down (get_or ws at 0) h (1 + length (subscripts t))) (f : Ok y ≡ gone_down (get_or ws at 0) i (1 + length (subscripts t))) where
  swap_on : Reached ws A t (Ok at)
      → (booked A t (Exchange h i) ≡ granted Done)
      × Displays (relabelled (relabelled ws x (get_or ws y 0)) y (get_or ws x 0)) (rearranged t (Exchange h i) A)
  swap_on (depth, Vacant, st) =
      let g = gone_nothing (get_or ws at 0) h (1 + length (subscripts t)) st.shows in
      let q : ◌≡◌ {A = ℕ} 0 1 = cc in absurd (omega arith)
  swap_on (depth, Data v b ty vs, st) =
      let g = down_data ws few A t at h depth v b ty vs st in
      let q : ◌≡◌ {A = ℕ} 0 1 = cc in absurd (omega arith)
  swap_on (depth, Codes v b ps, st) =
      let p = on_codes ws few A t at h x e depth v b ps st in
      let q = on_codes ws few A t at i y f depth v b ps st in
      let n_is : (k : ℤ) → off b (length (map (tree depth) ps)) k ≡ off b (length ps) k = λ k. ap (λ (n : ℕ). off b n k) (length-map ps (tree depth)) in (
        st.asked (Exchange h i) ∙ ap (reply _) (door_open _ _ _ (or_from _ _ (n_is h ∙ p.0) (n_is i ∙ q.0))) ∙ granted_now _ _,
        subst (λ (k : ℕ). Displays (relabelled (relabelled ws k (get_or ws y 0)) y (get_or ws k 0)) (rearranged t (Exchange h i) A)) (sym p.1)
            (subst (λ (k : ℕ). Displays (relabelled (relabelled ws (v + 1 + element b h) (get_or ws k 0)) k (get_or ws (v + 1 + element b h) 0)) (rearranged t (Exchange h i) A)) (sym q.1)
            (exchange_shown ws A o s t at depth v b ps st (element b h) (element b i) (element_lt b h (length ps) p.0) (element_lt b i (length ps) q.0)
            _ (st.there (exchanged h i)))),
      )

module _ (ws : List ℕ) (h : Holds ws) (t : Trace) (at w : ℕ) (e : Ok at ≡ walked ws 1 t.name (subscripts t)) (is : w ≡ get_or ws at 0) (i k : ℤ) (j : ℕ) (deep : j ≡ t.depth + 1) where
  few : length ws ≤ 2 ^ 18
  few = omega (arith, h.shown.count, h.sound.most)

  step_is : (z z' : ℤ) → z ≡ z' → (r : Result ℕ Refusal) → r ≡ gone_down w z j → r ≡ gone_down (get_or ws at 0) z' (1 + length (subscripts t))
  step_is z z' q r f =
      f ∙ ap (λ (n : ℕ). gone_down n z j) is ∙ ap (λ (y : ℤ). gone_down (get_or ws at 0) y j) q
      ∙ ap (gone_down (get_or ws at 0) z') (omega (arith, subscripts_count t))

  pub swap_refused : (z z' : ℤ) → z ≡ z' → (z' ≡ i) ⊎ (z' ≡ k) → (r : Refusal) → Err r ≡ gone_down w z j → Booked ws (on t (Exchange i k)) (refused r) ws
  swap_refused z z' q v r f =
      place_owes ws h t (Exchange i k) r (swap_off ws few h.arrangement t at z' i k v r (step_is z z' q (Err r) f) (came ws h t (Ok at) e))

  pub swap_done : (z y : ℤ) → z ≡ i → y ≡ k → (a b c d : ℕ) → Ok a ≡ gone_down w z j → Ok b ≡ gone_down w y j
      → c ≡ get_or ws a 0 → d ≡ get_or ws b 0 → (us vs : List ℕ) → us ≡ relabelled ws a d → vs ≡ relabelled us b c
      → Booked ws (on t (Exchange i k)) (granted Done) vs
  swap_done z y p q a b c d f g ec ed us vs eu ev =
      let vs_is : vs ≡ relabelled (relabelled ws a (get_or ws b 0)) b (get_or ws a 0) =
      ev ∙ ap (λ (l : List ℕ). relabelled l b c) (eu ∙ ap (relabelled ws a) ed) ∙ ap (relabelled (relabelled ws a (get_or ws b 0)) b) ec in
      let r = swap_on ws h.arrangement h.sound h.shown few t at i k a b (step_is z i p (Ok a) f) (step_is y k q (Ok b) g) (came ws h t (Ok at) e) in
      granted_owes ws h t (Exchange i k) Done vs r.0 (subst (λ (l : List ℕ). Displays l (rearranged t (Exchange i k) h.arrangement)) (sym vs_is) r.1)
