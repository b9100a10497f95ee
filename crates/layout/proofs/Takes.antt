-- The call that takes an array at a trace: its doors, the room that it asks for, and the words that it leaves.
use Rattle.std.proofs.Common.{◌≡◌, ℕ, suc, ◌+◌, ◌-◌, ◌<◌, ◌≤◌, Bool, true, false, cond, not, eqb, leb, List, length, set, ℤ, Ok, Err, Result, sym, refl, ap, ◌∙◌, subst, inl, inr, arith}
use Rattle.std.proofs.lemmas.Bool.{cond-false, cond-true, eq-eqb, eqb-false, eqb-true, le-leb, ltb-false, or_parts, both_ways, cases_eq, not_from_false, or_left, or_right, lt-leb, ne_eqb}
use Rattle.booking.specs.Bookings.{Done, Take, granted, on, refused}
use Rattle.booking.specs.Traces.{subscripts}
use Rattle.booking.specs.declared.refusal.Refusal.{Refusal}
use Rattle.booking.specs.declared.refusal.Refusal.TheVariants.{BadField, BadLength, NoRoom}
use Rattle.booking.specs.declared.trace.Trace.{Trace}
use Rattle.codeword.specs.Codeword.{InWidth, packed}
use Rattle.codeword.specs.declared.Codeword.{Codeword}
use Rattle.ledger.specs.Doors.{bad_fields}
use Rattle.ledger.specs.Trees.{W, free}
use Rattle.layout.specs.Arrangement.{Arrangement, Piece, Placed, Spot, pieces, tree, trees}
use Rattle.layout.specs.Attached.{Attaches, aimed_at, label_taken}
use Rattle.layout.specs.Booked.{Booked}
use Rattle.layout.specs.Chains.{size_at}
use Rattle.layout.specs.Held.{held_trees}
use Rattle.layout.specs.Holds.{Displays, Holds}
use Rattle.layout.specs.Gaps.{GapFound, combined, first_fit_of, gap_at, link, link_all, no_gap}
use Rattle.layout.specs.Placement.{closed_up, find, found_or, with_gaps}
use Rattle.layout.specs.Places.{at_trace}
use Rattle.layout.specs.Rearranged.{freed, new_spot}
use Rattle.layout.specs.Released.{Rooted, Releases, run}
use Rattle.layout.specs.Room.{Room, Roomed}
use Rattle.layout.specs.Sound.{Sound}
use Rattle.layout.specs.Walks.{walked}
use Rattle.layout.specs.Weights.{Weighs}
use Rattle.layout.specs.Words.{labelling, total}
use Rattle.layout.proofs.Attached.{attached_shown}
use Rattle.layout.proofs.Carried.{few_words}
use Rattle.layout.proofs.Cover.{above, among, below, covers_yes, lies}
use Rattle.layout.proofs.Decode.{trees_told}
use Rattle.layout.proofs.Freed.{rooted}
use Rattle.layout.proofs.Frees.{Again, freed_by, walks_again}
use Rattle.layout.proofs.GivenUp.{all_total, link_covered}
use Rattle.layout.proofs.Laws.{gaps_are_free, lawful}
use Rattle.layout.proofs.Order.{pieces_some}
use Rattle.layout.proofs.Owed.{granted_owes, place_owes}
use Rattle.layout.proofs.WalkEnd.{door_open, door_shut, reply}
use Rattle.layout.proofs.Place.{Fitting, Reached, Stands, booked, came, fitting, subscripts_count}
use Rattle.layout.proofs.FreeWords.{weight}
use Rattle.layout.proofs.Refine.{find_trees}

-- ── The label of the new block ─────────────────────────────────────────

not_ok : (r : Refusal) (l : Codeword) → Err r ≡ Ok l → ⊥
not_ok r l e = let w : ◌≡◌ {A = ℕ} 0 1 = cc in omega arith

module _ (n : ℕ) (b : ℤ) (c : Bool) (ty step : ℕ) where
  -- no block can have the fields, or this length
  pub data Unfit : Refusal → Type 0 where
    bad_field : bad_fields b c ty step ≡ true → Unfit BadField
    bad_length : bad_fields b c ty step ≡ false → n ≡ 0 → Unfit BadLength

  pub unfit : (r : Refusal) → Err r ≡ label_taken n b c ty step → Unfit r
  unfolding label_taken
  unfit r e = fields (bad_fields b c ty step) refl e
    where
      same : (x : Refusal) → ◌≡◌ {A = Result Codeword Refusal} (Err r) (Err x) → x ≡ r
      same x k = cc

      counts : (q : Bool) → eqb n 0 ≡ q → bad_fields b c ty step ≡ false → Err r ≡ cond q (Err BadLength) (Ok (labelling 0 n b c ty)) → Unfit r
      counts true z f k = subst Unfit (same BadLength k) (bad_length f (eqb-true n 0 z))
      counts false z f k = absurd (not_ok r _ k)

      fields : (q : Bool) → bad_fields b c ty step ≡ q → Err r ≡ cond q (Err BadField) (cond (eqb n 0) (Err BadLength) (Ok (labelling 0 n b c ty))) → Unfit r
      fields true f k = subst Unfit (same BadField k) (bad_field f)
      fields false f k = counts (eqb n 0) refl f k

  -- a label that was made
  pub record Fits (l : Codeword) : Type 0 where
    pub good : bad_fields b c ty step ≡ false
    pub some : n ≡ 0 → ⊥
    pub is : l ≡ labelling 0 n b c ty

  pub fits : (l : Codeword) → Ok l ≡ label_taken n b c ty step → Fits l
  unfolding label_taken
  fits l e = fields (bad_fields b c ty step) refl e
    where
      same : (x : Codeword) → ◌≡◌ {A = Result Codeword Refusal} (Ok l) (Ok x) → l ≡ x
      same x k = cc

      counts : (q : Bool) → eqb n 0 ≡ q → bad_fields b c ty step ≡ false → Ok l ≡ cond q (Err BadLength) (Ok (labelling 0 n b c ty)) → Fits l
      counts true z f k = absurd (not_ok BadLength l (sym k))
      counts false z f k = record { good = f; some = eqb-false n 0 z; is = same _ k }

      fields : (q : Bool) → bad_fields b c ty step ≡ q → Ok l ≡ cond q (Err BadField) (cond (eqb n 0) (Err BadLength) (Ok (labelling 0 n b c ty))) → Fits l
      fields true f k = absurd (not_ok BadField l (sym k))
      fields false f k = counts (eqb n 0) refl f k

-- the type of a block that can be taken; a table has type 0
type_small : (b : ℤ) (c : Bool) (ty step : ℕ) → bad_fields b c ty step ≡ false → ty ≤ 2
type_small b c ty step f = ltb-false 2 ty (or_parts _ _ (or_parts _ _ f).1).0

table_type : (b : ℤ) (c : Bool) (ty step : ℕ) → bad_fields b c ty step ≡ false → c ≡ true → ty ≡ 0
table_type b false ty step f z = absurd (both_ways false refl z)
table_type b true ty step f z =
    elim (cases_eq ty 0) [ inl e ↦ e | inr e ↦ absurd (both_ways (bad_fields b true ty step) f (bad (not_from_false _ (ne_eqb ty 0 e)))) ]
  where
    bad : not (eqb ty 0) ≡ true → bad_fields b true ty step ≡ true
    bad k = or_right _ _ (or_right _ _ (or_left _ _ k))

-- ── The doors ──────────────────────────────────────────────────────────

-- room that lies beside blocks and gaps lies in the store
room_inside : (B : Arrangement) (start n : ℕ) → Sound (with_gaps B (link (run start (n + 1)) B.gaps)) → start + n < B.count
room_inside B start n o =
    let p = run start (n + 1) in
    let one = covers_yes (start + n) start (n + 1) (omega arith) (omega arith) in
    let tiles = o.tiled.once (start + n) in
    elim (lies (start + n) 65 (B.count - 65)) [
      | below l z ↦ absurd (omega (arith, link_covered (start + n) p B.gaps))
      | among l k z ↦ omega (arith, o.least)
      | above l z ↦ absurd (omega (arith, link_covered (start + n) p B.gaps))
    ]

module _ (ws : List ℕ) (h : Holds ws) (t : Trace) (at : ℕ) (e : Ok at ≡ walked ws 1 t.name (subscripts t)) (n : ℕ) (b : ℤ) (c : Bool) (ty : ℕ)
    (step : ℕ) (deep : step ≡ t.depth + 1) where
  step_is : 1 + length (subscripts t) ≡ step
  step_is = omega (arith, subscripts_count t)

  unfit_there : (r : Refusal) → Unfit n b c ty step r → Reached ws h.arrangement t (Ok at) → booked h.arrangement t (Take n b c ty) ≡ refused r
  unfit_there r (bad_field f) (depth, spot, st) = st.asked (Take n b c ty) ∙ ap (reply _) (door_shut _ _ _ (ap (bad_fields b c ty) step_is ∙ f))
  unfit_there r (bad_length f z) (depth, spot, st) =
      st.asked (Take n b c ty) ∙ ap (reply _) (door_open _ _ _ (ap (bad_fields b c ty) step_is ∙ f) ∙ door_shut _ _ _ (eq-eqb n 0 z))

  pub take_unfit : (r : Refusal) → Err r ≡ label_taken n b c ty step → Booked ws (on t (Take n b c ty)) (refused r) ws
  take_unfit r k = place_owes ws h t (Take n b c ty) r (unfit_there r (unfit n b c ty step r k) (came ws h t (Ok at) e))

  -- ── Room ─────────────────────────────────────────────────────────────

  module _ (l : Codeword) (made : Ok l ≡ label_taken n b c ty step) (levels w T : ℕ) (all : levels ≡ 4 - t.depth)
      (weighs : Weighs levels ws at (length ws) w) (header : T ≡ size_at ws 0) where
    abbrev A : Arrangement
    A = h.arrangement

    T_is : T ≡ free A.count (trees A)
    T_is =
        header ∙ lawful.total_is_free ws h ∙ ap (λ (k : ℕ). free k (held_trees ws)) h.shown.count ∙ ap (free A.count) (trees_told ws A h.sound h.shown)

    module _ (depth : ℕ) (spot : Spot (Placed depth)) (st : Stands ws A t at depth spot) where
      level : levels ≡ suc depth
      level = omega (arith, all, st.level, subscripts_count t)

      root : Rooted (suc depth) ws at spot A.gaps
      root = rooted ws A t at depth spot h.sound h.shown st

      words_there : total (pieces (suc depth) spot) ≡ W (suc depth) (tree (suc depth) spot)
      words_there = weight (suc depth) spot

      weight_is : w ≡ W (suc depth) (tree (suc depth) spot)
      weight_is =
          subst (λ (d : ℕ). Weighs d ws at (length ws) w) level weighs spot A.gaps root
          (omega (arith, words_there, few_words (pieces (suc depth) spot) (length ws) (pieces_some (suc depth) spot) (λ y. omega (arith, root.apart y))))

      reply_is : booked A t (Take n b c ty) ≡ cond (leb (n + 1) (T + w)) (granted Done) (refused NoRoom)
      reply_is =
          let F = fits n b c ty step l made in
          st.asked (Take n b c ty)
          ∙ ap (reply _) (door_open _ _ _ (ap (bad_fields b c ty) step_is ∙ F.good) ∙ door_open _ _ _ (ne_eqb n 0 F.some))
          ∙ ap (λ (k : ℕ). cond (leb (n + 1) (k + W (suc depth) (tree (suc depth) spot))) (granted Done) (refused NoRoom)) (sym T_is)
          ∙ ap (λ (k : ℕ). cond (leb (n + 1) (T + k)) (granted Done) (refused NoRoom)) (sym weight_is)

      -- the words in gaps once the array is freed
      freed_words : total (freed t A).gaps ≡ T + w
      freed_words =
          ap (λ (ps : List Piece). total (link_all ps A.gaps)) (st.looked (λ d p. pieces (suc d) p))
          ∙ all_total (pieces (suc depth) spot) A.gaps
          ∙ (let k : total (pieces (suc depth) spot) + total A.gaps ≡ T + w = omega (arith, words_there, weight_is, T_is, gaps_are_free A h.sound) in k)

    replied_there : Reached ws A t (Ok at) → booked A t (Take n b c ty) ≡ cond (leb (n + 1) (T + w)) (granted Done) (refused NoRoom)
    replied_there (depth, spot, st) = reply_is depth spot st

    pub take_no_room : T + w ≤ n → Booked ws (on t (Take n b c ty)) (refused NoRoom) ws
    take_no_room few =
        place_owes ws h t (Take n b c ty) NoRoom
        (replied_there (came ws h t (Ok at) e) ∙ cond-false _ _ _ (lt-leb (n + 1) (T + w) (omega arith)))

    -- ── The words ──────────────────────────────────────────────────────

    freed_there : Reached ws A t (Ok at) → total (freed t A).gaps ≡ T + w
    freed_there (depth, spot, st) = freed_words depth spot st

    found_count : (k : ℕ) (B : Arrangement) → (find k B).arrangement.count ≡ B.count
    found_count k B = pick (first_fit_of k B.gaps) (first_fit_of k (combined B.gaps)) (first_fit_of k (closed_up B).gaps)
      where
        pick : (x y z : GapFound) → (found_or B x (found_or B y (found_or (closed_up B) z (record { at = 0; arrangement = B })))).arrangement.count ≡ B.count
        pick (gap_at s gs) y z = refl
        pick no_gap (gap_at s gs) z = refl
        pick no_gap no_gap (gap_at s gs) = refl
        pick no_gap no_gap no_gap = refl

    module _ (enough : n < T + w) (vs : List ℕ) (gone : Releases levels ws at vs) (start : ℕ) (xs : List ℕ) (room : Room (n + 1) vs start xs) where
      clean : Sound (freed t A) × Displays vs (freed t A)
      clean = freed_by ws h t at e levels all vs gone

      found : Roomed (n + 1) (find (n + 1) (freed t A)) start xs
      found = room (freed t A) clean.0 clean.1 (omega arith) (omega (arith, freed_there (came ws h t (Ok at) e)))

      abbrev B : Arrangement
      B = (find (n + 1) (freed t A)).arrangement

      abbrev linked : Arrangement
      linked = with_gaps B (link (run start (n + 1)) B.gaps)

      fit : Fitting B
      fit = let F = fitting linked found.apart in record { names_64 = F.names_64; least = F.least; most = F.most; fit = F.fit }

      again : (x : Result ℕ Refusal) → x ≡ walked xs 1 t.name (subscripts t) → Again ws h t at e xs B x
      again = walks_again ws h t at e xs B (found_count (n + 1) (freed t A)) (find_trees (n + 1) (freed t A)) fit found.shown

      -- the walk comes to the place once more
      pub take_lost : (r : Refusal) → Err r ≡ walked xs 1 t.name (subscripts t) → ⊥
      take_lost r k = again (Err r) k

      module _ (place : ℕ) (k : Ok place ≡ walked xs 1 t.name (subscripts t)) (us : List ℕ) (attached : Attaches xs place start l us) where
        shown : Again ws h t at e xs B (Ok place) → Displays us (at_trace (new_spot n b c ty (find (n + 1) (freed t A)).at) t B)
        shown (depth, st) =
            let F = fits n b c ty step l made in
            let inside = room_inside B start n found.apart in
            let fit = found.apart.most in
            let kind = type_small b c ty step F.good in
            let wide : InWidth (aimed_at (start + 1) l) = subst (λ (z : Codeword). InWidth (aimed_at (start + 1) z)) (sym F.is)
            (omega (arith, F.some), omega arith, omega arith) in
            let code : packed (aimed_at (start + 1) l) ≡ packed (labelling (start + 1) n b c ty) = ap (λ (z : Codeword). packed (aimed_at (start + 1) z)) F.is in
            subst (λ (zs : List ℕ). Displays zs (at_trace (new_spot n b c ty (find (n + 1) (freed t A)).at) t B)) (sym (attached wide))
            (subst (λ (s : ℕ). Displays (set (set xs place (packed (aimed_at (start + 1) l))) start place) (at_trace (new_spot n b c ty s) t B)) found.at_is
            (attached_shown xs B t n start place depth found.shown found.apart st found.clean (packed (aimed_at (start + 1) l)) b c ty
            (table_type b c ty step F.good) code (omega (arith, found.shown.count))))

        pub take_done : Booked ws (on t (Take n b c ty)) (granted Done) us
        take_done =
            granted_owes ws h t (Take n b c ty) Done us
            (replied_there (came ws h t (Ok at) e) ∙ cond-true _ _ _ (le-leb (n + 1) (T + w) (omega arith))) (shown (again (Ok place) k))
