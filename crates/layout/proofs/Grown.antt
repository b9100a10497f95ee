-- A granted insert leaves a sound arrangement: after the close-up, all blocks above go up by n.
use Rattle.std.proofs.Common.{◌≡◌, ℕ, zero, suc, ◌+◌, ◌-◌, ◌<◌, ◌≤◌, T, List, [], ◌++◌, map, length, take, drop, replicate, ℤ, refl, ap, ◌∙◌, subst, inl, arith, length-append, length-drop, take-append-drop, length-take}
use lib.ListN.{length-map, length-replicate}
use Rattle.booking.specs.Bookings.{Insert}
use Rattle.booking.specs.Traces.{subscripts}
use Rattle.booking.specs.declared.trace.Trace.{Trace}
use Rattle.layout.specs.Arrangement.{Arrangement, Codes, Data, Piece, Placed, Spot, Vacant, blocks, concat, pieces, vacant}
use Rattle.layout.specs.Gaps.{a_gap}
use Rattle.layout.specs.Placement.{closed_up, move, moved}
use Rattle.layout.specs.Places.{at_trace, seen}
use Rattle.layout.specs.Rearranged.{grown, raised, rearranged, start_of}
use Rattle.layout.specs.Sound.{Each, Good, Sound, covered, covers}
use Rattle.layout.specs.Words.{total}
use Rattle.ledger.specs.Doors.{element}
use Rattle.ledger.specs.Lists.{insert_at}
use Rattle.layout.proofs.Cover.{covers_yes, covers_split, each-++, lies, below, among, above}
use Rattle.layout.proofs.Order.{blocks_some}
use Rattle.layout.proofs.Close.{all_move}
use Rattle.layout.proofs.Decode.{total_within}
use Rattle.layout.proofs.Change.{At, AtTrace, named, name_in, at_imp, at_look, at_out, at_most_1, weaker, trace_sound}
use Rattle.layout.proofs.Kept.{each_replicate, each_map, move_good, cov_none, cov-++, gap_covered, gap_sized, gap_climbs, closed_up_sound}
use Rattle.layout.proofs.GivenUp.{each_take, each_drop}
use Rattle.layout.proofs.Taken.{at_names_move, vacant_good, vacant_pieces}
use Rattle.layout.proofs.Doors.{Legal}
use Rattle.layout.proofs.Above.{Beside, In, at_in, beside, in_concat, in_covers, raised_covered, up, up_no}

-- ── The block grows ────────────────────────────────────────────────────

module _ {X : Type 0} where
  pub insert_length : (m n : ℕ) (x : X) (xs : List X) → length (insert_at m n x xs) ≡ length xs + n
  insert_length m n x xs =
      omega (
        arith,
        length-append (take m xs) (replicate n x ++ drop m xs),
        length-append (replicate n x) (drop m xs),
        length-replicate n x,
        length-take m xs,
        length-drop m xs,
      )

  insert_covered : (y : ℕ) (f : X → List Piece) (m n : ℕ) (x : X) (xs : List X) → f x ≡ []
      → covered y (concat (map f (insert_at m n x xs))) ≡ covered y (concat (map f xs))
  insert_covered y f m n x xs e =
      omega (
        arith,
        cov-++ y f (take m xs) (replicate n x ++ drop m xs),
        cov-++ y f (replicate n x) (drop m xs),
        cov_none y f n x e,
        cov-++ y f (take m xs) (drop m xs),
        ap (λ (zs : List X). covered y (concat (map f zs))) (take-append-drop m xs),
      )

abbrev end_of : (d : ℕ) → Spot (Placed d) → ℕ
end_of d Vacant = 0
end_of d (Data s b t ws) = s + 1 + length ws
end_of d (Codes s b ps) = s + 1 + length ps

module _ (i : ℤ) (n : ℕ) where
  grown_good : (d : ℕ) (q : Spot (Placed d)) → Good (suc d) q → Good (suc d) (grown i n d q)
  grown_good d Vacant g = tt
  grown_good d (Data s b t ws) g = (omega (arith, g.0, insert_length (element b i) n 0 ws), g.1, g.2)
  grown_good d (Codes s b ps) g =
      let m = element b i in (
        omega (arith, g.0, insert_length m n (vacant d) ps),
        g.1,
        each-++ (Good d) (take m ps) (replicate n (vacant d) ++ drop m ps) (each_take (Good d) m ps g.2)
            (each-++ (Good d) (replicate n (vacant d)) (drop m ps) (each_replicate (Good d) n (vacant d) (vacant_good d)) (each_drop (Good d) m ps g.2)),
      )

  longer : (y s l k e : ℕ) → k ≡ l + n → s + 1 + l ≡ e
      → covers y (record { start = s; size = k + 1 }) ≡ covers y (record { start = s; size = l + 1 }) + covers y (record { start = e; size = n })
  longer y s l k e h j =
      ap (λ (z : ℕ). covers y (record { start = s; size = z })) (let q : k + 1 ≡ l + 1 + n = omega arith in q)
      ∙ covers_split y s (l + 1) n
      ∙ ap (λ (z : ℕ). covers y (record { start = s; size = l + 1 }) + covers y (record { start = z; size = n })) (let q : s + (l + 1) ≡ e = omega arith in q)

  grown_covered : (e y d : ℕ) (q : Spot (Placed d)) → Legal (Insert i n) d q × (end_of d q ≡ e)
      → covered y (pieces (suc d) (grown i n d q)) + 0 ≡ covered y (pieces (suc d) q) + covers y (record { start = e; size = n })
  grown_covered e y d Vacant p = absurd p.0
  grown_covered e y d (Data s b t ws) p =
      omega (arith, longer y s (length ws) (length (insert_at (element b i) n 0 ws)) e (insert_length (element b i) n 0 ws) p.1)
  grown_covered e y d (Codes s b ps) p =
      omega (
        arith,
        longer y s (length ps) (length (insert_at (element b i) n (vacant d) ps)) e (insert_length (element b i) n (vacant d) ps) p.1,
        insert_covered y (pieces d) (element b i) n (vacant d) ps (vacant_pieces d),
      )

  -- ── The whole insert ─────────────────────────────────────────────────

  moved_legal : (to : ℕ → ℕ) (d : ℕ) (q : Spot (Placed d)) → Legal (Insert i n) d q → Legal (Insert i n) d (moved to (move to d) q)
  moved_legal to d Vacant p = p
  moved_legal to d (Data s b t ws) p = tt
  moved_legal to d (Codes s b ps) p = tt

  -- a spot that begins at s and ends at e
  abbrev SpansHere : ℕ → ℕ → (d : ℕ) → Spot (Placed d) → Type 0
  SpansHere s e d q = (Legal (Insert i n) d q × (start_of d q ≡ s)) × (end_of d q ≡ e)

  raised_end : (s e d : ℕ) (q : Spot (Placed d)) → SpansHere s e d q
      → Legal (Insert i n) d (moved (up s n) (move (up s n) d) q) × (end_of d (moved (up s n) (move (up s n) d) q) ≡ e)
  raised_end s e d Vacant p = absurd p.0.0
  raised_end s e d (Data x b t ws) p = (tt, omega (arith, up_no s n x (omega (arith, p.0.1)), p.1))
  raised_end s e d (Codes x b ps) p = (tt, omega (arith, up_no s n x (omega (arith, p.0.1)), p.1, length-map ps (move (up s n) d)))

  its_piece : (s e d : ℕ) (q : Spot (Placed d)) → SpansHere s e d q → (s < e) × In (record { start = s; size = e - s }) (pieces (suc d) q)
  its_piece s e d Vacant p = absurd p.0.0
  its_piece s e d (Data x b t ws) p = (
    omega (arith, p.0.1, p.1),
    inl (ap (λ (k : ℕ). record { start = k; size = length ws + 1 }) p.0.1
        ∙ ap (λ (k : ℕ). record { start = s; size = k }) (omega (arith, p.0.1, p.1))),
  )
  its_piece s e d (Codes x b ps) p = (
    omega (arith, p.0.1, p.1),
    inl (ap (λ (k : ℕ). record { start = k; size = length ps + 1 }) p.0.1
        ∙ ap (λ (k : ℕ). record { start = s; size = k }) (omega (arith, p.0.1, p.1))),
  )

  -- over one gap behind the blocks
  inserted_sound : (t : Trace) (B : Arrangement) (T : ℕ) → Sound B → B.gaps ≡ a_gap (B.count - T) T → total B.gaps ≡ T → AtTrace (Legal (Insert i n)) t B → n ≤ T
      → Sound (at_trace (grown i n) t (raised (seen 0 start_of t B) n B))
  inserted_sound t B T o gaps sum a l =
      let s = seen 0 start_of t B in
      let e = seen 0 end_of t B in
      let p = named t B in
      let P = Legal (Insert i n) in
      let is = subscripts t in
      let here : At (SpansHere s e) 4 is p =
      at_look (λ d q. P d q × (start_of d q ≡ s)) 0 end_of 4 is p (at_look P 0 start_of 4 is p a) in
      let C = raised s n B in
      let there : AtTrace (λ d q. P d q × (end_of d q ≡ e)) t C =
      at_names_move (SpansHere s e) (λ d q. P d q × (end_of d q ≡ e)) (up s n) (raised_end s e) t B C refl here in
      let less : s < e = at_out (SpansHere s e) (s < e) (λ d q k. (its_piece s e d q k).0) 4 is p here in
      let bs = blocks B.names in
      let c : Piece = record { start = s; size = e - s } in
      let in_p : In c (pieces 4 p) =
      at_in c 4 is p (at_imp (SpansHere s e) (λ d q. In c (pieces (suc d) q)) (λ d q k. (its_piece s e d q k).1) 4 is p here) in
      let member : In c bs = in_concat c (pieces 4) Vacant B.names (t.name - 1) (name_in t (length B.names) o.names_64) in_p in
      let z : s + (e - s) ≡ e = omega arith in
      let side : Each (Beside s e) bs =
      subst (λ (k : ℕ). Each (Beside s k) bs) z
      (beside s (e - s) (omega arith) bs (blocks_some B.names)
      (λ y. omega (arith, o.tiled.once y, at_most_1 y 65 (B.count - 65))) member) in
      let u : ℕ = B.count - T - 65 in
      let fits : T + 65 ≤ B.count = omega (arith, total_within B o, sum) in
      let all : (y : ℕ) → covered y bs ≡ covers y (record { start = 65; size = u }) =
      λ y. omega (
        arith,
        o.tiled.once y,
        ap (covered y) gaps,
        gap_covered y (B.count - T) T,
        covers_split y 65 u T,
        ap (λ (k : ℕ). covers y (record { start = 65; size = k })) (let q : u + T ≡ B.count - 65 = omega arith in q),
        ap (λ (k : ℕ). covers y (record { start = k; size = T })) (let q : 65 + u ≡ B.count - T = omega arith in q),
      ) in
      let low : 65 ≤ s =
      elim (lies s 65 u) [
        | below m k ↦ absurd (omega (arith, all s, in_covers s c bs member, covers_yes s s (e - s) (omega arith) (omega arith)))
        | among m k j ↦ m
        | above m k ↦ absurd (omega (arith, all s, in_covers s c bs member, covers_yes s s (e - s) (omega arith) (omega arith)))
      ] in
      let high : e ≤ 65 + u =
      elim (lies (e - 1) 65 u) [
        | below m k ↦ absurd (omega (arith, all (e - 1), in_covers (e - 1) c bs member, covers_yes (e - 1) s (e - s) (omega arith) (omega arith)))
        | among m k j ↦ omega arith
        | above m k ↦ absurd (omega (arith, all (e - 1), in_covers (e - 1) c bs member, covers_yes (e - 1) s (e - s) (omega arith) (omega arith)))
      ] in
      let g : ℕ = total B.gaps - n in
      trace_sound (grown i n) (λ d q. P d q × (end_of d q ≡ e)) t C
      (record {
        names_64 = length-map B.names (move (up s n) 4) ∙ o.names_64;
        least = o.least;
        most = o.most;
        good = each_map (Good 4) (Good 4) (move (up s n) 4) (move_good (up s n) 4) B.names o.good;
      })
      there (λ d q k h. grown_good d q h) (λ y. 0) (λ y. covers y (record { start = e; size = n })) (grown_covered e)
      (λ y. omega (
        arith,
        ap (covered y) (all_move (up s n) B.names),
        raised_covered s e n less u y bs side low high all,
        gap_covered y (B.count - g) g,
        covers_split y 65 (u + n) g,
        ap (λ (k : ℕ). covers y (record { start = 65; size = k })) (let q : u + n + g ≡ B.count - 65 = omega arith in q),
        ap (λ (k : ℕ). covers y (record { start = k; size = g })) (let q : 65 + (u + n) ≡ B.count - g = omega arith in q),
      ))
      (gap_sized (B.count - g) g) (weaker (a_gap (B.count - g) g) (gap_climbs (B.count - g) g))

pub gap_total : (s n : ℕ) → total (a_gap s n) ≡ n
gap_total s zero = refl
gap_total s (suc n) = omega arith

pub insert_sound : (i : ℤ) (n : ℕ) (t : Trace) (A : Arrangement) → Sound A → AtTrace (Legal (Insert i n)) t A → n ≤ total A.gaps
    → Sound (rearranged t (Insert i n) A)
insert_sound i n t A o a l =
    let B = closed_up A in
    inserted_sound i n t B (total A.gaps) (closed_up_sound A o) refl (gap_total (A.count - total A.gaps) (total A.gaps))
    (at_names_move (Legal (Insert i n)) (Legal (Insert i n)) _ (moved_legal i n _) t A B refl a) l
