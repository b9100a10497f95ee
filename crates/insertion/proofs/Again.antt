-- Once the blocks above are raised, the trace leads to the same block, which stays where it begins.
use Rattle.std.proofs.Common.{◌≡◌, ℕ, suc, ◌+◌, ◌-◌, ◌<◌, ◌≤◌, Bool, true, false, cond, ltb, List, [], length, ℤ, Some, Ok, Err, Result, sym, refl, ap, ◌∙◌, subst, inl, inr, arith}
use lib.ListN.{length-map}
use Rattle.std.proofs.lemmas.Bool.{cases_lt, cond-false, cond-true, le-ltb, lt-ltb}
use Rattle.booking.specs.Bookings.{Answer, Deed, Extent, Insert, Span, Spans, granted, on}
use Rattle.booking.specs.Traces.{subscripts}
use Rattle.booking.specs.declared.refusal.Refusal.{Refusal}
use Rattle.booking.specs.declared.trace.Trace.{Trace}
use Rattle.codeword.specs.declared.Codeword.{Codeword}
use Rattle.ledger.specs.Doors.{element, off}
use Rattle.ledger.specs.Ledger.{book}
use Rattle.ledger.specs.Trees.{Trees}
use Rattle.layout.specs.Arrangement.{Arrangement, Codes, Data, Piece, Placed, Spot, Vacant, blocks, pieces}
use Rattle.layout.specs.Gaps.{a_gap}
use Rattle.layout.specs.Holds.{Displays}
use Rattle.layout.specs.Placement.{move, moved}
use Rattle.layout.specs.Places.{seen}
use Rattle.layout.specs.Rearranged.{raised, start_of}
use Rattle.layout.specs.Sound.{Each, Good, Sound, covered}
use Rattle.layout.specs.Walks.{walked}
use Rattle.layout.specs.Words.{first_of, labelling, total}
use Rattle.layout.proofs.Bridge.{Fits}
use Rattle.layout.proofs.Change.{AtTrace, at_imp, at_look, at_most_1, at_out, name_in, named}
use Rattle.layout.proofs.Close.{all_move}
use Rattle.layout.proofs.Cover.{above, among, below, each_both, each_last, each_start, lies}
use Rattle.layout.proofs.Decode.{Inside, fits_each, fits_one, total_within}
use Rattle.layout.proofs.Frees.{not_granted, not_none}
use Rattle.layout.proofs.Above.{In, at_in, beside, in_concat}
use Rattle.layout.proofs.Kept.{each_map, gap_covered, move_good}
use Rattle.layout.proofs.Order.{blocks_some}
use Rattle.layout.proofs.Owed.{granted_now}
use Rattle.layout.proofs.Place.{Fitting, Reached, Stands, booked, reached, subscripts_count}
use Rattle.layout.proofs.Refine.{moved_trees}
use Rattle.layout.proofs.Taken.{at_names_move}
use Rattle.insertion.specs.Raises.{Beside}
use Rattle.insertion.proofs.Opened.{Open, Shape, row, span_there, spanned, table}

-- ── Where the block at a trace begins ──────────────────────────────────

first_piece : (d : ℕ) (q : Spot (Placed d)) → first_of (pieces (suc d) q) ≡ start_of d q
first_piece d Vacant = refl
first_piece d (Data s b t ws) = refl
first_piece d (Codes s b ps) = refl

abbrev Anywhere : (d : ℕ) → Spot (Placed d) → Type 0
Anywhere d q = Unit {0}

pub start_seen : (ws : List ℕ) (A : Arrangement) (t : Trace) (at depth : ℕ) (spot : Spot (Placed depth)) → Stands ws A t at depth spot
    → seen 0 start_of t A ≡ start_of depth spot
start_seen ws A t at depth spot st =
    let is = subscripts t in
    let p = named t A in
    let s = seen 0 start_of t A in
    let ps : List Piece = seen [] (λ d q. pieces (suc d) q) t A in
    at_out (λ d q. (Unit {0} × (start_of d q ≡ s)) × (pieces (suc d) q ≡ ps)) (s ≡ start_of depth spot)
    (λ d q h. sym h.0.1 ∙ sym (first_piece d q) ∙ ap first_of (h.1 ∙ st.looked (λ d q. pieces (suc d) q)) ∙ first_piece depth spot) 4 is p
    (at_look (λ d q. Unit {0} × (start_of d q ≡ s)) [] (λ d q. pieces (suc d) q) 4 is p (at_look Anywhere 0 start_of 4 is p st.leads))

shape_start : (d : ℕ) (q : Spot (Placed d)) (s N : ℕ) (b : ℤ) (r : Bool) (ty : ℕ) → Shape d q s N b r ty → start_of d q ≡ s
shape_start d _ _ _ _ _ _ (row s b ty vs) = refl
shape_start d _ _ _ _ _ _ (table s b ps) = refl

shape_piece : (d : ℕ) (q : Spot (Placed d)) (s N : ℕ) (b : ℤ) (r : Bool) (ty : ℕ) → Shape d q s N b r ty → In (record { start = s; size = N + 1 }) (pieces (suc d) q)
shape_piece d _ _ _ _ _ _ (row s b ty vs) = inl refl
shape_piece d _ _ _ _ _ _ (table s b ps) = inl refl

shape_high : (count d : ℕ) (q : Spot (Placed d)) (s N : ℕ) (b : ℤ) (r : Bool) (ty : ℕ) → Shape d q s N b r ty → Fits count (suc d) q → 65 ≤ s
shape_high count d _ _ _ _ _ _ (row s b ty vs) g = g.1
shape_high count d _ _ _ _ _ _ (table s b ps) g = g.1

-- ── Two blocks of which the ledger says the same ───────────────────────

same_extent : (x y : Extent) → granted (Spans (Some x)) ≡ granted (Spans (Some y)) → x ≡ y
same_extent x y e = cc

-- ── Over one gap behind the blocks ─────────────────────────────────────

module _ (ws : List ℕ) (B : Arrangement) (o : Sound B) (one : B.gaps ≡ a_gap (B.count - total B.gaps) (total B.gaps))
    (t : Trace) (i : ℤ) (c : Codeword) (k : ℕ) (op : Open ws B t i c k) where
  abbrev s : ℕ
  s = op.start

  abbrev N : ℕ
  N = op.size

  abbrev e : ℕ
  e = s + 1 + N

  pub high : 65 ≤ s
  high = shape_high (length ws) op.depth op.spot s N op.base op.sort op.type op.shape op.stands.fits_in

  pub begins : seen 0 start_of t B ≡ s
  begins = start_seen ws B t op.at op.depth op.spot op.stands ∙ shape_start op.depth op.spot s N op.base op.sort op.type op.shape

  abbrev own : Piece
  own = record { start = s; size = N + 1 }

  member : In own (blocks B.names)
  member =
      let is = subscripts t in
      let p = named t B in
      let ps : List Piece = seen [] (λ d q. pieces (suc d) q) t B in
      let there : In own ps =
      subst (In own) (sym (op.stands.looked (λ d q. pieces (suc d) q))) (shape_piece op.depth op.spot s N op.base op.sort op.type op.shape) in
      in_concat own (pieces 4) Vacant B.names (t.name - 1) (name_in t (length B.names) o.names_64)
      (at_in own 4 is p
      (at_imp (λ d q. Unit {0} × (pieces (suc d) q ≡ ps)) (λ d q. In own (pieces (suc d) q)) (λ d q h. subst (In own) (sym h.1) there) 4 is p
      (at_look Anywhere [] (λ d q. pieces (suc d) q) 4 is p op.stands.leads)))

  pub besides : Each (Beside s e) (blocks B.names)
  besides =
      subst (λ (z : ℕ). Each (Beside s z) (blocks B.names)) (let p : s + (N + 1) ≡ s + 1 + N = omega arith in p)
      (beside s (N + 1) (omega arith) (blocks B.names) (blocks_some B.names)
      (λ y. omega (arith, o.tiled.once y, at_most_1 y 65 (B.count - 65))) member)

  -- ── The raised blocks ────────────────────────────────────────────────

  module _ (n : ℕ) (room : n ≤ total B.gaps) where
    abbrev C : Arrangement
    C = raised s n B

    abbrev up : ℕ → ℕ
    up z = cond (ltb s z) (z + n) z

    up_between : (z : ℕ) → (z ≤ up z) × (up z ≤ z + n)
    up_between z =
        elim (cases_lt s z) [
          | inl l ↦ let q : up z ≡ z + n = cond-true _ _ _ (lt-ltb s z l) in (omega arith, omega arith)
          | inr l ↦ let q : up z ≡ z = cond-false _ _ _ (le-ltb s z l) in (omega arith, omega arith)
        ]

    abbrev Low : ℕ → Type 0
    Low y = (65 ≤ y) × (y < B.count - total B.gaps)

    low : (y : ℕ) → 1 ≤ covered y (blocks B.names) → Low y
    low y h =
        let T = total B.gaps in
        let in_gap = gap_covered y (B.count - T) T in
        let once = o.tiled.once y in
        let here = ap (covered y) one in
        let wide = total_within B o in
        elim (lies y 65 (B.count - 65)) [
          | below l z ↦ absurd (omega arith)
          | among l m z ↦ elim (lies y (B.count - T) T) [
            | below g w ↦ (l, g)
            | among g r w ↦ absurd (omega arith)
            | above g w ↦ absurd (omega arith)
          ]
          | above l z ↦ absurd (omega arith)
        ]

    inside : Each (Inside B.count) (blocks C.names)
    inside =
        let bs = blocks B.names in
        let wide = total_within B o in
        subst (Each (Inside B.count)) (sym (all_move up B.names))
        (each_map (λ p. 1 ≤ p.size × (Low p.start × Low (p.start + p.size - 1))) (Inside B.count) _
        (λ p h. let u = up_between p.start in (omega (arith, h.1.0.0), omega (arith, h.0, h.1.1.1))) bs
        (each_both (λ p. 1 ≤ p.size) (λ p. Low p.start × Low (p.start + p.size - 1)) _ (λ p x y. (x, y)) bs (blocks_some B.names)
        (each_both (λ p. Low p.start) (λ p. Low (p.start + p.size - 1)) _ (λ p x y. (x, y)) bs
        (each_start Low bs (blocks_some B.names) low) (each_last Low bs (blocks_some B.names) low))))

    fitting_raised : Fitting C
    fitting_raised = record {
      names_64 = length-map B.names (move up 4) ∙ o.names_64;
      least = o.least;
      most = o.most;
      fit = fits_each B.count (pieces 4) (Good 4) (Fits B.count 4) (fits_one B.count 4) C.names
          (each_map (Good 4) (Good 4) (move up 4) (move_good up 4) B.names o.good) inside;
    }

    same_reply : (a : Deed) → booked C t a ≡ booked B t a
    same_reply a = ap (λ (ts : Trees). (book B.count ts (on t a)).0) (moved_trees up B.names)

    -- the block begins where it did
    still : seen 0 start_of t C ≡ s
    still =
        let is = subscripts t in
        let S = seen 0 start_of t B in
        let E = seen 0 start_of t C in
        let kept : (d : ℕ) (q : Spot (Placed d)) → (Unit {0} × (start_of d q ≡ S)) → start_of d (moved up (move up d) q) ≡ s = λ d q h. stays d q (h.1 ∙ begins) in
        let a : AtTrace (λ d q. start_of d q ≡ s) t C =
        at_names_move (λ d q. Unit {0} × (start_of d q ≡ S)) (λ d q. start_of d q ≡ s) up kept t B C refl
        (at_look Anywhere 0 start_of 4 is (named t B) op.stands.leads) in
        at_out (λ d q. (start_of d q ≡ s) × (start_of d q ≡ E)) (E ≡ s) (λ d q h. sym h.1 ∙ h.0) 4 is (named t C)
        (at_look (λ d q. start_of d q ≡ s) 0 start_of 4 is (named t C) a)
      where
        stays : (d : ℕ) (q : Spot (Placed d)) → start_of d q ≡ s → start_of d (moved up (move up d) q) ≡ s
        stays d Vacant h = h
        stays d (Data x b ty vs) h = ap up h ∙ cond-false _ _ _ (le-ltb s s (omega arith))
        stays d (Codes x b ps) h = ap up h ∙ cond-false _ _ _ (le-ltb s s (omega arith))

    module _ (vs : List ℕ) (shown : Displays vs C) where
      span_again : booked C t Span ≡ granted (Spans (Some (op.base, op.size, op.sort, op.type)))
      span_again = same_reply Span ∙ spanned ws B t i c k op

      again_at : (at depth : ℕ) (spot : Spot (Placed depth)) → Stands vs C t at depth spot → (x M : ℕ) (b : ℤ) (q : Bool) (ty : ℕ)
          → Shape depth spot x M b q ty → Open vs C t i c k
      again_at at depth spot st x M b q ty shape =
          let z : (b, M, q, ty) ≡ (op.base, op.size, op.sort, op.type) =
          same_extent _ _ (sym (span_there vs C t at depth spot st x M b q ty shape) ∙ span_again) in
          let from : x ≡ s = sym (shape_start depth spot x M b q ty shape) ∙ sym (start_seen vs C t at depth spot st) ∙ still in
          let f = ap (λ (y : Extent). y.0) z in
          record {
            at = at;
            depth = depth;
            spot = spot;
            stands = st;
            start = x;
            size = M;
            base = b;
            sort = q;
            type = ty;
            shape = shape;
            label = op.label
                ∙ ap (λ (y : ℕ). labelling (y + 1) op.size op.base op.sort op.type) (sym from)
                ∙ ap (λ (y : Extent). labelling (x + 1) y.1 y.0 y.2 y.3) (sym z);
            on = ap (λ (y : Extent). off y.0 (y.1 + 1) i) z ∙ op.on;
            is = op.is ∙ ap (λ (y : ℤ). element y i) (sym f);
          }

      again : (a : Answer) (n' : ℕ) → booked B t (Insert i n') ≡ granted a → (x : Result ℕ Refusal) → Reached vs C t x → Open vs C t i c k
      again a n' g (Err r) h = absurd (not_granted r a (sym (h (Insert i n')) ∙ same_reply (Insert i n') ∙ g))
      again a n' g (Ok at) (depth, Vacant, st) = absurd (not_none _ (sym span_again ∙ st.asked Span ∙ granted_now _ _))
      again a n' g (Ok at) (depth, Data x b ty us, st) = again_at at depth (Data x b ty us) st x (length us) b false ty (row x b ty us)
      again a n' g (Ok at) (depth, Codes x b ps, st) = again_at at depth (Codes x b ps) st x (length ps) b true 0 (table x b ps)

      pub opens_again : (a : Answer) (n' : ℕ) → booked B t (Insert i n') ≡ granted a → Open vs C t i c k
      opens_again a n' g =
          again a n' g (walked vs 1 t.name (subscripts t))
          (reached vs C fitting_raised shown t (omega (arith, subscripts_count t, t.lawful.2)))
