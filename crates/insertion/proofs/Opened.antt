-- The doors of an insertion: the block at the trace, and the element before which others come in.
use Rattle.std.proofs.Common.{◌≡◌, ℕ, ◌+◌, ◌^◌, ◌≤◌, Bool, true, false, cond, eqb, leb, List, length, get_or, ℤ, Some, Ok, Err, Result, sym, refl, ap, ◌∙◌, subst, arith}
use lib.ListN.{length-map}
use Rattle.std.proofs.lemmas.Bool.{cond-false, cond-true, eq-eqb, ne_eqb}
use Rattle.booking.specs.Bookings.{Done, Insert, Span, Spans, granted, refused}
use Rattle.booking.specs.Traces.{subscripts}
use Rattle.booking.specs.declared.refusal.Refusal.{Refusal}
use Rattle.booking.specs.declared.refusal.Refusal.TheVariants.{BadLength, NoRoom, OutOfBounds, Unlabelled}
use Rattle.booking.specs.declared.trace.Trace.{Trace}
use Rattle.codeword.specs.Codeword.{InWidth, unpacked}
use Rattle.codeword.specs.declared.Codeword.{Codeword}
use Rattle.ledger.specs.Doors.{element, off}
use Rattle.ledger.specs.Trees.{free}
use Rattle.layout.specs.Arrangement.{Arrangement, Codes, Data, Placed, Spot, Vacant, tree, trees}
use Rattle.layout.specs.Walks.{and_then, chosen, walked}
use Rattle.layout.specs.Words.{labelling}
use Rattle.layout.proofs.Gone.{chosen_lt}
use Rattle.layout.proofs.Owed.{granted_now}
use Rattle.layout.proofs.WalkEnd.{door_open, door_shut, reply, shown_label}
use Rattle.layout.proofs.Place.{Reached, Stands, booked, subscripts_count}
use Rattle.ledger.proofs.Signs.{element_lt}
use Rattle.insertion.specs.Openings.{longer, opened, opening_in}

-- ── One step, on words ─────────────────────────────────────────────────

module _ (w : ℕ) (i : ℤ) (j : ℕ) where
  opening_nothing : w ≡ 0 → opening_in w i j ≡ Err (Unlabelled j)
  unfolding opening_in
  opening_nothing e = cond-true _ _ _ (eq-eqb w 0 e)

  opening_block : (c : Codeword) → c ≡ unpacked w → (w ≡ 0 → ⊥) → opening_in w i j ≡ and_then (chosen (longer 1 c) i j) (λ k. Ok (c, k))
  unfolding opening_in
  opening_block c is some =
      cond-false _ _ _ (ne_eqb w 0 some)
      ∙ sym (ap (λ (c : Codeword). and_then (chosen (longer 1 c) i j) (λ k. Ok (c, k))) is)

-- ── The block ──────────────────────────────────────────────────────────

-- a block at s of N elements from base b on: of data of a type, or of codewords
pub data Shape (d : ℕ) : Spot (Placed d) → (s N : ℕ) → ℤ → Bool → ℕ → Type 0 where
  row : (s : ℕ) (b : ℤ) (ty : ℕ) (vs : List ℕ) → Shape d (Data s b ty vs) s (length vs) b false ty
  table : (s : ℕ) (b : ℤ) (ps : List (Placed d)) → Shape d (Codes s b ps) s (length ps) b true 0

-- the trace leads to a block with this label, and the subscript selects its element k, or the one past its last
pub record Open (ws : List ℕ) (A : Arrangement) (t : Trace) (i : ℤ) (c : Codeword) (k : ℕ) : Type 0 where
  pub at : ℕ
  pub depth : ℕ
  pub spot : Spot (Placed depth)
  pub stands : Stands ws A t at depth spot
  pub start : ℕ
  pub size : ℕ
  pub base : ℤ
  pub sort : Bool
  pub type : ℕ
  pub shape : Shape depth spot start size base sort type
  pub label : c ≡ labelling (start + 1) size base sort type
  pub on : off base (size + 1) i ≡ false
  pub is : k ≡ element base i

abbrev pub Opens : List ℕ → Arrangement → Trace → ℤ → Result (Codeword × ℕ) Refusal → Type 0
Opens ws A t i (Err r) = (n : ℕ) → booked A t (Insert i n) ≡ refused r
Opens ws A t i (Ok x) = Open ws A t i x.0 x.1

-- past an end, whichever sort of block it is
off_there : (ws : List ℕ) (A : Arrangement) (t : Trace) (i : ℤ) (at depth : ℕ) (spot : Spot (Placed depth)) → Stands ws A t at depth spot
    → (s N : ℕ) (b : ℤ) (q : Bool) (ty : ℕ) → Shape depth spot s N b q ty → off b (N + 1) i ≡ true
    → (n : ℕ) → booked A t (Insert i n) ≡ refused (OutOfBounds (1 + length (subscripts t)))
off_there ws A t i at depth _ st _ _ b _ ty (row _ _ _ vs) e n = st.asked (Insert i n) ∙ ap (reply _) (door_shut _ _ _ e)
off_there ws A t i at depth _ st _ _ b _ _ (table _ _ ps) e n =
    st.asked (Insert i n) ∙ ap (reply _) (door_shut _ _ _ (ap (λ (m : ℕ). off b (m + 1) i) (length-map ps (tree depth)) ∙ e))

module _ (ws : List ℕ) (A : Arrangement) (t : Trace) (i : ℤ) (small : length ws ≤ 2 ^ 18) where
  abbrev step : ℕ
  step = 1 + length (subscripts t)

  module _ (at depth : ℕ) (spot : Spot (Placed depth)) (st : Stands ws A t at depth spot) (s N : ℕ) (b : ℤ) (q : Bool) (ty : ℕ)
      (shape : Shape depth spot s N b q ty) (read : labelling (s + 1) N b q ty ≡ unpacked (get_or ws at 0)) (some : get_or ws at 0 ≡ 0 → ⊥) where
    found : (x : Result ℕ Refusal) → chosen (longer 1 (labelling (s + 1) N b q ty)) i step ≡ x
        → opening_in (get_or ws at 0) i step ≡ and_then x (λ k. Ok (labelling (s + 1) N b q ty, k))
    found x e =
        opening_block (get_or ws at 0) i step _ read some ∙ ap (λ (o : Result ℕ Refusal). and_then o (λ k. Ok (labelling (s + 1) N b q ty, k))) e

    opens_block : Opens ws A t i (opening_in (get_or ws at 0) i step)
    unfolding chosen
    opens_block = pick (off b (N + 1) i) refl
      where
        pick : (p : Bool) → off b (N + 1) i ≡ p → Opens ws A t i (opening_in (get_or ws at 0) i step)
        pick true e = subst (Opens ws A t i) (sym (found (Err (OutOfBounds step)) (cond-true _ _ _ e))) (λ n. off_there ws A t i at depth spot st s N b q ty shape e n)
        pick false e =
            subst (Opens ws A t i) (sym (found (Ok (element b i)) (cond-false _ _ _ e)))
            (record {
              at = at;
              depth = depth;
              spot = spot;
              stands = st;
              start = s;
              size = N;
              base = b;
              sort = q;
              type = ty;
              shape = shape;
              label = refl;
              on = e;
              is = refl;
            })

  opens : (x : Result ℕ Refusal) → Reached ws A t x → Opens ws A t i (and_then x (λ a. opening_in (get_or ws a 0) i step))
  opens (Err r) h = λ n. h (Insert i n)
  opens (Ok at) (depth, Vacant, st) =
      subst (Opens ws A t i) (sym (opening_nothing (get_or ws at 0) i step st.shows)) (λ n. st.asked (Insert i n))
  opens (Ok at) (depth, Data s b ty vs, st) =
      let g = st.fits_in in
      let m = shown_label ws small (get_or ws at 0) s (length vs) b false ty g.0 g.2 g.3 g.4 st.shows.0 in
      opens_block at depth (Data s b ty vs) st s (length vs) b false ty (row s b ty vs) m.0 m.1
  opens (Ok at) (depth, Codes s b ps, st) =
      let g = st.fits_in in
      let m = shown_label ws small (get_or ws at 0) s (length ps) b true 0 g.0 g.2 g.3 (omega arith) st.shows.0 in
      opens_block at depth (Codes s b ps) st s (length ps) b true 0 (table s b ps) m.0 m.1

  -- the same by a subscript as the code has it
  pub opened_so : Reached ws A t (walked ws 1 t.name (subscripts t)) → (z : ℤ) → z ≡ i → (r : Result (Codeword × ℕ) Refusal) → r ≡ opened ws t z → Opens ws A t i r
  unfolding opened
  opened_so h z q r e =
      subst (Opens ws A t i) (ap (opened ws t) (sym q) ∙ sym e)
      (subst (λ (j : ℕ). Opens ws A t i (and_then (walked ws 1 t.name (subscripts t)) (λ a. opening_in (get_or ws a 0) i j)))
      (omega (arith, subscripts_count t)) (opens (walked ws 1 t.name (subscripts t)) h))

-- ── What the ledger says there ─────────────────────────────────────────

module _ (ws : List ℕ) (A : Arrangement) (t : Trace) (at depth : ℕ) where
  pub span_there : (spot : Spot (Placed depth)) → Stands ws A t at depth spot → (s N : ℕ) (b : ℤ) (q : Bool) (ty : ℕ) → Shape depth spot s N b q ty
      → booked A t Span ≡ granted (Spans (Some (b, N, q, ty)))
  span_there _ st _ _ b _ ty (row _ _ _ vs) = st.asked Span ∙ granted_now _ _
  span_there _ st _ _ b _ _ (table _ _ ps) =
      st.asked Span ∙ granted_now _ _ ∙ ap (λ (m : ℕ). granted (Spans (Some (b, m, true, 0)))) (length-map ps (tree depth))

  module _ (i : ℤ) (n : ℕ) where
    none_asked : (spot : Spot (Placed depth)) → Stands ws A t at depth spot → (s N : ℕ) (b : ℤ) (q : Bool) (ty : ℕ) → Shape depth spot s N b q ty
        → off b (N + 1) i ≡ false → n ≡ 0 → booked A t (Insert i n) ≡ refused BadLength
    none_asked _ st _ _ b _ ty (row _ _ _ vs) e z = st.asked (Insert i n) ∙ ap (reply _) (door_open _ _ _ e ∙ door_shut _ _ _ (eq-eqb n 0 z))
    none_asked _ st _ _ b _ _ (table _ _ ps) e z =
        st.asked (Insert i n)
        ∙ ap (reply _) (door_open _ _ _ (ap (λ (m : ℕ). off b (m + 1) i) (length-map ps (tree depth)) ∙ e) ∙ door_shut _ _ _ (eq-eqb n 0 z))

    some_asked : (spot : Spot (Placed depth)) → Stands ws A t at depth spot → (s N : ℕ) (b : ℤ) (q : Bool) (ty : ℕ) → Shape depth spot s N b q ty
        → off b (N + 1) i ≡ false → (n ≡ 0 → ⊥)
        → booked A t (Insert i n) ≡ cond (leb n (free A.count (trees A) + 0)) (granted Done) (refused NoRoom)
    some_asked _ st _ _ b _ ty (row _ _ _ vs) e z = st.asked (Insert i n) ∙ ap (reply _) (door_open _ _ _ e ∙ door_open _ _ _ (ne_eqb n 0 z))
    some_asked _ st _ _ b _ _ (table _ _ ps) e z =
        st.asked (Insert i n)
        ∙ ap (reply _) (door_open _ _ _ (ap (λ (m : ℕ). off b (m + 1) i) (length-map ps (tree depth)) ∙ e) ∙ door_open _ _ _ (ne_eqb n 0 z))

module _ (ws : List ℕ) (A : Arrangement) (t : Trace) (i : ℤ) (c : Codeword) (k : ℕ) (o : Open ws A t i c k) where
  pub none_refused : (n : ℕ) → n ≡ 0 → booked A t (Insert i n) ≡ refused BadLength
  none_refused n z = none_asked ws A t o.at o.depth i n o.spot o.stands o.start o.size o.base o.sort o.type o.shape o.on z

  pub some_asks_room : (n : ℕ) → (n ≡ 0 → ⊥) → booked A t (Insert i n) ≡ cond (leb n (free A.count (trees A) + 0)) (granted Done) (refused NoRoom)
  some_asks_room n z = some_asked ws A t o.at o.depth i n o.spot o.stands o.start o.size o.base o.sort o.type o.shape o.on z

  pub spanned : booked A t Span ≡ granted (Spans (Some (o.base, o.size, o.sort, o.type)))
  spanned = span_there ws A t o.at o.depth o.spot o.stands o.start o.size o.base o.sort o.type o.shape

  pub within : k ≤ o.size
  within = omega (arith, o.is, element_lt o.base i (o.size + 1) o.on)

-- ── Over any words ─────────────────────────────────────────────────────

-- the fields of a label that was read are small, and the element is one of its block or the one past its last
abbrev pub Small : Codeword → ℕ → Type 0
Small c k = InWidth c × (k ≤ c.length)

not_ok : {X : Type 0} (r : Refusal) (x : X) → ◌≡◌ {A = Result X Refusal} (Ok x) (Err r) → ⊥
not_ok r x e = let w : ◌≡◌ {A = ℕ} 0 1 = cc in omega arith

small_in : (w : ℕ) (i : ℤ) (j : ℕ) (c : Codeword) (k : ℕ) → Ok (c, k) ≡ opening_in w i j → Small c k
unfolding opening_in
small_in w i j c k e = pick (eqb w 0) e
  where
    read : (x : Result ℕ Refusal) → x ≡ chosen (longer 1 (unpacked w)) i j → ◌≡◌ {A = Result (Codeword × ℕ) Refusal} (Ok (c, k)) (and_then x (λ m. Ok (unpacked w, m))) → Small c k
    read (Err r) f g = absurd (not_ok r (c, k) g)
    read (Ok m) f g =
        let same : ◌≡◌ {A = Codeword × ℕ} (c, k) (unpacked w, m) = cc in
        let lt = chosen_lt (longer 1 (unpacked w)) i j m f in
        subst (λ (x : Codeword × ℕ). Small x.0 x.1) (sym same) ((omega arith, omega arith, omega arith), omega arith)

    pick : (q : Bool) → ◌≡◌ {A = Result (Codeword × ℕ) Refusal} (Ok (c, k)) (cond q (Err (Unlabelled j)) (and_then (chosen (longer 1 (unpacked w)) i j) (λ m. Ok (unpacked w, m)))) → Small c k
    pick true g = absurd (not_ok (Unlabelled j) (c, k) g)
    pick false g = read (chosen (longer 1 (unpacked w)) i j) refl g

pub opened_small : (ws : List ℕ) (t : Trace) (i : ℤ) (c : Codeword) (k : ℕ) → Ok (c, k) ≡ opened ws t i → Small c k
unfolding opened
opened_small ws t i c k e = pick (walked ws 1 t.name (subscripts t)) e
  where
    pick : (x : Result ℕ Refusal) → ◌≡◌ {A = Result (Codeword × ℕ) Refusal} (Ok (c, k)) (and_then x (λ a. opening_in (get_or ws a 0) i (t.depth + 1))) → Small c k
    pick (Err r) g = absurd (not_ok r (c, k) g)
    pick (Ok a) g = small_in (get_or ws a 0) i (t.depth + 1) c k g
