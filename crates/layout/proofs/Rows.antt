-- The data element selected at a trace; reading and writing it.
use Rattle.std.proofs.Common.{◌≡◌, ℕ, suc, ◌+◌, ◌-◌, ◌^◌, ◌<◌, ◌≤◌, Bool, true, false, cond, not, eqb, List, ◌∷◌, ◌++◌, length, get_or, set, ℤ, Ok, Err, Result, sym, refl, ap, ◌∙◌, subst, append_assoc, arith, length-set}
use Rattle.std.proofs.lemmas.List.{set-get_or}
use Rattle.std.proofs.lemmas.Bool.{cond-true, cond-false, eq-eqb, ne_eqb}
use Rattle.booking.specs.Bookings.{Deed, Done, Read, RowRead, RowWrite, Word, Write, granted, on, refused}
use Rattle.booking.specs.Traces.{subscripts}
use Rattle.booking.specs.declared.refusal.Refusal.{Refusal}
use Rattle.booking.specs.declared.refusal.Refusal.TheVariants.{OutOfBounds, Unlabelled, WrongSort, WrongType}
use Rattle.booking.specs.declared.trace.Trace.{Trace}
use Rattle.codeword.specs.Codeword.{unpacked}
use Rattle.codeword.specs.declared.Codeword.{Codeword}
use Rattle.ledger.specs.Deeds.{done_at}
use Rattle.ledger.specs.Doors.{element, off, turned}
use Rattle.ledger.specs.Ledger.{book}
use Rattle.ledger.specs.Trees.{Nothing, Row, Table, free}
use Rattle.layout.specs.Arrangement.{Arrangement, Codes, Data, Vacant, trees}
use Rattle.layout.specs.Booked.{Booked}
use Rattle.layout.specs.Elements.{row_chosen, row_found}
use Rattle.layout.specs.Held.{held_trees}
use Rattle.layout.specs.Holds.{Displays, Holds}
use Rattle.layout.specs.Rearranged.{data_change, rearranged}
use Rattle.layout.specs.Sound.{Sound}
use Rattle.layout.specs.Walks.{and_then, chosen, walked}
use Rattle.layout.specs.Words.{Cell, back, cells, cells_along, datum, datum_at, label, labelling}
use Rattle.layout.proofs.Frame.{cell, wrote}
use Rattle.layout.proofs.Owed.{granted_now, granted_owes, place_owes}
use Rattle.layout.proofs.WalkEnd.{along_get, door_open, door_shut, reply, shown_label, spread_at}
use Rattle.layout.proofs.Place.{Reached, Stands, booked, came, replied, subscripts_count}
use Rattle.ledger.proofs.Signs.{element_lt}

-- ── One step, on words ─────────────────────────────────────────────────

module _ (w kind : ℕ) (i : ℤ) (j : ℕ) where
  pub row_nothing : w ≡ 0 → row_chosen w kind i j ≡ Err (Unlabelled j)
  unfolding row_chosen
  row_nothing e = cond-true _ _ _ (eq-eqb w 0 e)

  module _ (c : Codeword) (is : c ≡ unpacked w) (some : w ≡ 0 → ⊥) where
    pub row_table : c.r ≡ true → row_chosen w kind i j ≡ Err (WrongSort j)
    unfolding row_chosen
    row_table q = cond-false _ _ _ (ne_eqb w 0 some) ∙ cond-true _ _ _ (sym (ap (λ (z : Codeword). z.r) is) ∙ q)

    row_row : c.r ≡ false
        → row_chosen w kind i j ≡ and_then (chosen c i j) (λ k. cond (eqb c.kind kind) (Ok (c.first + k, c.length - k)) (Err WrongType))
    unfolding row_chosen
    row_row q =
        cond-false _ _ _ (ne_eqb w 0 some) ∙ cond-false _ _ _ (sym (ap (λ (z : Codeword). z.r) is) ∙ q)
        ∙ sym (ap (λ (c : Codeword). and_then (chosen c i j) (λ k. cond (eqb c.kind kind) (Ok (c.first + k, c.length - k)) (Err WrongType))) is)

-- ── The four bookings that name a kind and a subscript ─────────────────

pub data Rowly (kind : ℕ) (i : ℤ) : Deed → Type 0 where
  reads : Rowly kind i (Read kind i)
  writes : {w : ℕ} → Rowly kind i (Write kind i w)
  row_reads : {n : ℕ} → Rowly kind i (RowRead kind i n)
  row_writes : {vs : List ℕ} → Rowly kind i (RowWrite kind i vs)

module _ {X : Type 0} (v : X) (f : X → ℕ) (kind : ℕ) (i : ℤ) (j : ℕ) where
  rowly_nothing : {a : Deed} → Rowly kind i a → done_at v f j a Nothing ≡ turned (Unlabelled j)
  rowly_nothing reads = refl
  rowly_nothing writes = refl
  rowly_nothing row_reads = refl
  rowly_nothing row_writes = refl

  rowly_table : {a : Deed} (b : ℤ) (ts : List X) → Rowly kind i a → done_at v f j a (Table b ts) ≡ turned (WrongSort j)
  rowly_table b ts reads = refl
  rowly_table b ts writes = refl
  rowly_table b ts row_reads = refl
  rowly_table b ts row_writes = refl

  rowly_off : {a : Deed} (b : ℤ) (t : ℕ) (ws : List ℕ) → off b (length ws) i ≡ true → Rowly kind i a → done_at v f j a (Row b t ws) ≡ turned (OutOfBounds j)
  rowly_off b t ws e reads = door_shut _ _ _ e
  rowly_off b t ws e writes = door_shut _ _ _ e
  rowly_off b t ws e row_reads = door_shut _ _ _ e
  rowly_off b t ws e row_writes = door_shut _ _ _ e

  rowly_type : {a : Deed} (b : ℤ) (t : ℕ) (ws : List ℕ) → off b (length ws) i ≡ false → eqb t kind ≡ false → Rowly kind i a → done_at v f j a (Row b t ws) ≡ turned WrongType
  rowly_type b t ws e n reads = door_open _ _ _ e ∙ door_shut _ _ _ (ap not n)
  rowly_type b t ws e n writes = door_open _ _ _ e ∙ door_shut _ _ _ (ap not n)
  rowly_type b t ws e n row_reads = door_open _ _ _ e ∙ door_shut _ _ _ (ap not n)
  rowly_type b t ws e n row_writes = door_open _ _ _ e ∙ door_shut _ _ _ (ap not n)

-- ── The element selected ───────────────────────────────────────────────

pub record Selected (ws : List ℕ) (A : Arrangement) (t : Trace) (kind : ℕ) (i : ℤ) (y left : ℕ) : Type 0 where
  pub at : ℕ
  pub depth : ℕ
  pub start : ℕ
  pub base : ℤ
  pub type : ℕ
  pub words : List ℕ
  pub stands : Stands ws A t at depth (Data start base type words)
  pub on : off base (length words) i ≡ false
  pub typed : eqb type kind ≡ true
  pub is_at : y ≡ start + 1 + element base i
  pub is_left : left ≡ length words - element base i

abbrev pub Selects : List ℕ → Arrangement → Trace → ℕ → ℤ → Result (ℕ × ℕ) Refusal → Type 0
Selects ws A t kind i (Err r) = (a : Deed) → Rowly kind i a → booked A t a ≡ refused r
Selects ws A t kind i (Ok x) = Selected ws A t kind i x.0 x.1

module _ (ws : List ℕ) (A : Arrangement) (t : Trace) (kind : ℕ) (i : ℤ) (small : length ws ≤ 2 ^ 18) where
  selects : (x : Result ℕ Refusal) → Reached ws A t x → Selects ws A t kind i (and_then x (λ a. row_chosen (get_or ws a 0) kind i (1 + length (subscripts t))))
  unfolding chosen
  selects (Err r) h = λ a w. h a
  selects (Ok at) (depth, Vacant, st) =
      subst (Selects ws A t kind i) (sym (row_nothing (get_or ws at 0) kind i _ st.shows))
      (λ a w. st.asked a ∙ ap (reply _) (rowly_nothing _ _ kind i _ w))
  selects (Ok at) (depth, Codes s b ps, st) =
      let g = st.fits_in in
      let m = shown_label ws small (get_or ws at 0) s (length ps) b true 0 g.0 g.2 g.3 (omega arith) st.shows.0 in
      subst (Selects ws A t kind i) (sym (row_table (get_or ws at 0) kind i _ _ m.0 m.1 refl))
      (λ a w. st.asked a ∙ ap (reply _) (rowly_table _ _ kind i _ b _ w))
  selects (Ok at) (depth, Data s b ty vs, st) = pick (off b (length vs) i) refl (eqb ty kind) refl
    where
      is : (z : Result ℕ Refusal) → chosen (labelling (s + 1) (length vs) b false ty) i (1 + length (subscripts t)) ≡ z
          → row_chosen (get_or ws at 0) kind i (1 + length (subscripts t)) ≡ and_then z (λ k. cond (eqb ty kind) (Ok (s + 1 + k, length vs - k)) (Err WrongType))
      is z e =
          let g = st.fits_in in
          let m = shown_label ws small (get_or ws at 0) s (length vs) b false ty g.0 g.2 g.3 g.4 st.shows.0 in
          row_row (get_or ws at 0) kind i _ _ m.0 m.1 refl
          ∙ ap (λ (o : Result ℕ Refusal). and_then o (λ k. cond (eqb ty kind) (Ok (s + 1 + k, length vs - k)) (Err WrongType))) e

      pick : (p : Bool) → off b (length vs) i ≡ p → (q : Bool) → eqb ty kind ≡ q
          → Selects ws A t kind i (row_chosen (get_or ws at 0) kind i (1 + length (subscripts t)))
      pick true e q e' =
          subst (Selects ws A t kind i) (sym (is (Err (OutOfBounds _)) (cond-true _ _ _ e)))
          (λ a w. st.asked a ∙ ap (reply _) (rowly_off _ _ kind i _ b ty vs e w))
      pick false e false e' =
          subst (Selects ws A t kind i) (sym (is (Ok (element b i)) (cond-false _ _ _ e) ∙ cond-false _ _ _ e'))
          (λ a w. st.asked a ∙ ap (reply _) (rowly_type _ _ kind i _ b ty vs e e' w))
      pick false e true e' =
          subst (Selects ws A t kind i) (sym (is (Ok (element b i)) (cond-false _ _ _ e) ∙ cond-true _ _ _ e'))
          (record { at = at; depth = depth; start = s; base = b; type = ty; words = vs; stands = st; on = e; typed = e'; is_at = refl; is_left = refl })

  module _ (y left : ℕ) (x : Selected ws A t kind i y left) where
    abbrev k : ℕ
    k = free A.count (trees A)

    pub element_inside : element x.base i < length x.words
    element_inside = element_lt x.base i (length x.words) x.on

    pub word_there : get_or ws y 0 ≡ get_or x.words (element x.base i) 0
    word_there =
        ap (λ (z : ℕ). get_or ws z 0) x.is_at
        ∙ along_get (λ z v. get_or ws z 0 ≡ v) (x.start + 1) x.words 0 (element x.base i) element_inside x.stands.shows.2

    -- past the doors of subscript and type
    pub read_granted : booked A t (Read kind i) ≡ granted (Word (get_or ws y 0))
    read_granted =
        x.stands.asked (Read kind i) ∙ ap (reply k) (door_open _ _ _ x.on ∙ door_open _ _ _ (ap not x.typed)) ∙ granted_now _ _
        ∙ ap (λ (w : ℕ). granted (Word w)) (sym word_there)

    pub write_granted : (w : ℕ) → booked A t (Write kind i w) ≡ granted Done
    write_granted w =
        x.stands.asked (Write kind i w) ∙ ap (reply k) (door_open _ _ _ x.on ∙ door_open _ _ _ (ap not x.typed)) ∙ granted_now _ _

    pub written : Sound A → Displays ws A → (w : ℕ) → Displays (set ws y w) (rearranged t (Write kind i w) A)
    written o s w =
        let e = element x.base i in
        let st = x.stands in
        let r = spread_at datum_at (x.start + 1) e x.words element_inside in
        let head : ℕ → List Cell → List Cell =
        λ n cs. cell x.at (label x.start n x.base false x.type) ∷ cell x.start (back x.at) ∷ cs in
        let way : (v : ℕ) → st.before ++ (head (length (set x.words e v)) (cells_along datum_at (x.start + 1) (set x.words e v)) ++ st.after)
        ≡ (st.before ++ head (length x.words) r.pre) ++ (cell (x.start + 1 + e) (datum v) ∷ (r.post ++ st.after)) =
        λ v. ap (λ (n : ℕ). st.before ++ (head n (cells_along datum_at (x.start + 1) (set x.words e v)) ++ st.after)) (length-set x.words e v)
        ∙ ap (λ (cs : List Cell). st.before ++ (head (length x.words) cs ++ st.after)) (r.spread v)
        ∙ simp append_assoc in
        subst (λ (z : ℕ). Displays (set ws z w) (rearranged t (Write kind i w) A)) (sym x.is_at)
        (wrote ws A o s _ _ _ (x.start + 1 + e) (datum (get_or x.words e 0)) (datum w) (omega (arith, st.fits_in.2, element_inside))
        (st.here ∙ ap (λ (vs : List ℕ). st.before ++ (cells (suc x.depth) x.at (Data x.start x.base x.type vs) ++ st.after)) (sym (set-get_or x.words e 0)) ∙ way (get_or x.words e 0))
        (st.there (data_change (λ b ws. set ws (element b i) w)) ∙ way w))

-- ── Over words that hold together ──────────────────────────────────────

module _ (ws : List ℕ) (h : Holds ws) (t : Trace) (kind : ℕ) (i : ℤ) where
  pub few_words : length ws ≤ 2 ^ 18
  few_words = omega (arith, h.shown.count, h.sound.most)

  -- what was found at the trace, by a subscript as the code has it
  pub picked : (z : ℤ) → z ≡ i → (r : Result (ℕ × ℕ) Refusal) → r ≡ row_found ws t kind z → Selects ws h.arrangement t kind i r
  unfolding row_found
  picked z q r e =
      subst (Selects ws h.arrangement t kind i) (ap (row_found ws t kind) (sym q) ∙ sym e)
      (subst (λ (j : ℕ). Selects ws h.arrangement t kind i (and_then (walked ws 1 t.name (subscripts t)) (λ a. row_chosen (get_or ws a 0) kind i j)))
      (omega (arith, subscripts_count t))
      (selects ws h.arrangement t kind i few_words (walked ws 1 t.name (subscripts t)) (came ws h t (walked ws 1 t.name (subscripts t)) refl)))

  module _ (z : ℤ) (q : z ≡ i) where
    pub row_refused : (r : Refusal) → Err r ≡ row_found ws t kind z → (a : Deed) → Rowly kind i a → Booked ws (on t a) (refused r) ws
    row_refused r e a w = place_owes ws h t a r (picked z q (Err r) e a w)

    pub read_done : (y left w : ℕ) → Ok (y, left) ≡ row_found ws t kind z → w ≡ get_or ws y 0
        → granted (Word w) ≡ (book (length ws) (held_trees ws) (on t (Read kind i))).0
    read_done y left w e is =
        ap (λ (v : ℕ). granted (Word v)) is
        ∙ sym (read_granted ws h.arrangement t kind i few_words y left (picked z q (Ok (y, left)) e))
        ∙ replied ws h t (Read kind i)

    pub write_done : (y left w : ℕ) (us : List ℕ) → Ok (y, left) ≡ row_found ws t kind z → us ≡ set ws y w → Booked ws (on t (Write kind i w)) (granted Done) us
    write_done y left w us e is =
        let x = picked z q (Ok (y, left)) e in
        granted_owes ws h t (Write kind i w) Done us (write_granted ws h.arrangement t kind i few_words y left x w)
        (subst (λ (us : List ℕ). Displays us (rearranged t (Write kind i w) h.arrangement)) (sym is)
        (written ws h.arrangement t kind i few_words y left x h.sound h.shown w))
