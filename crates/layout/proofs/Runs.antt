-- A row of data words, written and read.
use Rattle.std.proofs.Common.{◌≡◌, ℕ, suc, ◌+◌, ◌^◌, ◌<◌, ◌≤◌, true, false, not, ◌⊎◌, List, [], ◌∷◌, ◌++◌, length, get_or, take, drop, ℤ, Ok, sym, refl, ap, ◌∙◌, subst, inl, inr, append_assoc, add-zero, arith, length-append, length-drop, take-append-drop, length-take, ext_get_or}
use Rattle.std.proofs.lemmas.List.{drop-drop, get_or-drop, get_or-take}
use Rattle.std.proofs.lemmas.Bool.{or_left, or_right, or_from, eq-eqb, ne_eqb, lt-ltb, le-ltb}
use Rattle.booking.specs.Bookings.{Done, RowRead, RowWrite, Words, granted, on, refused}
use Rattle.booking.specs.declared.refusal.Refusal.TheVariants.{BadLength}
use Rattle.booking.specs.declared.trace.Trace.{Trace}
use Rattle.ledger.specs.Doors.{bad_run, element}
use Rattle.ledger.specs.Ledger.{book}
use Rattle.ledger.specs.Lists.{overwrite}
use Rattle.layout.specs.Arrangement.{Arrangement, Data}
use Rattle.layout.specs.Booked.{Booked}
use Rattle.layout.specs.Elements.{row_found}
use Rattle.layout.specs.Held.{held_trees}
use Rattle.layout.specs.Holds.{Displays, Holds}
use Rattle.layout.specs.Rearranged.{data_change, rearranged}
use Rattle.layout.specs.Sound.{Each, Sound}
use Rattle.layout.specs.Words.{Cell, back, cells, cells_along, datum, datum_at, label, written}
use Rattle.layout.proofs.Frame.{cell}
use Rattle.layout.proofs.Hits.{here, hits}
use Rattle.layout.proofs.Owed.{granted_now, granted_owes, place_owes}
use Rattle.layout.proofs.WalkEnd.{along_get, door_open, door_shut, reply}
use Rattle.layout.proofs.Place.{booked, replied}
use Rattle.layout.proofs.Rewritten.{rewrote}
use Rattle.layout.proofs.Rows.{Selected, element_inside, few_words, picked}

-- ── Rows of data ───────────────────────────────────────────────────────

abbrev pub data_cells : ℕ → List ℕ → List Cell
data_cells a vs = cells_along datum_at a vs

pub data-++ : (a : ℕ) (xs ys : List ℕ) → data_cells a (xs ++ ys) ≡ data_cells a xs ++ data_cells (a + length xs) ys
data-++ a [] ys = ap (λ (k : ℕ). data_cells k ys) (sym (add-zero a))
data-++ a (x ∷ xs) ys =
    ap (λ (cs : List Cell). cell a (datum x) ∷ cs) (data-++ (a + 1) xs ys ∙ ap (λ (k : ℕ). data_cells (a + 1) xs ++ data_cells k ys) (omega arith))

data_hits : (z a : ℕ) (xs ys : List ℕ) → length xs ≡ length ys → hits z (data_cells a xs) ≡ hits z (data_cells a ys)
data_hits z a [] [] e = refl
data_hits z a [] (y ∷ ys) e = absurd (omega arith)
data_hits z a (x ∷ xs) [] e = absurd (omega arith)
data_hits z a (x ∷ xs) (y ∷ ys) e = ap (λ (k : ℕ). here z a + k) (data_hits z (a + 1) xs ys (omega arith))

data_inside : (count a : ℕ) (xs : List ℕ) → a + length xs ≤ count → Each (λ c. c.at < count) (data_cells a xs)
data_inside count a [] h = tt
data_inside count a (x ∷ xs) h = (omega arith, data_inside count (a + 1) xs (omega arith))

module _ (ws : List ℕ) (A : Arrangement) (t : Trace) (kind : ℕ) (i : ℤ) (small : length ws ≤ 2 ^ 18) (y left : ℕ) (x : Selected ws A t kind i y left) (vs : List ℕ) where
  abbrev e : ℕ
  e = element x.base i

  run_refused : (length vs ≡ 0) ⊎ (left < length vs) → booked A t (RowWrite kind i vs) ≡ refused BadLength
  run_refused w =
      x.stands.asked (RowWrite kind i vs)
      ∙ ap (reply _) (door_open _ _ _ x.on ∙ door_open _ _ _ (ap not x.typed) ∙ door_shut _ _ _ (bad w))
    where
      bad : (length vs ≡ 0) ⊎ (left < length vs) → bad_run (element x.base i) (length vs) (length x.words) ≡ true
      bad (inl h) = or_left _ _ (eq-eqb (length vs) 0 h)
      bad (inr h) = or_right _ _ (lt-ltb (length x.words) (element x.base i + length vs) (omega (arith, x.is_left, element_inside ws A t kind i small y left x)))

  run_granted : (length vs ≡ 0 → ⊥) → length vs ≤ left → booked A t (RowWrite kind i vs) ≡ granted Done
  run_granted h l =
      x.stands.asked (RowWrite kind i vs)
      ∙ ap (reply _) (door_open _ _ _ x.on ∙ door_open _ _ _ (ap not x.typed)
      ∙ door_open _ _ _ (or_from _ _ (ne_eqb (length vs) 0 h)
      (le-ltb (length x.words) (e + length vs) (omega (arith, x.is_left, element_inside ws A t kind i small y left x)))))
      ∙ granted_now _ _

  run_written : Sound A → Displays ws A → length vs ≤ left → Displays (written (data_cells y vs) ws) (rearranged t (RowWrite kind i vs) A)
  run_written o s l =
      let st = x.stands in
      let us = x.words in
      let n = length vs in
      let lt = element_inside ws A t kind i small y left x in
      let fits : e + n ≤ length us = omega (arith, x.is_left) in
      let old = take n (drop e us) in
      let old_n : length old ≡ n = simp (length-take, length-drop) (omega arith) in
      let pre_n : length (take e us) ≡ e = simp length-take (omega arith) in
      let head : ℕ → List Cell = λ k. cell x.at (label x.start k x.base false x.type) ∷ cell x.start (back x.at) ∷ [] in
      let first = x.start + 1 in
      let way : (ms : List ℕ) → length ms ≡ n → st.before ++ (cells (suc x.depth) x.at (Data x.start x.base x.type (take e us ++ (ms ++ drop (e + n) us))) ++ st.after)
      ≡ (st.before ++ (head (length us) ++ data_cells first (take e us))) ++ (data_cells y ms ++ (data_cells (y + n) (drop (e + n) us) ++ st.after)) =
      λ ms q.
      ap (λ (k : ℕ). st.before ++ ((head k ++ data_cells first (take e us ++ (ms ++ drop (e + n) us))) ++ st.after))
      (simp (length-append, length-drop) (omega (arith, pre_n, q)))
      ∙ ap (λ (cs : List Cell). st.before ++ ((head (length us) ++ cs) ++ st.after))
      (data-++ first (take e us) (ms ++ drop (e + n) us)
      ∙ ap (λ (k : ℕ). data_cells first (take e us) ++ data_cells k (ms ++ drop (e + n) us)) (ap (λ (k : ℕ). first + k) pre_n ∙ sym x.is_at)
      ∙ ap (λ (cs : List Cell). data_cells first (take e us) ++ cs)
      (data-++ y ms (drop (e + n) us) ∙ ap (λ (k : ℕ). data_cells y ms ++ data_cells (y + k) (drop (e + n) us)) q))
      ∙ simp append_assoc in
      let parts : us ≡ take e us ++ (old ++ drop (e + n) us) =
      sym (take-append-drop e us) ∙ ap (λ (z : List ℕ). take e us ++ z) (sym (take-append-drop n (drop e us)) ∙ ap (λ (z : List ℕ). old ++ z) (drop-drop n e us)) in
      rewrote ws A o s _ (st.before ++ (head (length us) ++ data_cells first (take e us))) (data_cells y old) (data_cells y vs)
      (data_cells (y + n) (drop (e + n) us) ++ st.after)
      (λ z. data_hits z y vs old (sym old_n))
      (data_inside (length ws) y vs (omega (arith, st.fits_in.2, x.is_at)))
      (st.here ∙ ap (λ (zs : List ℕ). st.before ++ (cells (suc x.depth) x.at (Data x.start x.base x.type zs) ++ st.after)) parts ∙ way old old_n)
      (st.there (data_change (λ b ws. overwrite (element b i) vs ws)) ∙ way vs refl)

module _ (ws : List ℕ) (A : Arrangement) (t : Trace) (kind : ℕ) (i : ℤ) (small : length ws ≤ 2 ^ 18) (y left : ℕ) (x : Selected ws A t kind i y left) (n : ℕ) where
  rows_refused : (n ≡ 0) ⊎ (left < n) → booked A t (RowRead kind i n) ≡ refused BadLength
  rows_refused w =
      x.stands.asked (RowRead kind i n)
      ∙ ap (reply _) (door_open _ _ _ x.on ∙ door_open _ _ _ (ap not x.typed) ∙ door_shut _ _ _ (bad w))
    where
      bad : (n ≡ 0) ⊎ (left < n) → bad_run (element x.base i) n (length x.words) ≡ true
      bad (inl h) = or_left _ _ (eq-eqb n 0 h)
      bad (inr h) = or_right _ _ (lt-ltb (length x.words) (element x.base i + n) (omega (arith, x.is_left, element_inside ws A t kind i small y left x)))

  rows_granted : (n ≡ 0 → ⊥) → n ≤ left → (us : List ℕ) → length us ≡ n → ((k : ℕ) → k < n → get_or us k 0 ≡ get_or ws (y + k) 0)
      → booked A t (RowRead kind i n) ≡ granted (Words us)
  rows_granted h l us m each =
      let e = element x.base i in
      let lt = element_inside ws A t kind i small y left x in
      x.stands.asked (RowRead kind i n)
      ∙ ap (reply _) (door_open _ _ _ x.on ∙ door_open _ _ _ (ap not x.typed)
      ∙ door_open _ _ _ (or_from _ _ (ne_eqb n 0 h) (le-ltb (length x.words) (e + n) (omega (arith, x.is_left)))))
      ∙ granted_now _ _
      ∙ ap (λ (vs : List ℕ). granted (Words vs))
      (ext_get_or 0 (take n (drop e x.words)) us (simp (length-take, length-drop) (omega (arith, x.is_left)))
      (λ k hk.
      let small_k : k < n = omega (arith, hk, length-take n (drop e x.words)) in
      get_or-take n (drop e x.words) k 0 small_k ∙ get_or-drop e x.words k 0
      ∙ sym (each k small_k
      ∙ ap (λ (z : ℕ). get_or ws z 0) (omega (arith, x.is_at))
      ∙ along_get (λ z v. get_or ws z 0 ≡ v) (x.start + 1) x.words 0 (e + k) (omega (arith, x.is_left)) x.stands.shows.2)))

-- ── Over words that hold together ──────────────────────────────────────

module _ (ws : List ℕ) (h : Holds ws) (t : Trace) (kind : ℕ) (i z : ℤ) (q : z ≡ i) (y left : ℕ) (e : Ok (y, left) ≡ row_found ws t kind z) where
  abbrev x : Selected ws h.arrangement t kind i y left
  x = picked ws h t kind i z q (Ok (y, left)) e

  pub row_inside : y + left ≤ length ws
  row_inside =
      omega (arith, x.stands.fits_in.2, x.is_at, x.is_left, element_inside ws h.arrangement t kind i (few_words ws h t kind i) y left x)

  pub row_write_refused : (vs : List ℕ) → (length vs ≡ 0) ⊎ (left < length vs) → Booked ws (on t (RowWrite kind i vs)) (refused BadLength) ws
  row_write_refused vs w =
      place_owes ws h t (RowWrite kind i vs) BadLength (run_refused ws h.arrangement t kind i (few_words ws h t kind i) y left x vs w)

  pub row_write_done : (vs : List ℕ) → (length vs ≡ 0 → ⊥) → length vs ≤ left → (us : List ℕ) → us ≡ written (data_cells y vs) ws
      → Booked ws (on t (RowWrite kind i vs)) (granted Done) us
  row_write_done vs some l us is =
      granted_owes ws h t (RowWrite kind i vs) Done us (run_granted ws h.arrangement t kind i (few_words ws h t kind i) y left x vs some l)
      (subst (λ (us : List ℕ). Displays us (rearranged t (RowWrite kind i vs) h.arrangement)) (sym is)
      (run_written ws h.arrangement t kind i (few_words ws h t kind i) y left x vs h.sound h.shown l))

  pub row_read_refused : (n : ℕ) → (n ≡ 0) ⊎ (left < n) → refused BadLength ≡ (book (length ws) (held_trees ws) (on t (RowRead kind i n))).0
  row_read_refused n w =
      sym (rows_refused ws h.arrangement t kind i (few_words ws h t kind i) y left x n w) ∙ replied ws h t (RowRead kind i n)

  pub row_read_done : (n : ℕ) → (n ≡ 0 → ⊥) → n ≤ left → (us : List ℕ) → length us ≡ n → ((k : ℕ) → k < n → get_or us k 0 ≡ get_or ws (y + k) 0)
      → granted (Words us) ≡ (book (length ws) (held_trees ws) (on t (RowRead kind i n))).0
  row_read_done n some l us m each =
      sym (rows_granted ws h.arrangement t kind i (few_words ws h t kind i) y left x n some l us m each) ∙ replied ws h t (RowRead kind i n)
