-- What was written is read: at the place, up the walk, and in the ledger.
use Rattle.std.proofs.Common.{◌≡◌, ℕ, zero, suc, ◌+◌, ◌-◌, ◌<◌, ◌≤◌, Bool, true, false, not, eqb, leb, List, [], ◌∷◌, ◌++◌, length, get_or, take, drop, set, ℤ, refl, ap, ◌∙◌, arith, length-append, length-drop, length-set, length-take, get_or-set_same}
use Rattle.std.proofs.lemmas.List.{drop_all, drop-append-le, set-set, take_all, take-append-le}
use Rattle.std.proofs.lemmas.Bool.{le-leb}
use Rattle.booking.specs.Bookings.{Answer, Deed, Done, Read, RowRead, RowWrite, Word, Words, Write, granted, on}
use Rattle.booking.specs.Traces.{subscripts}
use Rattle.booking.specs.declared.refusal.Refusal.TheVariants.{BadLength, OutOfBounds, WrongType}
use Rattle.booking.specs.declared.trace.Trace.{Trace}
use Rattle.ledger.specs.Deeds.{done_at}
use Rattle.ledger.specs.Doors.{Outcome, bad_run, door, element, off, passed, put, turned}
use Rattle.ledger.specs.Laws.{RowWrittenIsRead, WrittenIsRead}
use Rattle.ledger.specs.Ledger.{ask, book, room, if_room, walk}
use Rattle.ledger.specs.Lists.{overwrite}
use Rattle.ledger.specs.Trees.{Node, Nothing, Row, Table, Tree, Trees, W, bare, free, tree_of}
use Rattle.ledger.proofs.Signs.{element_lt}

-- where the first passes, the second answers x over what it left, and leaves that
abbrev After : {A : Type 0} → Answer → Outcome A → (A → Outcome A) → Type 0
After x (turned r) f = Unit {0}
After x (passed n m a y) f = f y ≡ passed 0 0 x y

-- ── Up the walk, and in the ledger ─────────────────────────────────────

module _ (x : Answer) (a b : Deed) (leaf : (d j : ℕ) (y : Node (Tree d)) → After x (done_at (bare d) (W d) j a y) (done_at (bare d) (W d) j b)) where
  higher : (d j : ℕ) (i : ℤ) (is : List ℤ) (c : ℤ) (ts : List (Tree d)) (q : Bool) → off c (length ts) i ≡ q
      → (o : Outcome (Tree d)) → After x o (walk d (suc j) is b)
      → After x (door q (OutOfBounds j) (put (λ u. Table c (set ts (element c i) u)) o)) (walk (suc d) j (i ∷ is) b)
  unfolding door put
  higher d j i is c ts true h o k = tt
  higher d j i is c ts false h (turned r) k = tt
  higher d j i is c ts false h (passed n m y u) k =
      let e : ℕ = element c i in
      let us : List (Tree d) = set ts e u in
      let f : Tree d → Node (Tree d) = λ v. Table c (set us e v) in
      ap (λ (z : Bool). door z (OutOfBounds j) (put f (walk d (suc j) is b (get_or us e (bare d))))) (ap (λ (n : ℕ). off c n i) (length-set ts e u) ∙ h)
      ∙ ap (λ (v : Tree d). put f (walk d (suc j) is b v)) (get_or-set_same ts e u (bare d) (element_lt c i (length ts) h))
      ∙ ap (put f) k
      ∙ ap (λ (l : List (Tree d)). passed 0 0 x (Table c l)) (set-set ts e u u)

  walk_after : (d j : ℕ) (is : List ℤ) (T : Tree d) → After x (walk d j is a T) (walk d j is b)
  walk_after zero j is T = tt
  walk_after (suc d) j [] T = leaf d j T
  walk_after (suc d) j (i ∷ is) Nothing = tt
  walk_after (suc d) j (i ∷ is) (Row c t ws) = tt
  walk_after (suc d) j (i ∷ is) (Table c ts) =
      higher d j i is c ts (off c (length ts) i) refl (walk d (suc j) is a (get_or ts (element c i) (bare d)))
      (walk_after d (suc j) is (get_or ts (element c i) (bare d)))

  ask_after : (t : Trace) (ts : Trees) → t.name - 1 < length ts → (o : Outcome (Tree 4)) → After x o (walk 4 1 (subscripts t) b)
      → After x (put (set ts (t.name - 1)) o) (λ us. ask us (on t b))
  unfolding ask put
  ask_after t ts h (turned r) k = tt
  ask_after t ts h (passed n m y u) k =
      let e : ℕ = t.name - 1 in
      ap (λ (v : Tree 4). put (set (set ts e u) e) (walk 4 1 (subscripts t) b v)) (get_or-set_same ts e u Nothing h)
      ∙ ap (put (set (set ts e u) e)) k
      ∙ ap (passed 0 0 x) (set-set ts e u u)

  granted_0 : (count : ℕ) (us : Trees) → (if_room (leb 0 (free count us + 0)) x us us).0 ≡ granted x
  granted_0 count us = ap (λ (q : Bool). (if_room q x us us).0) (le-leb 0 (free count us + 0) (omega arith))

  read_back : (count : ℕ) (ts : Trees) (t : Trace) (o : Outcome Trees) → After x o (λ us. ask us (on t b)) → (room count ts o).0 ≡ granted Done
      → (room count (room count ts o).1 (ask (room count ts o).1 (on t b))).0 ≡ granted x
  read_back count ts t (turned r) k e = let z : ◌≡◌ {A = ℕ} 0 1 = cc in absurd (omega arith)
  read_back count ts t (passed n m y us) k e = pick (leb n (free count ts + m)) e
    where
      pick : (q : Bool) → (if_room q y us ts).0 ≡ granted Done → (room count (if_room q y us ts).1 (ask (if_room q y us ts).1 (on t b))).0 ≡ granted x
      pick true e = ap (λ (o : Outcome Trees). (room count us o).0) k ∙ granted_0 count us
      pick false e = let z : ◌≡◌ {A = ℕ} 0 1 = cc in absurd (omega arith)

  pub booked_back : (count : ℕ) (ts : Trees) → length ts ≡ 64 → (t : Trace) → (book count ts (on t a)).0 ≡ granted Done
      → (book count (book count ts (on t a)).1 (on t b)).0 ≡ granted x
  unfolding ask
  booked_back count ts n t e =
      read_back count ts t (ask ts (on t a))
      (ask_after t ts (omega (arith, t.lawful.0, t.lawful.1)) (walk 4 1 (subscripts t) a (tree_of ts t.name)) (walk_after 4 1 (subscripts t) (tree_of ts t.name))) e

-- ── One word ───────────────────────────────────────────────────────────

module _ (kind : ℕ) (i : ℤ) (w : ℕ) where
  word_leaf : (d j : ℕ) (y : Node (Tree d)) → After (Word w) (done_at (bare d) (W d) j (Write kind i w) y) (done_at (bare d) (W d) j (Read kind i))
  word_leaf d j Nothing = tt
  word_leaf d j (Table b ts) = tt
  word_leaf d j (Row b t ws) = pick (off b (length ws) i) refl (eqb t kind) refl
    where
      pick : (p : Bool) → off b (length ws) i ≡ p → (q : Bool) → eqb t kind ≡ q
          → After {A = Node (Tree d)} (Word w) (door p (OutOfBounds j) (door (not q) WrongType (passed 0 0 Done (Row b t (set ws (element b i) w))))) (done_at (bare d) (W d) j (Read kind i))
      pick true h q k = unfold door in tt
      pick false h false k = unfold door in tt
      pick false h true k = unfold door in
          ap (λ (z : Bool). door z (OutOfBounds j) (door (not (eqb t kind)) WrongType (passed 0 0 (Word (get_or (set ws (element b i) w) (element b i) 0)) (Row b t (set ws (element b i) w)))))
          (ap (λ (n : ℕ). off b n i) (length-set ws (element b i) w) ∙ h)
          ∙ ap (λ (z : Bool). door (not z) WrongType (passed 0 0 (Word (get_or (set ws (element b i) w) (element b i) 0)) (Row b t (set ws (element b i) w)))) k
          ∙ ap (λ (v : ℕ). passed 0 0 (Word v) (Row b t (set ws (element b i) w))) (get_or-set_same ws (element b i) w 0 (element_lt b i (length ws) h))

pub written_is_read : WrittenIsRead
written_is_read count ts n t kind i w e = booked_back (Word w) (Write kind i w) (Read kind i) (word_leaf kind i w) count ts n t e

-- ── A row ──────────────────────────────────────────────────────────────

pub over_length : (m : ℕ) (vs xs : List ℕ) → m + length vs ≤ length xs → length (overwrite m vs xs) ≡ length xs
over_length m vs xs h = simp (length-append, length-take, length-drop) (omega arith)

over_read : (m : ℕ) (vs xs : List ℕ) → m ≤ length xs → take (length vs) (drop m (overwrite m vs xs)) ≡ vs
over_read m vs xs h =
    let n : length (take m xs) ≡ m = simp length-take (omega arith) in
    let rest : List ℕ = vs ++ drop (m + length vs) xs in
    ap (take (length vs)) (drop-append-le m (take m xs) rest (omega arith) ∙ ap (λ (l : List ℕ). l ++ rest) (drop_all m (take m xs) (omega arith)))
    ∙ take-append-le (length vs) vs (drop (m + length vs) xs) (omega arith)
    ∙ take_all (length vs) vs (omega arith)

fits : (m n l : ℕ) → bad_run m n l ≡ false → m + n ≤ l
fits m n l h = grind arith

module _ (kind : ℕ) (i : ℤ) (vs : List ℕ) where
  row_leaf : (d j : ℕ) (y : Node (Tree d))
      → After (Words vs) (done_at (bare d) (W d) j (RowWrite kind i vs) y) (done_at (bare d) (W d) j (RowRead kind i (length vs)))
  row_leaf d j Nothing = tt
  row_leaf d j (Table b ts) = tt
  row_leaf d j (Row b t ws) = pick (off b (length ws) i) refl (eqb t kind) refl (bad_run (element b i) (length vs) (length ws)) refl
    where
      pick : (p : Bool) → off b (length ws) i ≡ p → (q : Bool) → eqb t kind ≡ q → (r : Bool) → bad_run (element b i) (length vs) (length ws) ≡ r
          → After {A = Node (Tree d)} (Words vs) (door p (OutOfBounds j) (door (not q) WrongType (door r BadLength (passed 0 0 Done (Row b t (overwrite (element b i) vs ws))))))
          (done_at (bare d) (W d) j (RowRead kind i (length vs)))
      pick true h q k r l = unfold door in tt
      pick false h false k r l = unfold door in tt
      pick false h true k true l = unfold door in tt
      pick false h true k false l = unfold door in
          let n = over_length (element b i) vs ws (fits (element b i) (length vs) (length ws) l) in
          let end : Bool → Bool → Bool → List ℕ → Outcome (Node (Tree d)) =
          λ p q r xs. door p (OutOfBounds j) (door (not q) WrongType (door r BadLength (passed 0 0 (Words xs) (Row b t (overwrite (element b i) vs ws))))) in
          let xs : List ℕ = take (length vs) (drop (element b i) (overwrite (element b i) vs ws)) in
          ap (λ (z : Bool). end z (eqb t kind) (bad_run (element b i) (length vs) (length (overwrite (element b i) vs ws))) xs) (ap (λ (m : ℕ). off b m i) n ∙ h)
          ∙ ap (λ (z : Bool). end false z (bad_run (element b i) (length vs) (length (overwrite (element b i) vs ws))) xs) k
          ∙ ap (λ (z : Bool). end false true z xs) (ap (bad_run (element b i) (length vs)) n ∙ l)
          ∙ ap (end false true false) (over_read (element b i) vs ws (omega (arith, element_lt b i (length ws) h)))

pub row_written_is_read : RowWrittenIsRead
row_written_is_read count ts n t kind i vs e =
    booked_back (Words vs) (RowWrite kind i vs) (RowRead kind i (length vs)) (row_leaf kind i vs) count ts n t e
