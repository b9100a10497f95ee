-- Where a row of elements begins, and what refusing it owes.
use Rattle.std.proofs.Common.{◌≡◌, ℕ, ◌+◌, ◌<◌, ◌≤◌, Bool, true, false, cond, ◌||◌, min, eqb, ltb, ◌⊎◌, List, [], ◌∷◌, ◌++◌, length, get_or, set, take, drop, add-zero, append_assoc, take-append-drop, ℤ, Ok, Err, Result, refl, ap, ◌∙◌, sym, subst, inl, inr, arith}
use Rattle.std.proofs.lemmas.Bool.Decides.{nat_tests}
use Rattle.std.proofs.lemmas.List.{drop-drop, drop-set-lt, length-append, length-drop, length-set, length-take, places, take_more_set}
use lib.Seq.{take-length}
use Rattle.booking.specs.Bookings.{RowRead, RowWrite, on, refused}
use Rattle.booking.specs.declared.refusal.Refusal.{Refusal}
use Rattle.booking.specs.declared.refusal.Refusal.TheVariants.{BadLength}
use Rattle.booking.specs.declared.trace.Trace.{Trace}
use Rattle.ledger.specs.Ledger.{book}
use Rattle.layout.specs.Booked.{Booked}
use Rattle.layout.specs.Elements.{row_found}
use Rattle.layout.specs.Held.{held_trees}
use Rattle.layout.specs.Holds.{Holds}
use Rattle.layout.specs.Walks.{and_then}
use Rattle.layout.specs.Words.{written}
use Rattle.layout.proofs.Rows.{row_reads, row_refused, row_writes}
use Rattle.layout.proofs.Runs.{data_cells, row_read_refused, row_write_refused}
use Rattle.store.specs.Edits.{laid, over, overlaid, overlaid_from}
use Rattle.elements.specs.Rows.{run_found}

-- it begins at an element that has as many from it on
pub record Begun (ws : List ℕ) (t : Trace) (kind : ℕ) (z : ℤ) (n y : ℕ) : Type 0 where
  pub left : ℕ
  pub found : Ok (y, left) ≡ row_found ws t kind z
  pub some : n ≡ 0 → ⊥
  pub fits : n ≤ left

-- refused, there is no such element, or the length is bad
pub data Off (ws : List ℕ) (t : Trace) (kind : ℕ) (z : ℤ) (n : ℕ) (r : Refusal) : Type 0 where
  no_row : Err r ≡ row_found ws t kind z → Off ws t kind z n r
  no_run : (y left : ℕ) → Ok (y, left) ≡ row_found ws t kind z → (n ≡ 0) ⊎ (left < n) → r ≡ BadLength → Off ws t kind z n r

module _ (ws : List ℕ) (t : Trace) (kind : ℕ) (z : ℤ) (n : ℕ) where
  abbrev Seen : Result ℕ Refusal → Type 0
  Seen (Ok y) = Begun ws t kind z n y
  Seen (Err r) = Off ws t kind z n r

  tested : (y left : ℕ) → Ok (y, left) ≡ row_found ws t kind z → (a b : Bool) → eqb n 0 ≡ a → ltb left n ≡ b → Seen (cond (a || b) (Err BadLength) (Ok y))
  tested y left f true b p q = no_run y left f (inl (grind (arith, nat_tests))) refl
  tested y left f false true p q = no_run y left f (inr (grind (arith, nat_tests))) refl
  tested y left f false false p q =
      record { left = left; found = f; some = λ e. grind (arith, nat_tests); fits = grind (arith, nat_tests) }

  seen : (x : Result ℕ Refusal) → x ≡ run_found ws t kind z n → Seen x
  unfolding run_found
  seen x e = subst Seen (sym e) (pick (row_found ws t kind z) refl)
    where
      pick : (o : Result (ℕ × ℕ) Refusal) → o ≡ row_found ws t kind z → Seen (and_then o (λ x. cond (eqb n 0 || ltb x.1 n) (Err BadLength) (Ok x.0)))
      pick (Err r) f = no_row f
      pick (Ok (y, left)) f = tested y left f (eqb n 0) (ltb left n) refl refl

  pub begun : (y : ℕ) → Ok y ≡ run_found ws t kind z n → Begun ws t kind z n y
  begun y e = seen (Ok y) e

  pub off : (r : Refusal) → Err r ≡ run_found ws t kind z n → Off ws t kind z n r
  off r e = seen (Err r) e

-- a row laid over the words is each of its words written
laid_written : (a : ℕ) (vs ws : List ℕ) → a + length vs ≤ length ws → laid vs a ws ≡ written (data_cells a vs) ws
laid_written a [] ws h = ap (λ k. take a ws ++ drop k ws) (add-zero a) ∙ take-append-drop a ws
laid_written a (v ∷ vs) ws h =
    let next : a + length (v ∷ vs) ≡ a + 1 + length vs = omega arith in
    let front : take (a + 1) (set ws a v) ≡ take a ws ++ v ∷ [] = take_more_set ws a v (omega arith) in
    let behind : drop (a + 1 + length vs) (set ws a v) ≡ drop (a + 1 + length vs) ws = drop-set-lt (a + 1 + length vs) ws a v (omega arith) in
    ap (λ k. take a ws ++ (v ∷ (vs ++ drop k ws))) next
    ∙ sym (append_assoc (take a ws) (v ∷ []) (vs ++ drop (a + 1 + length vs) ws))
    ∙ ap (λ xs. xs ++ (vs ++ drop (a + 1 + length vs) ws)) (sym front)
    ∙ ap (λ ys. take (a + 1) (set ws a v) ++ (vs ++ ys)) (sym behind)
    ∙ laid_written (a + 1) vs (set ws a v) (omega (arith, length-set ws a v))

-- a row that lies within the words is written over them as far as both go, which is all of it
pub overlaid_written : (a : ℕ) (vs ws : List ℕ) → a + length vs ≤ length ws → overlaid_from vs a ws ≡ written (data_cells a vs) ws
unfolding over
overlaid_written a vs ws h =
    let all : min (length vs) (length (drop a ws)) ≡ length vs = omega (arith, length-drop a ws) in
    ap (λ n. take a ws ++ (take n vs ++ drop n (drop a ws))) all
    ∙ ap (λ xs. take a ws ++ (xs ++ drop (length vs) (drop a ws))) (take-length vs)
    ∙ ap (λ xs. take a ws ++ (vs ++ xs)) (drop-drop (length vs) a ws)
    ∙ laid_written a vs ws h

pub overlaid_length : (a : ℕ) (vs ws : List ℕ) → length (overlaid_from vs a ws) ≡ length ws
unfolding over
overlaid_length a vs ws = simp (length-append, length-take, length-drop) (omega arith)

-- a row that lies within the words is read as they are
pub overlaid_word : (a : ℕ) (ws xs us : List ℕ) → us ≡ overlaid (drop a ws) xs → a + length xs ≤ length ws
    → (k : ℕ) → k < length xs → get_or us k 0 ≡ get_or ws (a + k) 0
unfolding over
overlaid_word a ws xs us e h k l = ap (λ zs. get_or zs k 0) e ∙ grind (arith, places)

-- Over words that hold together, at a subscript as the code has it.
module _ (ws : List ℕ) (h : Holds ws) (t : Trace) (kind : ℕ) (i z : ℤ) (q : z ≡ i) where
  pub read_off : (n : ℕ) (r : Refusal) → Err r ≡ run_found ws t kind z n → refused r ≡ (book (length ws) (held_trees ws) (on t (RowRead kind i n))).0
  read_off n r e = owed (off ws t kind z n r e)
    where
      owed : Off ws t kind z n r → refused r ≡ (book (length ws) (held_trees ws) (on t (RowRead kind i n))).0
      owed (no_row f) = (row_refused ws h t kind i z q r f _ row_reads).reply
      owed (no_run y left f w p) = ap refused p ∙ row_read_refused ws h t kind i z q y left f n w

  pub write_off : (vs : List ℕ) (n : ℕ) → length vs ≡ n → (r : Refusal) → Err r ≡ run_found ws t kind z n → Booked ws (on t (RowWrite kind i vs)) (refused r) ws
  write_off vs n m r e = owed (off ws t kind z n r e)
    where
      owed : Off ws t kind z n r → Booked ws (on t (RowWrite kind i vs)) (refused r) ws
      owed (no_row f) = row_refused ws h t kind i z q r f _ row_writes
      owed (no_run y left f w p) =
          subst (λ r. Booked ws (on t (RowWrite kind i vs)) (refused r) ws) (sym p)
          (row_write_refused ws h t kind i z q y left f vs (subst (λ k. (k ≡ 0) ⊎ (left < k)) (sym m) w))
