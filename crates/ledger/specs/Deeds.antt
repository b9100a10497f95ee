-- What a booking answers and leaves at its place.
use Rattle.std.specs.Prelude.{ℕ, ◌+◌, Bool, true, false, not, ◌||◌, length, take, drop, replicate, ℤ, Some, None, ◌==◌, slice_index, slice_set}
use Rattle.booking.specs.Bookings.{Deed, Delete, Done, Exchange, Free, Insert, Read, Rebase, RowRead, RowWrite, Span, Spans, Take, Word, Words, Write}
use Rattle.booking.specs.declared.refusal.Refusal.TheVariants.{BadField, BadLength, OutOfBounds, Unlabelled, WrongSort, WrongType}
use Rattle.ledger.specs.Doors.{Outcome, bad_base, bad_fields, bad_run, door, element, off, passed, turned}
use Rattle.ledger.specs.Lists.{delete_at, insert_at, overwrite, swap}
use Rattle.ledger.specs.Trees.{Node, Nothing, Row, Table, weigh}

module _ {A : Type 0} (empty : A) (below : A → ℕ) where
  -- the tree as taken
  abbrev pub taken : ℕ → ℤ → Bool → ℕ → Node A
  taken n b true t = Table b (replicate n empty)
  taken n b false t = Row b t (replicate n 0)

  -- `step` is that of the place's own block
  abbrev pub done_at : (step : ℕ) → Deed → Node A → Outcome (Node A)
  done_at j (Take n b c t) x =
      door (bad_fields b c t j) BadField (door (n == 0) BadLength (passed (n + 1) (weigh below x) Done (taken n b c t)))
  done_at j Free Nothing = turned (Unlabelled j)
  done_at j Free (Row b t ws) = passed 0 0 Done Nothing
  done_at j Free (Table b ts) = passed 0 0 Done Nothing
  done_at j (Read kind i) Nothing = turned (Unlabelled j)
  done_at j (Read kind i) (Row b t ws) =
      door (off b (length ws) i) (OutOfBounds j)
      (door (not (t == kind)) WrongType (passed 0 0 (Word (slice_index ws (element b i))) (Row b t ws)))
  done_at j (Read kind i) (Table b ts) = turned (WrongSort j)
  done_at j (Write kind i w) Nothing = turned (Unlabelled j)
  done_at j (Write kind i w) (Row b t ws) =
      door (off b (length ws) i) (OutOfBounds j)
      (door (not (t == kind)) WrongType (passed 0 0 Done (Row b t (slice_set ws (element b i) w))))
  done_at j (Write kind i w) (Table b ts) = turned (WrongSort j)
  done_at j (RowRead kind i n) Nothing = turned (Unlabelled j)
  done_at j (RowRead kind i n) (Row b t ws) =
      door (off b (length ws) i) (OutOfBounds j)
      (door (not (t == kind)) WrongType
      (door (bad_run (element b i) n (length ws)) BadLength
      (passed 0 0 (Words (take n (drop (element b i) ws))) (Row b t ws))))
  done_at j (RowRead kind i n) (Table b ts) = turned (WrongSort j)
  done_at j (RowWrite kind i vs) Nothing = turned (Unlabelled j)
  done_at j (RowWrite kind i vs) (Row b t ws) =
      door (off b (length ws) i) (OutOfBounds j)
      (door (not (t == kind)) WrongType
      (door (bad_run (element b i) (length vs) (length ws)) BadLength
      (passed 0 0 Done (Row b t (overwrite (element b i) vs ws)))))
  done_at j (RowWrite kind i vs) (Table b ts) = turned (WrongSort j)
  done_at j Span Nothing = passed 0 0 (Spans None) Nothing
  done_at j Span (Row b t ws) = passed 0 0 (Spans (Some (b, length ws, false, t))) (Row b t ws)
  done_at j Span (Table b ts) = passed 0 0 (Spans (Some (b, length ts, true, 0))) (Table b ts)
  done_at j (Insert i n) Nothing = turned (Unlabelled j)
  done_at j (Insert i n) (Row b t ws) =
      door (off b (length ws + 1) i) (OutOfBounds j)
      (door (n == 0) BadLength (passed n 0 Done (Row b t (insert_at (element b i) n 0 ws))))
  done_at j (Insert i n) (Table b ts) =
      door (off b (length ts + 1) i) (OutOfBounds j)
      (door (n == 0) BadLength (passed n 0 Done (Table b (insert_at (element b i) n empty ts))))
  done_at j (Delete i n) Nothing = turned (Unlabelled j)
  done_at j (Delete i n) (Row b t ws) =
      door (off b (length ws) i) (OutOfBounds j)
      (door (bad_run (element b i) n (length ws) || n == length ws) BadLength
      (passed 0 0 Done (Row b t (delete_at (element b i) n ws))))
  done_at j (Delete i n) (Table b ts) =
      door (off b (length ts) i) (OutOfBounds j)
      (door (bad_run (element b i) n (length ts) || n == length ts) BadLength
      (passed 0 0 Done (Table b (delete_at (element b i) n ts))))
  done_at j (Rebase c) Nothing = turned (Unlabelled j)
  done_at j (Rebase c) (Row b t ws) = door (bad_base c) BadField (passed 0 0 Done (Row c t ws))
  done_at j (Rebase c) (Table b ts) = door (bad_base c) BadField (passed 0 0 Done (Table c ts))
  done_at j (Exchange h i) Nothing = turned (Unlabelled j)
  done_at j (Exchange h i) (Row b t ws) = turned (WrongSort j)
  done_at j (Exchange h i) (Table b ts) =
      door (off b (length ts) h || off b (length ts) i) (OutOfBounds j)
      (passed 0 0 Done (Table b (swap (element b h) (element b i) empty ts)))
