-- What each booking asks for, the doors apart.
use Rattle.std.proofs.Common.{ℕ, zero, suc, ◌-◌, Bool, true, false, List, [], ◌∷◌, get_or, set, ℤ}
use Rattle.booking.specs.Bookings.{Answer, Booking, Deed, Delete, Exchange, Free, Insert, Read, Rebase, RowRead, RowWrite, Span, Take, Write}
use Rattle.booking.specs.Traces.{subscripts}
use Rattle.booking.specs.declared.refusal.Refusal.{Refusal}
use Rattle.ledger.specs.Deeds.{done_at}
use Rattle.ledger.specs.Doors.{Outcome, door, element, passed, put, turned}
use Rattle.ledger.specs.Ledger.{ask, walk}
use Rattle.ledger.specs.Needs.{needs, released, releases, weight_at}
use Rattle.ledger.specs.Trees.{Node, Nothing, Row, Table, Tree, Trees, W, bare, tree_of}

-- where it passes, it needs n words and releases m
pub data Asks {A : Type 0} : Outcome A → ℕ → ℕ → Type 0 where
  away : {r : Refusal} {n m : ℕ} → Asks (turned r) n m
  asked : {n m : ℕ} {a : Answer} {x : A} → Asks (passed n m a x) n m

module _ {A : Type 0} where
  door_asks : (q : Bool) (r : Refusal) {o : Outcome A} {n m : ℕ} → Asks o n m → Asks (door q r o) n m
  unfolding door
  door_asks true r e = away
  door_asks false r e = e

put_asks : {A B : Type 0} (f : A → B) {o : Outcome A} {n m : ℕ} → Asks o n m → Asks (put f o) n m
unfolding put
put_asks f away = away
put_asks f asked = asked

leaf_asks : (d j : ℕ) (a : Deed) (x : Node (Tree d)) → Asks (done_at (bare d) (W d) j a x) (needs a) (released a (W (suc d) x))
leaf_asks d j (Take n b c t) x = door_asks _ _ (door_asks _ _ (asked))
leaf_asks d j Free Nothing = away
leaf_asks d j Free (Row b t ws) = asked
leaf_asks d j Free (Table b ts) = asked
leaf_asks d j (Read kind i) Nothing = away
leaf_asks d j (Read kind i) (Row b t ws) = door_asks _ _ (door_asks _ _ (asked))
leaf_asks d j (Read kind i) (Table b ts) = away
leaf_asks d j (Write kind i w) Nothing = away
leaf_asks d j (Write kind i w) (Row b t ws) = door_asks _ _ (door_asks _ _ (asked))
leaf_asks d j (Write kind i w) (Table b ts) = away
leaf_asks d j (RowRead kind i n) Nothing = away
leaf_asks d j (RowRead kind i n) (Row b t ws) = door_asks _ _ (door_asks _ _ (door_asks _ _ (asked)))
leaf_asks d j (RowRead kind i n) (Table b ts) = away
leaf_asks d j (RowWrite kind i vs) Nothing = away
leaf_asks d j (RowWrite kind i vs) (Row b t ws) = door_asks _ _ (door_asks _ _ (door_asks _ _ (asked)))
leaf_asks d j (RowWrite kind i vs) (Table b ts) = away
leaf_asks d j Span Nothing = asked
leaf_asks d j Span (Row b t ws) = asked
leaf_asks d j Span (Table b ts) = asked
leaf_asks d j (Insert i n) Nothing = away
leaf_asks d j (Insert i n) (Row b t ws) = door_asks _ _ (door_asks _ _ (asked))
leaf_asks d j (Insert i n) (Table b ts) = door_asks _ _ (door_asks _ _ (asked))
leaf_asks d j (Delete i n) Nothing = away
leaf_asks d j (Delete i n) (Row b t ws) = door_asks _ _ (door_asks _ _ (asked))
leaf_asks d j (Delete i n) (Table b ts) = door_asks _ _ (door_asks _ _ (asked))
leaf_asks d j (Rebase c) Nothing = away
leaf_asks d j (Rebase c) (Row b t ws) = door_asks _ _ (asked)
leaf_asks d j (Rebase c) (Table b ts) = door_asks _ _ (asked)
leaf_asks d j (Exchange h i) Nothing = away
leaf_asks d j (Exchange h i) (Row b t ws) = away
leaf_asks d j (Exchange h i) (Table b ts) = door_asks _ _ (asked)

walk_asks : (d j : ℕ) (is : List ℤ) (a : Deed) (t : Tree d) → Asks (walk d j is a t) (needs a) (released a (weight_at d is t))
walk_asks zero j is a t = away
walk_asks (suc d) j [] a t = leaf_asks d j a t
walk_asks (suc d) j (i ∷ is) a Nothing = away
walk_asks (suc d) j (i ∷ is) a (Row b t ws) = away
walk_asks (suc d) j (i ∷ is) a (Table b ts) =
    door_asks _ _ (put_asks _ (walk_asks d (suc j) is a (get_or ts (element b i) (bare d))))

pub ask_asks : (ts : Trees) (b : Booking) → Asks (ask ts b) (needs b.deed) (releases ts b)
unfolding ask releases
ask_asks ts b = put_asks (set ts (b.trace.name - 1)) (walk_asks 4 1 (subscripts b.trace) b.deed (tree_of ts b.trace.name))
