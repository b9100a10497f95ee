-- What a change at a trace leaves of the trees, as the ledger has it.
use Rattle.std.proofs.Common.{◌≡◌, ℕ, zero, suc, ◌-◌, Bool, true, false, List, [], ◌∷◌, map, get_or, set, ℤ, sym, refl, ap, ◌∙◌}
use mathlib.Core.List.{map-map}
use lib.ListN.{get_or-map}
use lib.Seq.{map-set}
use Rattle.booking.specs.Bookings.{Answer, Deed, Delete, Exchange, Free, Insert, Read, Rebase, RowRead, RowWrite, Span, Take, Write}
use Rattle.booking.specs.Traces.{subscripts}
use Rattle.booking.specs.declared.refusal.Refusal.{Refusal}
use Rattle.booking.specs.declared.trace.Trace.{Trace}
use Rattle.layout.specs.Arrangement.{Arrangement, Codes, Data, Placed, Spot, Vacant, bared, tree, trees, vacant}
use Rattle.layout.specs.Placement.{move}
use Rattle.layout.specs.Places.{at_trace, change}
use Rattle.ledger.specs.Deeds.{done_at, taken}
use Rattle.ledger.specs.Doors.{Outcome, door, element, passed, put, turned}
use Rattle.ledger.specs.Ledger.{walk}
use Rattle.ledger.specs.Lists.{delete_at, insert_at, overwrite, swap}
use Rattle.ledger.specs.Trees.{Node, Nothing, Row, Table, Tree, W, bare, tree_of}

module _ {X Y : Type 0} where
  pub map_cong : (f g : X → Y) → ((x : X) → f x ≡ g x) → (xs : List X) → map f xs ≡ map g xs
  map_cong f g h [] = refl
  map_cong f g h (x ∷ xs) = ap (λ (y : Y). y ∷ map f xs) (h x) ∙ ap (λ (ys : List Y). g x ∷ ys) (map_cong f g h xs)

module _ {X : Type 0} where
  -- a change at one place, and then one that forgets it
  pub set_again : (g h : X → X) → ((x : X) → g (h x) ≡ g x) → (v : X) (xs : List X) (i : ℕ)
      → set (set xs i (h (get_or xs i v))) i (g (get_or (set xs i (h (get_or xs i v))) i v)) ≡ set xs i (g (get_or xs i v))
  set_again g h e v [] i = refl
  set_again g h e v (x ∷ xs) zero = ap (λ (y : X). y ∷ xs) (e x)
  set_again g h e v (x ∷ xs) (suc i) = ap (λ (ys : List X). x ∷ ys) (set_again g h e v xs i)

  pub set_same : (g : X → X) → ((x : X) → g x ≡ x) → (v : X) (xs : List X) (i : ℕ) → set xs i (g (get_or xs i v)) ≡ xs
  set_same g e v [] i = refl
  set_same g e v (x ∷ xs) zero = ap (λ (y : X). y ∷ xs) (e x)
  set_same g e v (x ∷ xs) (suc i) = ap (λ (ys : List X). x ∷ ys) (set_same g e v xs i)

-- ── A move leaves the trees ────────────────────────────────────────────

pub tree_move : (to : ℕ → ℕ) (d : ℕ) (p : Placed d) → tree d (move to d p) ≡ tree d p
tree_move to zero p = refl
tree_move to (suc d) Vacant = refl
tree_move to (suc d) (Data s b t ws) = refl
tree_move to (suc d) (Codes s b ps) =
    ap (λ (ts : List (Tree d)). Table b ts) (map-map (tree d) (move to d) ps ∙ map_cong _ _ (tree_move to d) ps)

-- ── A change at a trace, on the trees ──────────────────────────────────

abbrev edit_below : {A : Type 0} → A → (A → A) → ℤ → Node A → Node A
edit_below v f i Nothing = Nothing
edit_below v f i (Row b t ws) = Row b t ws
edit_below v f i (Table b ts) = Table b (set ts (element b i) (f (get_or ts (element b i) v)))

abbrev pub edit : ((d : ℕ) → Node (Tree d) → Node (Tree d)) → (d : ℕ) → List ℤ → Tree d → Tree d
edit g zero is t = t
edit g (suc d) [] t = g d t
edit g (suc d) (i ∷ is) t = edit_below (bare d) (edit g d is) i t

pub tree_vacant : (d : ℕ) → tree d (vacant d) ≡ bare d
tree_vacant zero = refl
tree_vacant (suc d) = refl

module _ (f : (d : ℕ) → Spot (Placed d) → Spot (Placed d)) (g : (d : ℕ) → Node (Tree d) → Node (Tree d))
    (fg : (d : ℕ) (p : Spot (Placed d)) → bared (tree d) (f d p) ≡ g d (bared (tree d) p)) where
  tree_change : (d : ℕ) (is : List ℤ) (p : Placed d) → tree d (change f d is p) ≡ edit g d is (tree d p)
  tree_change zero is p = refl
  tree_change (suc d) [] p = fg d p
  tree_change (suc d) (i ∷ is) Vacant = refl
  tree_change (suc d) (i ∷ is) (Data s b t ws) = refl
  tree_change (suc d) (i ∷ is) (Codes s b ps) =
      let e = element b i in
      ap (λ (ts : List (Tree d)). Table b ts)
      (map-set (tree d) ps e (change f d is (get_or ps e (vacant d)))
      ∙ ap (λ (x : Tree d). set (map (tree d) ps) e x)
      (tree_change d is (get_or ps e (vacant d))
      ∙ ap (edit g d is)
      (sym (get_or-map (tree d) ps e (vacant d))
      ∙ ap (λ (v : Tree d). get_or (map (tree d) ps) e v) (tree_vacant d))))

  pub trees_at : (t : Trace) (A : Arrangement)
      → trees (at_trace f t A) ≡ set (trees A) (t.name - 1) (edit g 4 (subscripts t) (tree_of (trees A) t.name))
  trees_at t A =
      map-set (tree 4) A.names (t.name - 1) _
      ∙ ap (λ (x : Tree 4). set (trees A) (t.name - 1) x)
      (tree_change 4 (subscripts t) (get_or A.names (t.name - 1) Vacant)
      ∙ ap (edit g 4 (subscripts t)) (sym (get_or-map (tree 4) A.names (t.name - 1) Vacant)))

-- a change that forgets what stood there
pub edit_again : (g h : (d : ℕ) → Node (Tree d) → Node (Tree d)) → ((d : ℕ) (x : Node (Tree d)) → g d (h d x) ≡ g d x)
    → (d : ℕ) (is : List ℤ) (t : Tree d) → edit g d is (edit h d is t) ≡ edit g d is t
edit_again g h e zero is t = refl
edit_again g h e (suc d) [] t = e d t
edit_again g h e (suc d) (i ∷ is) Nothing = refl
edit_again g h e (suc d) (i ∷ is) (Row b t ws) = refl
edit_again g h e (suc d) (i ∷ is) (Table b ts) =
    ap (λ (us : List (Tree d)). Table b us) (set_again (edit g d is) (edit h d is) (edit_again g h e d is) (bare d) ts (element b i))

pub edit_same : (d : ℕ) (is : List ℤ) (t : Tree d) → edit (λ d x. x) d is t ≡ t
edit_same zero is t = refl
edit_same (suc d) [] t = refl
edit_same (suc d) (i ∷ is) Nothing = refl
edit_same (suc d) (i ∷ is) (Row b t ws) = refl
edit_same (suc d) (i ∷ is) (Table b ts) =
    ap (λ (us : List (Tree d)). Table b us) (set_same (edit (λ d x. x) d is) (edit_same d is) (bare d) ts (element b i))

-- ── What a booking leaves at its place, the doors apart ────────────────

abbrev pub effect : Deed → (d : ℕ) → Node (Tree d) → Node (Tree d)
effect (Take n b c t) d x = taken (bare d) (W d) n b c t
effect Free d x = Nothing
effect (Read kind i) d x = x
effect (Write kind i w) d Nothing = Nothing
effect (Write kind i w) d (Row b t ws) = Row b t (set ws (element b i) w)
effect (Write kind i w) d (Table b ts) = Table b ts
effect (RowRead kind i n) d x = x
effect (RowWrite kind i vs) d Nothing = Nothing
effect (RowWrite kind i vs) d (Row b t ws) = Row b t (overwrite (element b i) vs ws)
effect (RowWrite kind i vs) d (Table b ts) = Table b ts
effect Span d x = x
effect (Insert i n) d Nothing = Nothing
effect (Insert i n) d (Row b t ws) = Row b t (insert_at (element b i) n 0 ws)
effect (Insert i n) d (Table b ts) = Table b (insert_at (element b i) n (bare d) ts)
effect (Delete i n) d Nothing = Nothing
effect (Delete i n) d (Row b t ws) = Row b t (delete_at (element b i) n ws)
effect (Delete i n) d (Table b ts) = Table b (delete_at (element b i) n ts)
effect (Rebase c) d Nothing = Nothing
effect (Rebase c) d (Row b t ws) = Row c t ws
effect (Rebase c) d (Table b ts) = Table c ts
effect (Exchange h i) d Nothing = Nothing
effect (Exchange h i) d (Row b t ws) = Row b t ws
effect (Exchange h i) d (Table b ts) = Table b (swap (element b h) (element b i) (bare d) ts)

-- where it passes, it leaves u
pub data Ends {A : Type 0} : Outcome A → A → Type 0 where
  away : {r : Refusal} {u : A} → Ends (turned r) u
  kept : {n m : ℕ} {a : Answer} {x u : A} → x ≡ u → Ends (passed n m a x) u

module _ {A : Type 0} where
  door_ends : (q : Bool) (r : Refusal) {o : Outcome A} {u : A} → Ends o u → Ends (door q r o) u
  unfolding door
  door_ends true r e = away
  door_ends false r e = e

pub put_ends : {A B : Type 0} (f : A → B) {o : Outcome A} {u : A} → Ends o u → Ends (put f o) (f u)
unfolding put
put_ends f away = away
put_ends f (kept e) = kept (ap f e)

leaf_ends : (d j : ℕ) (a : Deed) (x : Node (Tree d)) → Ends (done_at (bare d) (W d) j a x) (effect a d x)
leaf_ends d j (Take n b c t) x = door_ends _ _ (door_ends _ _ (kept refl))
leaf_ends d j Free Nothing = away
leaf_ends d j Free (Row b t ws) = kept refl
leaf_ends d j Free (Table b ts) = kept refl
leaf_ends d j (Read kind i) Nothing = away
leaf_ends d j (Read kind i) (Row b t ws) = door_ends _ _ (door_ends _ _ (kept refl))
leaf_ends d j (Read kind i) (Table b ts) = away
leaf_ends d j (Write kind i w) Nothing = away
leaf_ends d j (Write kind i w) (Row b t ws) = door_ends _ _ (door_ends _ _ (kept refl))
leaf_ends d j (Write kind i w) (Table b ts) = away
leaf_ends d j (RowRead kind i n) Nothing = away
leaf_ends d j (RowRead kind i n) (Row b t ws) = door_ends _ _ (door_ends _ _ (door_ends _ _ (kept refl)))
leaf_ends d j (RowRead kind i n) (Table b ts) = away
leaf_ends d j (RowWrite kind i vs) Nothing = away
leaf_ends d j (RowWrite kind i vs) (Row b t ws) = door_ends _ _ (door_ends _ _ (door_ends _ _ (kept refl)))
leaf_ends d j (RowWrite kind i vs) (Table b ts) = away
leaf_ends d j Span Nothing = kept refl
leaf_ends d j Span (Row b t ws) = kept refl
leaf_ends d j Span (Table b ts) = kept refl
leaf_ends d j (Insert i n) Nothing = away
leaf_ends d j (Insert i n) (Row b t ws) = door_ends _ _ (door_ends _ _ (kept refl))
leaf_ends d j (Insert i n) (Table b ts) = door_ends _ _ (door_ends _ _ (kept refl))
leaf_ends d j (Delete i n) Nothing = away
leaf_ends d j (Delete i n) (Row b t ws) = door_ends _ _ (door_ends _ _ (kept refl))
leaf_ends d j (Delete i n) (Table b ts) = door_ends _ _ (door_ends _ _ (kept refl))
leaf_ends d j (Rebase c) Nothing = away
leaf_ends d j (Rebase c) (Row b t ws) = door_ends _ _ (kept refl)
leaf_ends d j (Rebase c) (Table b ts) = door_ends _ _ (kept refl)
leaf_ends d j (Exchange h i) Nothing = away
leaf_ends d j (Exchange h i) (Row b t ws) = away
leaf_ends d j (Exchange h i) (Table b ts) = door_ends _ _ (kept refl)

pub walk_ends : (d j : ℕ) (is : List ℤ) (a : Deed) (t : Tree d) → Ends (walk d j is a t) (edit (effect a) d is t)
walk_ends zero j is a t = away
walk_ends (suc d) j [] a t = leaf_ends d j a t
walk_ends (suc d) j (i ∷ is) a Nothing = away
walk_ends (suc d) j (i ∷ is) a (Row b t ws) = away
walk_ends (suc d) j (i ∷ is) a (Table b ts) =
    door_ends _ _ (put_ends _ (walk_ends d (suc j) is a (get_or ts (element b i) (bare d))))
