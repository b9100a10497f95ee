-- Placement never shows in the trees; and the inactive total is the free words.
use Rattle.std.proofs.Common.{◌≡◌, ℕ, zero, suc, ◌+◌, ◌-◌, Bool, true, false, leb, List, [], ◌∷◌, ◌++◌, map, get_or, take, drop, set, replicate, ℤ, sym, refl, ap, ◌∙◌, subst}
use mathlib.Core.List.{map-map, map-append}
use lib.ListN.{get_or-map}
use lib.Seq.{map-set}
use Rattle.booking.specs.Bookings.{Answer, Booking, Deed, Delete, Exchange, Free, Insert, Read, Rebase, RowRead, RowWrite, Span, Take, Write}
use Rattle.booking.specs.Traces.{subscripts}
use Rattle.booking.specs.declared.trace.Trace.{Trace}
use Rattle.layout.specs.Arrangement.{Arrangement, Codes, Data, Placed, Spot, Vacant, bared, tree, trees, vacant}
use Rattle.layout.specs.Gaps.{GapFound, combined, first_fit_of, gap_at, no_gap}
use Rattle.layout.specs.Placement.{Found, closed_up, find, found_or, move}
use Rattle.layout.specs.Places.{seen}
use Rattle.layout.specs.Rearranged.{data_change, exchanged, freed, grown, if_granted, new_spot, raised, rearranged, rebased, shrunk, start_of, stored}
use Rattle.ledger.specs.Deeds.{taken}
use Rattle.ledger.specs.Doors.{Outcome, element, passed, turned}
use Rattle.ledger.specs.Ledger.{ask, book, room, if_room}
use Rattle.ledger.specs.Lists.{delete_at, insert_at, overwrite, swap}
use Rattle.ledger.specs.Trees.{Node, Nothing, Table, Tree, Trees, W, bare, free, tree_of}
use Rattle.layout.proofs.Leaves.{Ends, edit, edit_again, edit_same, effect, kept, map_cong, put_ends, set_again, set_same, tree_move, tree_vacant, trees_at, walk_ends}

-- ── Each rule of placement leaves the trees, or changes them as the ledger does ──

module _ {X Y : Type 0} (f : X → Y) where
  map_take : (n : ℕ) (xs : List X) → map f (take n xs) ≡ take n (map f xs)
  map_take zero xs = refl
  map_take (suc n) [] = refl
  map_take (suc n) (x ∷ xs) = ap (λ (ys : List Y). f x ∷ ys) (map_take n xs)

  map_drop : (n : ℕ) (xs : List X) → map f (drop n xs) ≡ drop n (map f xs)
  map_drop zero xs = refl
  map_drop (suc n) [] = refl
  map_drop (suc n) (x ∷ xs) = map_drop n xs

  map_replicate : (n : ℕ) (x : X) (y : Y) → f x ≡ y → map f (replicate n x) ≡ replicate n y
  map_replicate zero x y e = refl
  map_replicate (suc n) x y e = ap (λ (z : Y). z ∷ map f (replicate n x)) e ∙ ap (λ (ys : List Y). y ∷ ys) (map_replicate n x y e)

  map_insert : (m n : ℕ) (x : X) (y : Y) → f x ≡ y → (xs : List X) → map f (insert_at m n x xs) ≡ insert_at m n y (map f xs)
  map_insert m n x y e xs =
      map-append f (take m xs) (replicate n x ++ drop m xs)
      ∙ ap (λ (ys : List Y). ys ++ map f (replicate n x ++ drop m xs)) (map_take m xs)
      ∙ ap (λ (ys : List Y). take m (map f xs) ++ ys)
      (map-append f (replicate n x) (drop m xs)
      ∙ ap (λ (ys : List Y). ys ++ map f (drop m xs)) (map_replicate n x y e)
      ∙ ap (λ (ys : List Y). replicate n y ++ ys) (map_drop m xs))

  map_delete : (m n : ℕ) (xs : List X) → map f (delete_at m n xs) ≡ delete_at m n (map f xs)
  map_delete m n xs =
      map-append f (take m xs) (drop (m + n) xs)
      ∙ ap (λ (ys : List Y). ys ++ map f (drop (m + n) xs)) (map_take m xs)
      ∙ ap (λ (ys : List Y). take m (map f xs) ++ ys) (map_drop (m + n) xs)

  getD_under : (xs : List X) (i : ℕ) (x : X) (y : Y) → f x ≡ y → f (get_or xs i x) ≡ get_or (map f xs) i y
  getD_under xs i x y e = sym (get_or-map f xs i x) ∙ ap (λ (v : Y). get_or (map f xs) i v) e

  map_swap : (m n : ℕ) (x : X) (y : Y) → f x ≡ y → (xs : List X) → map f (swap m n x xs) ≡ swap m n y (map f xs)
  map_swap m n x y e xs =
      map-set f (set xs m (get_or xs n x)) n (get_or xs m x)
      ∙ ap (λ (ys : List Y). set ys n (f (get_or xs m x)))
      (map-set f xs m (get_or xs n x) ∙ ap (λ (z : Y). set (map f xs) m z) (getD_under xs n x y e))
      ∙ ap (λ (z : Y). set (set (map f xs) m (get_or (map f xs) n y)) n z) (getD_under xs m x y e)

pub moved_trees : (to : ℕ → ℕ) (ps : List (Placed 4)) → map (tree 4) (map (move to 4) ps) ≡ map (tree 4) ps
moved_trees to ps = map-map (tree 4) (move to 4) ps ∙ map_cong _ _ (tree_move to 4) ps

pub tidy_leaves_trees : (A : Arrangement) → trees (closed_up A) ≡ trees A
tidy_leaves_trees A = moved_trees _ A.names

found_trees : (A B : Arrangement) (fit : GapFound) (other : Found) → trees B ≡ trees A → trees other.arrangement ≡ trees A
    → trees (found_or B fit other).arrangement ≡ trees A
found_trees A B no_gap other e f = f
found_trees A B (gap_at x gs) other e f = e

pub find_trees : (n : ℕ) (A : Arrangement) → trees (find n A).arrangement ≡ trees A
find_trees n A =
    found_trees A A (first_fit_of n A.gaps) _ refl
    (found_trees A A (first_fit_of n (combined A.gaps)) _ refl
    (found_trees A (closed_up A) (first_fit_of n (closed_up A).gaps) _ (tidy_leaves_trees A) refl))

abbrev changed_by : Deed → Trace → Trees → Trees
changed_by a t ts = set ts (t.name - 1) (edit (effect a) 4 (subscripts t) (tree_of ts t.name))

unchanged : (t : Trace) (ts : Trees) → set ts (t.name - 1) (edit (λ d x. x) 4 (subscripts t) (tree_of ts t.name)) ≡ ts
unchanged t ts = set_same (edit (λ d x. x) 4 (subscripts t)) (edit_same 4 (subscripts t)) Nothing ts (t.name - 1)

new_is : (n : ℕ) (b : ℤ) (c : Bool) (ty F d : ℕ) (p : Spot (Placed d))
    → bared (tree d) (new_spot n b c ty F d p) ≡ taken (bare d) (W d) n b c ty
new_is n b true ty F d p = ap (λ (ts : List (Tree d)). Table b ts) (map_replicate (tree d) n (vacant d) (bare d) (tree_vacant d))
new_is n b false ty F d p = refl

write_is : (i : ℤ) (w kind d : ℕ) (p : Spot (Placed d)) → bared (tree d) (data_change (λ b ws. set ws (element b i) w) d p) ≡ effect (Write kind i w) d (bared (tree d) p)
write_is i w kind d Vacant = refl
write_is i w kind d (Data s b t ws) = refl
write_is i w kind d (Codes s b ps) = refl

row_is : (i : ℤ) (vs : List ℕ) (kind d : ℕ) (p : Spot (Placed d)) → bared (tree d) (data_change (λ b ws. overwrite (element b i) vs ws) d p) ≡ effect (RowWrite kind i vs) d (bared (tree d) p)
row_is i vs kind d Vacant = refl
row_is i vs kind d (Data s b t ws) = refl
row_is i vs kind d (Codes s b ps) = refl

grown_is : (i : ℤ) (n d : ℕ) (p : Spot (Placed d)) → bared (tree d) (grown i n d p) ≡ effect (Insert i n) d (bared (tree d) p)
grown_is i n d Vacant = refl
grown_is i n d (Data s b t ws) = refl
grown_is i n d (Codes s b ps) = ap (λ (ts : List (Tree d)). Table b ts) (map_insert (tree d) (element b i) n (vacant d) (bare d) (tree_vacant d) ps)

shrunk_is : (i : ℤ) (n d : ℕ) (p : Spot (Placed d)) → bared (tree d) (shrunk i n d p) ≡ effect (Delete i n) d (bared (tree d) p)
shrunk_is i n d Vacant = refl
shrunk_is i n d (Data s b t ws) = refl
shrunk_is i n d (Codes s b ps) = ap (λ (ts : List (Tree d)). Table b ts) (map_delete (tree d) (element b i) n ps)

rebased_is : (c : ℤ) (d : ℕ) (p : Spot (Placed d)) → bared (tree d) (rebased c d p) ≡ effect (Rebase c) d (bared (tree d) p)
rebased_is c d Vacant = refl
rebased_is c d (Data s b t ws) = refl
rebased_is c d (Codes s b ps) = refl

exchanged_is : (h i : ℤ) (d : ℕ) (p : Spot (Placed d)) → bared (tree d) (exchanged h i d p) ≡ effect (Exchange h i) d (bared (tree d) p)
exchanged_is h i d Vacant = refl
exchanged_is h i d (Data s b t ws) = refl
exchanged_is h i d (Codes s b ps) = ap (λ (ts : List (Tree d)). Table b ts) (map_swap (tree d) (element b h) (element b i) (vacant d) (bare d) (tree_vacant d) ps)

pub rearranged_trees : (t : Trace) (a : Deed) (A : Arrangement) → trees (rearranged t a A) ≡ changed_by a t (trees A)
rearranged_trees t (Take n b c ty) A =
    let B = find (n + 1) (freed t A) in
    let vac : (d : ℕ) → Node (Tree d) → Node (Tree d) = λ d x. Nothing in
    trees_at (new_spot n b c ty B.at) (effect (Take n b c ty)) (new_is n b c ty B.at) t B.arrangement
    ∙ ap (changed_by (Take n b c ty) t) (find_trees (n + 1) (freed t A) ∙ trees_at (λ d p. Vacant) vac (λ d p. refl) t A)
    ∙ set_again (edit (effect (Take n b c ty)) 4 (subscripts t)) (edit vac 4 (subscripts t))
    (edit_again (effect (Take n b c ty)) vac (λ d x. refl) 4 (subscripts t)) Nothing (trees A) (t.name - 1)
rearranged_trees t Free A = trees_at (λ d p. Vacant) (effect Free) (λ d p. refl) t A
rearranged_trees t (Read kind i) A = sym (unchanged t (trees A))
rearranged_trees t (Write kind i w) A = trees_at _ (effect (Write kind i w)) (write_is i w kind) t A
rearranged_trees t (RowRead kind i n) A = sym (unchanged t (trees A))
rearranged_trees t (RowWrite kind i vs) A = trees_at _ (effect (RowWrite kind i vs)) (row_is i vs kind) t A
rearranged_trees t Span A = sym (unchanged t (trees A))
rearranged_trees t (Insert i n) A =
    trees_at (grown i n) (effect (Insert i n)) (grown_is i n) t (raised (seen 0 start_of t (closed_up A)) n (closed_up A))
    ∙ ap (changed_by (Insert i n) t) (moved_trees _ (closed_up A).names ∙ tidy_leaves_trees A)
rearranged_trees t (Delete i n) A = trees_at (shrunk i n) (effect (Delete i n)) (shrunk_is i n) t A
rearranged_trees t (Rebase c) A = trees_at (rebased c) (effect (Rebase c)) (rebased_is c) t A
rearranged_trees t (Exchange h i) A = trees_at (exchanged h i) (effect (Exchange h i)) (exchanged_is h i) t A

-- ── The arrangement's trees follow the ledger ──────────────────────────

settled : (p : Bool) (a : Answer) (B A : Arrangement) (ts : Trees) → ts ≡ trees B
    → trees (if_granted (if_room p a ts (trees A)).0 B A) ≡ (if_room p a ts (trees A)).1
settled true a B A ts e = sym e
settled false a B A ts e = refl

roomed : (A B : Arrangement) (o : Outcome Trees) → Ends o (trees B)
    → trees (if_granted (room A.count (trees A) o).0 B A) ≡ (room A.count (trees A) o).1
roomed A B (turned r) e = refl
roomed A B (passed n m a ts) (kept e) = settled (leb n (free A.count (trees A) + m)) a B A ts e

ask_ends : (A : Arrangement) (b : Booking) → Ends (ask (trees A) b) (trees (rearranged b.trace b.deed A))
unfolding ask
ask_ends A b =
    subst (λ (us : Trees). Ends (ask (trees A) b) us) (sym (rearranged_trees b.trace b.deed A))
    (put_ends (set (trees A) (b.trace.name - 1)) (walk_ends 4 1 (subscripts b.trace) b.deed (tree_of (trees A) b.trace.name)))

pub refines : (A : Arrangement) (b : Booking) → trees (stored A b).1 ≡ (book A.count (trees A) b).1
refines A b = roomed A (rearranged b.trace b.deed A) (ask (trees A) b) (ask_ends A b)
