-- A granted take finds room, and leaves a sound arrangement.
use Rattle.std.proofs.Common.{◌≡◌, ℕ, zero, suc, ◌+◌, ◌-◌, ◌<◌, ◌≤◌, Bool, true, false, cond, not, T, eqb, leb, List, [], ◌∷◌, ◌++◌, map, length, get_or, replicate, ℤ, sym, refl, ap, ◌∙◌, subst, arith, eqb→eq, leb→le, get_or-set_same}
use native.Mathlib.Decide.{dec_lt}
use lib.Dec.{nleb→lt}
use lib.ListN.{length-replicate, get_or-map}
use Rattle.booking.specs.Bookings.{Take}
use Rattle.booking.specs.Traces.{subscripts}
use Rattle.booking.specs.declared.trace.Trace.{Trace}
use Rattle.layout.specs.Arrangement.{Arrangement, Codes, Data, Piece, Placed, Spot, Vacant, blocks, pieces, tree, trees, vacant}
use Rattle.layout.specs.Gaps.{GapFound, a_gap, combined, first_fit_of, gap_at, join, keep, no_gap}
use Rattle.layout.specs.Placement.{Found, closed_up, find, found_or, move, moved}
use Rattle.layout.specs.Places.{change, look, seen}
use Rattle.layout.specs.Rearranged.{freed, new_spot, rearranged}
use Rattle.layout.specs.Sound.{Each, Good, GoodBase, Sound, covered, covers}
use Rattle.layout.specs.Words.{total}
use Rattle.ledger.specs.Doors.{element}
use Rattle.ledger.specs.Needs.{weight_at}
use Rattle.ledger.specs.Trees.{Tree, free, tree_of}
use Rattle.layout.proofs.Cover.{covers_yes, covers_split, covered-++, each_imp, each-++}
use Rattle.layout.proofs.Order.{Some, ordered}
use Rattle.layout.proofs.FreeWords.{total_is_free, weight}
use Rattle.layout.proofs.Leaves.{tree_vacant}
use Rattle.layout.proofs.Change.{At, AtTrace, named, name_in, at_change, at_move, at_out, at_most_1, Climbs, weaker, Decent, decent, trace_sound}
use Rattle.layout.proofs.Kept.{each_replicate, cov_none, gap_covered, gap_sized, closed_up_sound}
use Rattle.layout.proofs.GivenUp.{all_total, freed_sound}
use Rattle.layout.proofs.Doors.{Legal}

-- ── The first gap that fits ─────────────────────────────────────────────────────────────────

abbrev pub From : ℕ → List Piece → Type 0
From a gs = Each (λ g. a ≤ g.start) gs

-- gaps that do not overlap: the later ones begin past the end of the first
pub clear : (g : Piece) (gs : List Piece) → Each Some gs → From g.start gs → ((y : ℕ) → covers y g + covered y gs ≤ 1)
    → From (g.start + g.size) gs
clear g [] e c o = tt
clear g (h ∷ hs) e c o = (
  elim (dec_lt h.start (g.start + g.size)) [
    | yes l ↦ absurd (omega (
      arith,
      o h.start,
      covers_yes h.start g.start g.size c.0 l,
      covers_yes h.start h.start h.size (omega arith) (omega (arith, e.0)),
    ))
    | no l ↦ omega arith
  ],
  clear g hs e.1 c.1 (λ y. omega (arith, o y)),
)

-- no gap is large enough; or the gaps are the n words from x and those that are left
pub data Tried (n : ℕ) (gs : List Piece) : GapFound → Type 0 where
  failed : Each (λ g. g.size < n) gs → Tried n gs no_gap
  fitted : {x : ℕ} {left : List Piece} → ((y : ℕ) → covers y (record { start = x; size = n }) + covered y left ≡ covered y gs)
      → Each Some left → Climbs left → ((a : ℕ) → From a gs → From a left) → Tried n gs (gap_at x left)

gap_from : (a s n : ℕ) → a ≤ s → From a (a_gap s n)
gap_from a s zero h = tt
gap_from a s (suc n) h = (h, tt)

before : (s k : ℕ) (gs : List Piece) → From s gs → Climbs gs → Climbs (a_gap s k ++ gs)
before s zero gs f c = c
before s (suc k) gs f c = (f, c)

kept_fit : (n : ℕ) (g : Piece) (gs : List Piece) {fit : GapFound} → g.size < n → Some g → From g.start gs → Tried n gs fit
    → Tried n (g ∷ gs) (keep g fit)
kept_fit n g gs l s c (failed e) = failed (l, e)
kept_fit n g gs l s c (fitted cov e k from) =
    fitted (λ y. omega (arith, cov y)) (s, e) (from g.start c, k) (λ a f. (f.0, from a f.1))

front : (n : ℕ) (g : Piece) (gs : List Piece) → n ≤ g.size → Each Some gs → Climbs gs → From (g.start + g.size) gs
    → Tried n (g ∷ gs) (gap_at g.start (a_gap (g.start + n) (g.size - n) ++ gs))
front n g gs l e c past =
    let s = g.start + n in
    let k = g.size - n in
    fitted
    (λ y. omega (
      arith,
      covered-++ y (a_gap s k) gs,
      gap_covered y s k,
      covers_split y g.start n k,
      ap (λ (m : ℕ). covers y (record { start = g.start; size = m })) (let z : n + k ≡ g.size = omega arith in z),
    ))
    (each-++ Some (a_gap s k) gs (gap_sized s k) e)
    (before s k gs (each_imp (λ h. g.start + g.size ≤ h.start) (λ h. s ≤ h.start) (λ h m. omega arith) gs past) c)
    (λ a f. each-++ (λ h. a ≤ h.start) (a_gap s k) gs (gap_from a s k (omega (arith, f.0))) f.1)

pub first_fits : (n : ℕ) (gs : List Piece) → Each Some gs → Climbs gs → ((y : ℕ) → covered y gs ≤ 1) → Tried n gs (first_fit_of n gs)
first_fits n [] e c o = failed tt
first_fits n (g ∷ gs) e c o =
    pick (leb n g.size) (leb→le n g.size) (nleb→lt n g.size) (first_fits n gs e.1 c.1 (λ y. omega (arith, o y)))
  where
    pick : (q : Bool) → (T q → n ≤ g.size) → (T (not q) → g.size < n) → Tried n gs (first_fit_of n gs)
        → Tried n (g ∷ gs) (cond q (gap_at g.start (a_gap (g.start + n) (g.size - n) ++ gs)) (keep g (first_fit_of n gs)))
    pick true u v t = front n g gs (u tt) e.1 c.1 (clear g gs e.1 c.0 o)
    pick false u v t = kept_fit n g gs (v tt) e.0 c.0 t

-- ── Gaps combined ─────────────────────────────────────────────────────────────────

pub record SameWords (gs hs : List Piece) : Type 0 where
  pub cover : (y : ℕ) → covered y hs ≡ covered y gs
  pub sized : Each Some hs
  pub climbs : Climbs hs
  pub from : (a : ℕ) → From a gs → From a hs

join_same : (g : Piece) (gs : List Piece) → Some g → Each Some gs → From g.start gs → Climbs gs → SameWords (g ∷ gs) (join g gs)
join_same g [] s e f c = record { cover = λ y. refl; sized = (s, tt); climbs = (tt, tt); from = λ a h. h }
join_same g (h ∷ hs) s e f c = pick (eqb (g.start + g.size) h.start) (eqb→eq (g.start + g.size) h.start)
  where
    pick : (q : Bool) → (T q → g.start + g.size ≡ h.start)
        → SameWords (g ∷ h ∷ hs) (cond q (record { start = g.start; size = g.size + h.size } ∷ hs) (g ∷ h ∷ hs))
    pick true u = record {
      cover = λ y. omega (arith, covers_split y g.start g.size h.size, ap (λ (k : ℕ). covers y (record { start = k; size = h.size })) (u tt));
      sized = (omega (arith, s), e.1);
      climbs = (f.1, c.1);
      from = λ a k. (k.0, k.1.1);
    }
    pick false u = record { cover = λ y. refl; sized = (s, e); climbs = (f, c); from = λ a k. k }

pub combine_same : (gs : List Piece) → Each Some gs → Climbs gs → SameWords gs (combined gs)
combine_same [] e c = record { cover = λ y. refl; sized = tt; climbs = tt; from = λ a h. h }
combine_same (g ∷ gs) e c =
    let m = combine_same gs e.1 c.1 in
    let j = join_same g (combined gs) e.0 m.sized (m.from g.start c.0) m.climbs in
    record {
      cover = λ y. omega (arith, j.cover y, m.cover y);
      sized = j.sized;
      climbs = j.climbs;
      from = λ a f. j.from a (f.0, m.from a f.1);
    }

-- ── A place for n words ────────────────────────────────────────────────

-- the spot labels nothing
abbrev Empty : (d : ℕ) → Spot (Placed d) → Type 0
Empty d Vacant = Unit {0}
Empty d (Data s b t ws) = ⊥
Empty d (Codes s b ps) = ⊥

-- n words were found; blocks, gaps and they tile
record Room (n : ℕ) (t : Trace) (F : Found) : Type 0 where
  fine : Decent F.arrangement
  empty : AtTrace Empty t F.arrangement
  tiles : (y : ℕ) → covered y (blocks F.arrangement.names) + covers y (record { start = F.at; size = n }) + covered y F.arrangement.gaps
      ≡ covers y (record { start = 65; size = F.arrangement.count - 65 })
  sized : Each Some F.arrangement.gaps
  climbs : Climbs F.arrangement.gaps

module _ (n : ℕ) (t : Trace) (B : Arrangement) (fine : Decent B) (empty : AtTrace Empty t B) (gs : List Piece)
    (tiles : (y : ℕ) → covered y (blocks B.names) + covered y gs ≡ covers y (record { start = 65; size = B.count - 65 })) where
  found_room : {fit : GapFound} → Tried n gs fit → (other : Found) → (Each (λ g. g.size < n) gs → Room n t other) → Room n t (found_or B fit other)
  found_room (failed e) other k = k e
  found_room (fitted cover e c from) other k = record {
    fine = record { names_64 = fine.names_64; least = fine.least; most = fine.most; good = fine.good };
    empty = empty;
    tiles = λ y. omega (arith, tiles y, cover y);
    sized = e;
    climbs = c;
  }

  not_twice : (y : ℕ) → covered y gs ≤ 1
  not_twice y = omega (arith, tiles y, at_most_1 y 65 (B.count - 65))

moved_empty : (to : ℕ → ℕ) (d : ℕ) (q : Spot (Placed d)) → Empty d q → Empty d (moved to (move to d) q)
moved_empty to d Vacant e = tt
moved_empty to d (Data s b t ws) e = e
moved_empty to d (Codes s b ps) e = e

pub at_names_move : (P R : (d : ℕ) → Spot (Placed d) → Type 0) (to : ℕ → ℕ)
    → ((d : ℕ) (q : Spot (Placed d)) → P d q → R d (moved to (move to d) q)) → (t : Trace) (A B : Arrangement) → B.names ≡ map (move to 4) A.names
    → AtTrace P t A → AtTrace R t B
at_names_move P R to h t A B e a =
    subst (At R 4 (subscripts t))
    (sym (ap (λ (ps : List (Placed 4)). get_or ps (t.name - 1) Vacant) e ∙ get_or-map (move to 4) A.names (t.name - 1) Vacant))
    (at_move P R to h 4 (subscripts t) (named t A) a)

large : (s m n : ℕ) → 1 ≤ n → n ≤ m → Each (λ g. g.size < n) (a_gap s m) → ⊥
large s zero n h l e = omega arith
large s (suc m) n h l e = omega (arith, e.0)

find_room : (n : ℕ) (t : Trace) (A : Arrangement) → Sound A → AtTrace Empty t A → 1 ≤ n → n ≤ total A.gaps → Room n t (find n A)
find_room n t A o a h l =
    let gs = A.gaps in
    let c = weaker gs o.tiled.ascends in
    let m = combine_same gs o.tiled.sized c in
    let C = closed_up A in
    let k = closed_up_sound A o in
    let none : Found = record { at = 0; arrangement = A } in
    let third : Found = found_or C (first_fit_of n C.gaps) none in
    let two : (y : ℕ) → covered y (blocks A.names) + covered y (combined gs) ≡ covers y (record { start = 65; size = A.count - 65 }) =
    λ y. omega (arith, o.tiled.once y, m.cover y) in
    found_room n t A (decent A o) a gs o.tiled.once
    (first_fits n gs o.tiled.sized c (not_twice n t A (decent A o) a gs o.tiled.once))
    (found_or A (first_fit_of n (combined gs)) third)
    (λ e. found_room n t A (decent A o) a (combined gs) two
    (first_fits n (combined gs) m.sized m.climbs (not_twice n t A (decent A o) a (combined gs) two)) third
    (λ f.
    let b : AtTrace Empty t C = at_names_move Empty Empty _ (moved_empty _) t A C refl a in
    found_room n t C (decent C k) b C.gaps k.tiled.once
    (first_fits n C.gaps k.tiled.sized (weaker C.gaps k.tiled.ascends) (not_twice n t C (decent C k) b C.gaps k.tiled.once))
    none (λ g. absurd (large (A.count - total gs) (total gs) n h l g))))

-- ── The whole take ─────────────────────────────────────────────────────

-- the words that the freed array gives back
look_weight : (d : ℕ) (is : List ℤ) (p : Placed d) → total (look [] (λ e q. pieces (suc e) q) d is p) ≡ weight_at d is (tree d p)
look_weight zero is p = refl
look_weight (suc d) [] p = weight (suc d) p
look_weight (suc d) (i ∷ is) Vacant = refl
look_weight (suc d) (i ∷ is) (Data s b t ws) = refl
look_weight (suc d) (i ∷ is) (Codes s b ps) =
    let e = element b i in
    look_weight d is (get_or ps e (vacant d))
    ∙ ap (weight_at d is)
    (sym (ap (λ (x : Tree d). get_or (map (tree d) ps) e x) (sym (tree_vacant d)) ∙ get_or-map (tree d) ps e (vacant d)))

freed_total : (t : Trace) (A : Arrangement) → Sound A
    → total (freed t A).gaps ≡ free A.count (trees A) + weight_at 4 (subscripts t) (tree_of (trees A) t.name)
freed_total t A o =
    let there = seen [] (λ d q. pieces (suc d) q) t A in
    let w : total there ≡ weight_at 4 (subscripts t) (tree_of (trees A) t.name) =
    look_weight 4 (subscripts t) (named t A)
    ∙ ap (weight_at 4 (subscripts t)) (sym (get_or-map (tree 4) A.names (t.name - 1) Vacant)) in
    omega (arith, all_total there A.gaps, w, total_is_free A (ordered A o.least o.tiled))

zeros : (n : ℕ) → length (replicate {A = ℕ} n 0) ≡ n
zeros n = length-replicate n 0

pub vacant_good : (d : ℕ) → Good d (vacant d)
vacant_good zero = tt
vacant_good (suc d) = tt

new_good : (n : ℕ) (b : ℤ) (c : Bool) (ty s d : ℕ) (q : Spot (Placed d)) → 1 ≤ n → GoodBase b → ty ≤ 2 → Good (suc d) (new_spot n b c ty s d q)
new_good n b true ty s d q h g l = (omega (arith, length-replicate n (vacant d)), g, each_replicate (Good d) n (vacant d) (vacant_good d))
new_good n b false ty s d q h g l = (omega (arith, zeros n), g, l)

pub vacant_pieces : (d : ℕ) → pieces d (vacant d) ≡ []
vacant_pieces zero = refl
vacant_pieces (suc d) = refl

new_covered : (n : ℕ) (b : ℤ) (c : Bool) (ty s y d : ℕ) (q : Spot (Placed d)) → Empty d q
    → covered y (pieces (suc d) (new_spot n b c ty s d q)) + 0 ≡ covered y (pieces (suc d) q) + covers y (record { start = s; size = n + 1 })
new_covered n b true ty s y d Vacant e =
    omega (
      arith,
      cov_none y (pieces d) n (vacant d) (vacant_pieces d),
      ap (λ (k : ℕ). covers y (record { start = s; size = k + 1 })) (length-replicate n (vacant d)),
    )
new_covered n b false ty s y d Vacant e =
    omega (arith, ap (λ (k : ℕ). covers y (record { start = s; size = k + 1 })) (zeros n))
new_covered n b c ty s y d (Data x b' t' ws) e = absurd e
new_covered n b c ty s y d (Codes x b' ps) e = absurd e

pub take_sound : (n : ℕ) (b : ℤ) (c : Bool) (ty : ℕ) (t : Trace) (A : Arrangement) → Sound A → AtTrace (Legal (Take n b c ty)) t A
    → n + 1 ≤ free A.count (trees A) + weight_at 4 (subscripts t) (tree_of (trees A) t.name)
    → Sound (rearranged t (Take n b c ty) A)
take_sound n b c ty t A o a l =
    let P = Legal (Take n b c ty) in
    let legal : (1 ≤ n) × GoodBase b × (ty ≤ 2) = at_out P ((1 ≤ n) × GoodBase b × (ty ≤ 2)) (λ d q p. p) 4 (subscripts t) (named t A) a in
    let free_A = freed t A in
    let k = freed_sound P t A o a in
    let i = t.name - 1 in
    let there : AtTrace Empty t free_A =
    subst (At Empty 4 (subscripts t))
    (sym (get_or-set_same A.names i (change (λ d q. Vacant) 4 (subscripts t) (named t A)) Vacant (name_in t (length A.names) o.names_64)))
    (at_change P Empty (λ d q. Vacant) (λ d q p. tt) 4 (subscripts t) (named t A) a) in
    let F = find (n + 1) free_A in
    let r = find_room (n + 1) t free_A k there (omega arith) (omega (arith, freed_total t A o)) in
    trace_sound (new_spot n b c ty F.at) Empty t F.arrangement r.fine r.empty
    (λ d q p g. new_good n b c ty F.at d q legal.0 legal.1 legal.2)
    (λ y. 0) (λ y. covers y (record { start = F.at; size = n + 1 }))
    (λ y d q p. new_covered n b c ty F.at y d q p)
    (λ y. omega (arith, r.tiles y))
    r.sized r.climbs
