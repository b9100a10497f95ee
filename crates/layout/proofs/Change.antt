-- A change at the end of a trace: what it does to the pieces, and what it leaves.
use Rattle.std.proofs.Common.{◌≡◌, ℕ, zero, suc, ◌+◌, ◌-◌, ◌^◌, ◌<◌, ◌≤◌, List, [], ◌∷◌, map, length, get_or, set, ℤ, sym, refl, ap, ◌∙◌, subst, arith, length-set, get_or-set_same}
use lib.ListN.{length-map, get_or-map}
use native.Mathlib.Decide.{dec_lt}
use Rattle.booking.specs.Traces.{subscripts}
use Rattle.booking.specs.declared.trace.Trace.{Trace}
use Rattle.layout.specs.Arrangement.{Arrangement, Codes, Data, Piece, Placed, Spot, Vacant, blocks, concat, pieces, vacant}
use Rattle.layout.specs.Placement.{move, moved}
use Rattle.layout.specs.Places.{at_trace, change, look}
use Rattle.layout.specs.Sound.{Ascends, Each, Good, Sound, covered, covers}
use Rattle.ledger.specs.Doors.{element}
use Rattle.layout.proofs.Cover.{covered-++, covers_yes, each_imp, lies, below, among, above}

abbrev pub SpotChange : Type 0
SpotChange = (d : ℕ) → Spot (Placed d) → Spot (Placed d)

-- the subscripts lead to a spot of which P holds
abbrev pub AtBelow : {A : Type 0} → A → (A → Type 0) → ℤ → Spot A → Type 0
AtBelow v Q i Vacant = ⊥
AtBelow v Q i (Data s b t ws) = ⊥
AtBelow v Q i (Codes s b ps) = (element b i < length ps) × Q (get_or ps (element b i) v)

abbrev pub At : ((d : ℕ) → Spot (Placed d) → Type 0) → (d : ℕ) → List ℤ → Placed d → Type 0
At P zero is p = ⊥
At P (suc d) [] p = P d p
At P (suc d) (i ∷ is) p = AtBelow (vacant d) (At P d is) i p

-- ── Lists ──────────────────────────────────────────────────────────────

module _ {X : Type 0} where
  pub set_covered : (y : ℕ) (f : X → List Piece) (v x : X) (xs : List X) (i : ℕ) → i < length xs
      → covered y (concat (map f (set xs i x))) + covered y (f (get_or xs i v)) ≡ covered y (concat (map f xs)) + covered y (f x)
  set_covered y f v x [] i h = absurd (omega arith)
  set_covered y f v x (z ∷ xs) zero h = omega (arith, covered-++ y (f x) (concat (map f xs)), covered-++ y (f z) (concat (map f xs)))
  set_covered y f v x (z ∷ xs) (suc i) h =
      omega (arith, covered-++ y (f z) (concat (map f (set xs i x))), covered-++ y (f z) (concat (map f xs)), set_covered y f v x xs i (omega arith))

  pub each_set : (P : X → Type 0) (x : X) → P x → (xs : List X) (i : ℕ) → Each P xs → Each P (set xs i x)
  each_set P x h [] i e = tt
  each_set P x h (z ∷ xs) zero e = (h, e.1)
  each_set P x h (z ∷ xs) (suc i) e = (e.0, each_set P x h xs i e.1)

  pub each_get : (P : X → Type 0) (v : X) (xs : List X) (i : ℕ) → i < length xs → Each P xs → P (get_or xs i v)
  each_get P v [] i h e = absurd (omega arith)
  each_get P v (z ∷ xs) zero h e = e.0
  each_get P v (z ∷ xs) (suc i) h e = each_get P v xs i (omega arith) e.1

-- ── At the end of the subscripts ───────────────────────────────────────

module _ (P R : (d : ℕ) → Spot (Placed d) → Type 0) where
  pub at_imp : ((d : ℕ) (q : Spot (Placed d)) → P d q → R d q) → (d : ℕ) (is : List ℤ) (p : Placed d) → At P d is p → At R d is p
  at_imp h zero is p a = absurd a
  at_imp h (suc d) [] p a = h d p a
  at_imp h (suc d) (i ∷ is) Vacant a = absurd a
  at_imp h (suc d) (i ∷ is) (Data s b t ws) a = absurd a
  at_imp h (suc d) (i ∷ is) (Codes s b ps) a = (a.0, at_imp h d is (get_or ps (element b i) (vacant d)) a.1)

  pub at_change : (f : SpotChange) → ((d : ℕ) (q : Spot (Placed d)) → P d q → R d (f d q)) → (d : ℕ) (is : List ℤ) (p : Placed d)
      → At P d is p → At R d is (change f d is p)
  at_change f h zero is p a = absurd a
  at_change f h (suc d) [] p a = h d p a
  at_change f h (suc d) (i ∷ is) Vacant a = absurd a
  at_change f h (suc d) (i ∷ is) (Data s b t ws) a = absurd a
  at_change f h (suc d) (i ∷ is) (Codes s b ps) a =
      let e = element b i in
      let z = change f d is (get_or ps e (vacant d)) in (
        omega (arith, a.0, length-set ps e z),
        subst (At R d is) (sym (get_or-set_same ps e z (vacant d) a.0)) (at_change f h d is (get_or ps e (vacant d)) a.1),
      )

  move_vacant : (to : ℕ → ℕ) (d : ℕ) → move to d (vacant d) ≡ vacant d
  move_vacant to zero = refl
  move_vacant to (suc d) = refl

  pub at_move : (to : ℕ → ℕ) → ((d : ℕ) (q : Spot (Placed d)) → P d q → R d (moved to (move to d) q)) → (d : ℕ) (is : List ℤ) (p : Placed d)
      → At P d is p → At R d is (move to d p)
  at_move to h zero is p a = absurd a
  at_move to h (suc d) [] p a = h d p a
  at_move to h (suc d) (i ∷ is) Vacant a = absurd a
  at_move to h (suc d) (i ∷ is) (Data s b t ws) a = absurd a
  at_move to h (suc d) (i ∷ is) (Codes s b ps) a =
      let e = element b i in
      let same : get_or (map (move to d) ps) e (vacant d) ≡ move to d (get_or ps e (vacant d)) =
      ap (λ (v : Placed d). get_or (map (move to d) ps) e v) (sym (move_vacant to d)) ∙ get_or-map (move to d) ps e (vacant d) in (
        omega (arith, a.0, length-map ps (move to d)),
        subst (At R d is) (sym same) (at_move to h d is (get_or ps e (vacant d)) a.1),
      )

-- what is looked up there is that of the spot
module _ {X : Type 0} (P : (d : ℕ) → Spot (Placed d) → Type 0) (x : X) (g : (d : ℕ) → Spot (Placed d) → X) where
  pub at_look : (d : ℕ) (is : List ℤ) (p : Placed d) → At P d is p → At (λ e q. P e q × (g e q ≡ look x g d is p)) d is p
  at_look zero is p a = absurd a
  at_look (suc d) [] p a = (a, refl)
  at_look (suc d) (i ∷ is) Vacant a = absurd a
  at_look (suc d) (i ∷ is) (Data s b t ws) a = absurd a
  at_look (suc d) (i ∷ is) (Codes s b ps) a = (a.0, at_look d is (get_or ps (element b i) (vacant d)) a.1)

-- a change that loses and wins words at its spot, does so in the whole
module _ (f : SpotChange) (P : (d : ℕ) → Spot (Placed d) → Type 0) where
  pub change_covered : (y lost won : ℕ)
      → ((d : ℕ) (q : Spot (Placed d)) → P d q → covered y (pieces (suc d) (f d q)) + lost ≡ covered y (pieces (suc d) q) + won)
      → (d : ℕ) (is : List ℤ) (p : Placed d) → At P d is p → covered y (pieces d (change f d is p)) + lost ≡ covered y (pieces d p) + won
  change_covered y lost won h zero is p a = absurd a
  change_covered y lost won h (suc d) [] p a = h d p a
  change_covered y lost won h (suc d) (i ∷ is) Vacant a = absurd a
  change_covered y lost won h (suc d) (i ∷ is) (Data s b t ws) a = absurd a
  change_covered y lost won h (suc d) (i ∷ is) (Codes s b ps) a =
      let e = element b i in
      let q = get_or ps e (vacant d) in
      let z = change f d is q in
      omega (
        arith,
        set_covered y (pieces d) (vacant d) z ps e a.0,
        change_covered y lost won h d is q a.1,
        ap (λ (n : ℕ). covers y (record { start = s; size = n + 1 })) (length-set ps e z),
      )

  pub change_good : ((d : ℕ) (q : Spot (Placed d)) → P d q → Good (suc d) q → Good (suc d) (f d q))
      → (d : ℕ) (is : List ℤ) (p : Placed d) → At P d is p → Good d p → Good d (change f d is p)
  change_good h zero is p a g = absurd a
  change_good h (suc d) [] p a g = h d p a g
  change_good h (suc d) (i ∷ is) Vacant a g = absurd a
  change_good h (suc d) (i ∷ is) (Data s b t ws) a g = absurd a
  change_good h (suc d) (i ∷ is) (Codes s b ps) a g =
      let e = element b i in
      let q = get_or ps e (vacant d) in
      let z = change f d is q in (
        omega (arith, g.0, length-set ps e z),
        g.1,
        each_set (Good d) z (change_good h d is q a.1 (each_get (Good d) (vacant d) ps e a.0 g.2)) ps e g.2,
      )

-- what follows from the spot
pub at_out : (P : (d : ℕ) → Spot (Placed d) → Type 0) (C : Type 0) → ((d : ℕ) (q : Spot (Placed d)) → P d q → C)
    → (d : ℕ) (is : List ℤ) (p : Placed d) → At P d is p → C
at_out P C h zero is p a = absurd a
at_out P C h (suc d) [] p a = h d p a
at_out P C h (suc d) (i ∷ is) Vacant a = absurd a
at_out P C h (suc d) (i ∷ is) (Data s b t ws) a = absurd a
at_out P C h (suc d) (i ∷ is) (Codes s b ps) a = at_out P C h d is (get_or ps (element b i) (vacant d)) a.1

-- ── A chain that never goes back ───────────────────────────────────────

abbrev pub Climbs : List Piece → Type 0
Climbs [] = Unit {0}
Climbs (g ∷ gs) = Each (λ h. g.start ≤ h.start) gs × Climbs gs

pub weaker : (gs : List Piece) → Ascends gs → Climbs gs
weaker [] a = tt
weaker (g ∷ gs) a = (each_imp (λ h. g.start < h.start) (λ h. g.start ≤ h.start) (λ h l. omega arith) gs a.0, weaker gs a.1)

others : (g : Piece) (gs : List Piece) → Each (λ h. 1 ≤ h.size) gs → covered g.start gs ≡ 0 → Each (λ h. g.start ≤ h.start) gs
    → Each (λ h. g.start < h.start) gs
others g [] e z c = tt
others g (h ∷ hs) e z c = (
  elim (dec_lt g.start h.start) [
    | yes l ↦ l
    | no l ↦ absurd (omega (arith, z, covers_yes g.start h.start h.size (omega arith) (omega (arith, e.0, c.0))))
  ],
  others g hs e.1 (omega (arith, z)) c.1,
)

-- where nothing overlaps, it ascends
pub stronger : (gs : List Piece) → Each (λ g. 1 ≤ g.size) gs → ((y : ℕ) → covered y gs ≤ 1) → Climbs gs → Ascends gs
stronger [] e o c = tt
stronger (g ∷ gs) e o c = (
  others g gs e.1 (omega (arith, o g.start, covers_yes g.start g.start g.size (omega arith) (omega (arith, e.0)))) c.0,
  stronger gs e.1 (λ y. omega (arith, o y)) c.1,
)

pub at_most_1 : (y s n : ℕ) → covers y (record { start = s; size = n }) ≤ 1
at_most_1 y s n = elim (lies y s n) [ below l k ↦ omega arith | among l k c ↦ omega arith | above l k ↦ omega arith ]

-- ── In an arrangement ──────────────────────────────────────────────────

abbrev pub named : Trace → Arrangement → Placed 4
named t A = get_or A.names (t.name - 1) Vacant

abbrev pub AtTrace : ((d : ℕ) → Spot (Placed d) → Type 0) → Trace → Arrangement → Type 0
AtTrace P t A = At P 4 (subscripts t) (named t A)

-- all but the tiling
pub record Decent (A : Arrangement) : Type 0 where
  pub names_64 : length A.names ≡ 64
  pub least : 67 ≤ A.count
  pub most : A.count ≤ 2 ^ 18
  pub good : Each (Good 4) A.names

pub decent : (A : Arrangement) → Sound A → Decent A
decent A o = record { names_64 = o.names_64; least = o.least; most = o.most; good = o.good }

pub name_in : (t : Trace) (n : ℕ) → n ≡ 64 → t.name - 1 < n
name_in t n h = omega (arith, t.lawful.0, t.lawful.1)

module _ (f : SpotChange) (P : (d : ℕ) → Spot (Placed d) → Type 0) (t : Trace) (A : Arrangement) (o : Decent A) (a : AtTrace P t A) where
  pub trace_decent : ((d : ℕ) (q : Spot (Placed d)) → P d q → Good (suc d) q → Good (suc d) (f d q)) → Decent (at_trace f t A)
  trace_decent h =
      let i = t.name - 1 in
      let z = change f 4 (subscripts t) (named t A) in
      record {
        names_64 = length-set A.names i z ∙ o.names_64;
        least = o.least;
        most = o.most;
        good = each_set (Good 4) z
            (change_good f P h 4 (subscripts t) (named t A) a (each_get (Good 4) Vacant A.names i (name_in t (length A.names) o.names_64) o.good))
            A.names i o.good;
      }

  -- a sound arrangement comes of one whose words, with those won and lost at the trace, tile
  pub trace_sound : ((d : ℕ) (q : Spot (Placed d)) → P d q → Good (suc d) q → Good (suc d) (f d q))
      → (lost won : ℕ → ℕ)
      → ((y d : ℕ) (q : Spot (Placed d)) → P d q → covered y (pieces (suc d) (f d q)) + lost y ≡ covered y (pieces (suc d) q) + won y)
      → ((y : ℕ) → covered y (blocks A.names) + won y + covered y A.gaps ≡ covers y (record { start = 65; size = A.count - 65 }) + lost y)
      → Each (λ g. 1 ≤ g.size) A.gaps → Climbs A.gaps → Sound (at_trace f t A)
  trace_sound g lost won h tiles sized climbs =
      let c = trace_decent g in
      let i = t.name - 1 in
      let z = change f 4 (subscripts t) (named t A) in
      let once : (y : ℕ) → covered y (blocks (at_trace f t A).names) + covered y A.gaps ≡ covers y (record { start = 65; size = A.count - 65 }) =
      λ y. omega (
        arith,
        tiles y,
        set_covered y (pieces 4) Vacant z A.names i (name_in t (length A.names) o.names_64),
        change_covered f P y (lost y) (won y) (h y) 4 (subscripts t) (named t A) a,
      ) in
      record {
        names_64 = c.names_64;
        least = c.least;
        most = c.most;
        tiled = record {
          once = once;
          sized = sized;
          ascends = stronger A.gaps sized (λ y. omega (arith, once y, at_most_1 y 65 (A.count - 65))) climbs;
        };
        good = c.good;
      }
