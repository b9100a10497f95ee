-- What a granted booking leaves is sound: all but take and insert.
use Rattle.std.proofs.Common.{◌≡◌, ℕ, zero, suc, ◌+◌, ◌-◌, ◌^◌, ◌<◌, ◌≤◌, List, [], ◌∷◌, ◌++◌, map, length, get_or, set, replicate, ℤ, sym, refl, ap, ◌∙◌, arith, length-set, get_or-set_other, get_or-set_same}
use native.Mathlib.Decide.{dec_lt}
use lib.ListN.{length-map}
use Rattle.booking.specs.Bookings.{Exchange, Rebase, RowWrite, Write}
use Rattle.booking.specs.declared.trace.Trace.{Trace}
use Rattle.layout.specs.Arrangement.{Arrangement, Codes, Data, Piece, Placed, Spot, Vacant, concat, pieces, vacant}
use Rattle.layout.specs.Gaps.{a_gap}
use Rattle.layout.specs.Placement.{closed_up, move}
use Rattle.layout.specs.Places.{at_trace}
use Rattle.layout.specs.Rearranged.{as_made, data_change, exchanged, rearranged, rebased}
use Rattle.layout.specs.Sound.{Ascends, Each, Good, GoodBase, Sound, covered, covers}
use Rattle.ledger.specs.Doors.{element}
use Rattle.ledger.specs.Lists.{overwrite, swap}
use Rattle.ledger.proofs.ReadBack.{over_length}
use Rattle.layout.proofs.Cover.{covers_none, covered-++}
use Rattle.layout.proofs.Order.{Some, ordered, tiled}
use Rattle.layout.proofs.Close.{closed_up_ordered}
use Rattle.layout.proofs.Change.{SpotChange, AtTrace, set_covered, each_set, each_get, weaker, decent, trace_sound}
use Rattle.layout.proofs.Doors.{Legal}

-- ── Make and tidy ──────────────────────────────────────────────────────

pub each_replicate : {X : Type 0} (P : X → Type 0) (n : ℕ) (x : X) → P x → Each P (replicate n x)
each_replicate P zero x h = tt
each_replicate P (suc n) x h = (h, each_replicate P n x h)

module _ {X : Type 0} (y : ℕ) (f : X → List Piece) where
  pub cov_none : (n : ℕ) (x : X) → f x ≡ [] → covered y (concat (map f (replicate n x))) ≡ 0
  cov_none zero x e = refl
  cov_none (suc n) x e = omega (arith, covered-++ y (f x) (concat (map f (replicate n x))), ap (covered y) e, cov_none n x e)

  pub cov-++ : (xs zs : List X) → covered y (concat (map f (xs ++ zs))) ≡ covered y (concat (map f xs)) + covered y (concat (map f zs))
  cov-++ [] zs = omega arith
  cov-++ (x ∷ xs) zs = omega (arith, covered-++ y (f x) (concat (map f (xs ++ zs))), covered-++ y (f x) (concat (map f xs)), cov-++ xs zs)

pub gap_covered : (y s n : ℕ) → covered y (a_gap s n) ≡ covers y (record { start = s; size = n })
gap_covered y s zero = sym (covers_none y s)
gap_covered y s (suc n) = omega arith

pub gap_sized : (s n : ℕ) → Each Some (a_gap s n)
gap_sized s zero = tt
gap_sized s (suc n) = (omega arith, tt)

pub gap_climbs : (s n : ℕ) → Ascends (a_gap s n)
gap_climbs s zero = tt
gap_climbs s (suc n) = (tt, tt)

pub made_sound : (n : ℕ) → 67 ≤ n → n ≤ 2 ^ 18 → Sound (as_made n)
made_sound n lo hi = record {
  names_64 = refl;
  least = lo;
  most = hi;
  tiled = record { once = λ y. omega (arith, gap_covered y 65 (n - 65)); sized = gap_sized 65 (n - 65); ascends = gap_climbs 65 (n - 65) };
  good = each_replicate (Good 4) 64 Vacant tt;
}

pub each_map : {X Y : Type 0} (P : X → Type 0) (Q : Y → Type 0) (f : X → Y) → ((x : X) → P x → Q (f x)) → (xs : List X) → Each P xs → Each Q (map f xs)
each_map P Q f h [] e = tt
each_map P Q f h (x ∷ xs) e = (h x e.0, each_map P Q f h xs e.1)

pub move_good : (to : ℕ → ℕ) (d : ℕ) (p : Placed d) → Good d p → Good d (move to d p)
move_good to zero p g = tt
move_good to (suc d) Vacant g = tt
move_good to (suc d) (Data s b t ws) g = g
move_good to (suc d) (Codes s b ps) g =
    (omega (arith, g.0, length-map ps (move to d)), g.1, each_map (Good d) (Good d) (move to d) (move_good to d) ps g.2)

pub closed_up_sound : (A : Arrangement) → Sound A → Sound (closed_up A)
closed_up_sound A o = record {
  names_64 = length-map A.names _ ∙ o.names_64;
  least = o.least;
  most = o.most;
  tiled = tiled (closed_up A) (closed_up_ordered A (ordered A o.least o.tiled));
  good = each_map (Good 4) (Good 4) _ (move_good _ 4) A.names o.good;
}

-- ── Where no block changes its size ────────────────────────────────────

module _ (f : SpotChange) (P : (d : ℕ) → Spot (Placed d) → Type 0) (t : Trace) (A : Arrangement) (o : Sound A) where
  same_size : AtTrace P t A
      → ((d : ℕ) (q : Spot (Placed d)) → P d q → Good (suc d) q → Good (suc d) (f d q))
      → ((y d : ℕ) (q : Spot (Placed d)) → P d q → covered y (pieces (suc d) (f d q)) ≡ covered y (pieces (suc d) q))
      → Sound (at_trace f t A)
  same_size a g h =
      trace_sound f P t A (decent A o) a g (λ y. 0) (λ y. 0) (λ y d q p. omega (arith, h y d q p))
      (λ y. omega (arith, o.tiled.once y)) o.tiled.sized (weaker A.gaps o.tiled.ascends)

size_is : (y s m n : ℕ) → m ≡ n → covers y (record { start = s; size = m + 1 }) ≡ covers y (record { start = s; size = n + 1 })
size_is y s m n e = ap (λ (k : ℕ). covers y (record { start = s; size = k + 1 })) e

module _ (change : ℤ → List ℕ → List ℕ) (P : (d : ℕ) → Spot (Placed d) → Type 0)
    (keeps : (d s : ℕ) (b : ℤ) (t : ℕ) (ws : List ℕ) → P d (Data s b t ws) → length (change b ws) ≡ length ws) where
  data_good : (d : ℕ) (q : Spot (Placed d)) → P d q → Good (suc d) q → Good (suc d) (data_change change d q)
  data_good d Vacant p g = tt
  data_good d (Data s b t ws) p g = (omega (arith, g.0, keeps d s b t ws p), g.1, g.2)
  data_good d (Codes s b ps) p g = g

  data_same : (y d : ℕ) (q : Spot (Placed d)) → P d q → covered y (pieces (suc d) (data_change change d q)) ≡ covered y (pieces (suc d) q)
  data_same y d Vacant p = refl
  data_same y d (Data s b t ws) p = ap (λ (k : ℕ). k + 0) (size_is y s (length (change b ws)) (length ws) (keeps d s b t ws p))
  data_same y d (Codes s b ps) p = refl

pub write_sound : (kind : ℕ) (i : ℤ) (w : ℕ) (t : Trace) (A : Arrangement) → Sound A → AtTrace (Legal (Write kind i w)) t A
    → Sound (rearranged t (Write kind i w) A)
write_sound kind i w t A o a =
    let P = Legal (Write kind i w) in
    let keeps : (d s : ℕ) (b : ℤ) (ty : ℕ) (ws : List ℕ) → P d (Data s b ty ws) → length (set ws (element b i) w) ≡ length ws =
    λ d s b ty ws p. length-set ws (element b i) w in
    same_size (data_change (λ b ws. set ws (element b i) w)) P t A o a (data_good _ P keeps) (data_same _ P keeps)

pub row_write_sound : (kind : ℕ) (i : ℤ) (vs : List ℕ) (t : Trace) (A : Arrangement) → Sound A → AtTrace (Legal (RowWrite kind i vs)) t A
    → Sound (rearranged t (RowWrite kind i vs) A)
row_write_sound kind i vs t A o a =
    let P = Legal (RowWrite kind i vs) in
    let keeps : (d s : ℕ) (b : ℤ) (ty : ℕ) (ws : List ℕ) → P d (Data s b ty ws) → length (overwrite (element b i) vs ws) ≡ length ws =
    λ d s b ty ws p. over_length (element b i) vs ws p in
    same_size (data_change (λ b ws. overwrite (element b i) vs ws)) P t A o a (data_good _ P keeps) (data_same _ P keeps)

rebased_good : (c : ℤ) (d : ℕ) (q : Spot (Placed d)) → GoodBase c → Good (suc d) q → Good (suc d) (rebased c d q)
rebased_good c d Vacant p g = tt
rebased_good c d (Data s b t ws) p g = (g.0, p, g.2)
rebased_good c d (Codes s b ps) p g = (g.0, p, g.2)

rebased_same : (c : ℤ) (y d : ℕ) (q : Spot (Placed d)) → GoodBase c → covered y (pieces (suc d) (rebased c d q)) ≡ covered y (pieces (suc d) q)
rebased_same c y d Vacant p = refl
rebased_same c y d (Data s b t ws) p = refl
rebased_same c y d (Codes s b ps) p = refl

pub rebase_sound : (c : ℤ) (t : Trace) (A : Arrangement) → Sound A → AtTrace (Legal (Rebase c)) t A → Sound (rearranged t (Rebase c) A)
rebase_sound c t A o a = same_size (rebased c) (Legal (Rebase c)) t A o a (rebased_good c) (rebased_same c)

module _ {X : Type 0} where
  other_kept : (v : X) (xs : List X) (m n : ℕ) → n < length xs → get_or (set xs m (get_or xs n v)) n v ≡ get_or xs n v
  other_kept v xs m n h =
      elim (dec_lt m n) [
        | yes l ↦ get_or-set_other xs m n (get_or xs n v) v (λ e. omega arith)
        | no l ↦ elim (dec_lt n m) [
          | yes k ↦ get_or-set_other xs m n (get_or xs n v) v (λ e. omega arith)
          | no k ↦ ap (λ (i : ℕ). get_or (set xs i (get_or xs n v)) n v) (let e : m ≡ n = omega arith in e)
              ∙ get_or-set_same xs n (get_or xs n v) v h
        ]
      ]

  swap_covered : (y : ℕ) (f : X → List Piece) (v : X) (xs : List X) (m n : ℕ) → m < length xs → n < length xs
      → covered y (concat (map f (swap m n v xs))) ≡ covered y (concat (map f xs))
  swap_covered y f v xs m n hm hn =
      let one = set xs m (get_or xs n v) in
      omega (
        arith,
        set_covered y f v (get_or xs n v) xs m hm,
        set_covered y f v (get_or xs m v) one n (omega (arith, hn, length-set xs m (get_or xs n v))),
        ap (λ (x : X). covered y (f x)) (other_kept v xs m n hn),
      )

  swap_length : (v : X) (xs : List X) (m n : ℕ) → length (swap m n v xs) ≡ length xs
  swap_length v xs m n = length-set (set xs m (get_or xs n v)) n (get_or xs m v) ∙ length-set xs m (get_or xs n v)

exchanged_good : (h i : ℤ) (d : ℕ) (q : Spot (Placed d)) → Legal (Exchange h i) d q → Good (suc d) q → Good (suc d) (exchanged h i d q)
exchanged_good h i d Vacant p g = tt
exchanged_good h i d (Data s b t ws) p g = g
exchanged_good h i d (Codes s b ps) p g =
    let m = element b h in
    let n = element b i in (
      omega (arith, g.0, swap_length (vacant d) ps m n),
      g.1,
      each_set (Good d) (get_or ps m (vacant d)) (each_get (Good d) (vacant d) ps m p.0 g.2) (set ps m (get_or ps n (vacant d))) n
          (each_set (Good d) (get_or ps n (vacant d)) (each_get (Good d) (vacant d) ps n p.1 g.2) ps m g.2),
    )

exchanged_same : (h i : ℤ) (y d : ℕ) (q : Spot (Placed d)) → Legal (Exchange h i) d q
    → covered y (pieces (suc d) (exchanged h i d q)) ≡ covered y (pieces (suc d) q)
exchanged_same h i y d Vacant p = refl
exchanged_same h i y d (Data s b t ws) p = refl
exchanged_same h i y d (Codes s b ps) p =
    let m = element b h in
    let n = element b i in
    omega (
      arith,
      swap_covered y (pieces d) (vacant d) ps m n p.0 p.1,
      size_is y s (length (swap m n (vacant d) ps)) (length ps) (swap_length (vacant d) ps m n),
    )

pub exchange_sound : (h i : ℤ) (t : Trace) (A : Arrangement) → Sound A → AtTrace (Legal (Exchange h i)) t A → Sound (rearranged t (Exchange h i) A)
exchange_sound h i t A o a = same_size (exchanged h i) (Legal (Exchange h i)) t A o a (exchanged_good h i) (exchanged_same h i)
