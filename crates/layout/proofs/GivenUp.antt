-- What leaves a block goes to the chain, and the arrangement is still sound.
use Rattle.std.proofs.Common.{◌≡◌, ℕ, zero, suc, ◌+◌, ◌-◌, ◌<◌, ◌≤◌, Bool, true, false, cond, not, T, ltb, List, [], ◌∷◌, ◌++◌, map, length, take, drop, ℤ, sym, refl, ap, ◌∙◌, subst, arith, ltb→lt, nltb→le, length-append, length-drop, take-append-drop, length-take, drop-drop}
use Rattle.booking.specs.Bookings.{Delete}
use Rattle.booking.specs.Traces.{subscripts}
use Rattle.booking.specs.declared.trace.Trace.{Trace}
use Rattle.layout.specs.Arrangement.{Arrangement, Codes, Data, Piece, Placed, Spot, Vacant, concat, pieces}
use Rattle.layout.specs.Gaps.{link, link_all}
use Rattle.layout.specs.Placement.{with_gaps}
use Rattle.layout.specs.Places.{at_trace, seen}
use Rattle.layout.specs.Rearranged.{freed, given_up, rearranged, shrunk}
use Rattle.layout.specs.Sound.{Each, Good, Sound, covered, covers}
use Rattle.layout.specs.Words.{total}
use Rattle.ledger.specs.Doors.{element}
use Rattle.ledger.specs.Lists.{delete_at}
use Rattle.layout.proofs.Cover.{covers_split, each_imp, each-++}
use Rattle.layout.proofs.Order.{Some, pieces_some, concat_some}
use Rattle.layout.proofs.Change.{SpotChange, At, AtTrace, named, at_look, at_out, Climbs, weaker, trace_sound}
use Rattle.layout.proofs.Doors.{Legal}
use Rattle.layout.proofs.Kept.{cov-++}

-- ── Pieces linked into the chain ───────────────────────────────────────

pub link_cases : (P : List Piece → Type 0) (p g : Piece) (gs : List Piece) → (p.start < g.start → P (p ∷ g ∷ gs))
    → (g.start ≤ p.start → P (g ∷ link p gs)) → P (link p (g ∷ gs))
link_cases P p g gs h k = pick (ltb p.start g.start) (ltb→lt p.start g.start) (nltb→le p.start g.start)
  where
    pick : (q : Bool) → (T q → p.start < g.start) → (T (not q) → g.start ≤ p.start) → P (cond q (p ∷ g ∷ gs) (g ∷ link p gs))
    pick true u v = h (u tt)
    pick false u v = k (v tt)

pub link_covered : (y : ℕ) (p : Piece) (gs : List Piece) → covered y (link p gs) ≡ covers y p + covered y gs
link_covered y p [] = refl
link_covered y p (g ∷ gs) =
    let more = link_covered y p gs in
    link_cases (λ ps. covered y ps ≡ covers y p + covered y (g ∷ gs)) p g gs (λ l. refl) (λ l. omega (arith, more))

pub link_each : (P : Piece → Type 0) (p : Piece) (gs : List Piece) → P p → Each P gs → Each P (link p gs)
link_each P p [] h e = (h, tt)
link_each P p (g ∷ gs) h e =
    let more = link_each P p gs h e.1 in
    link_cases (Each P) p g gs (λ l. (h, e)) (λ l. (e.0, more))

pub link_others : (P : Piece → Type 0) (p : Piece) (gs : List Piece) → Each P (link p gs) → Each P gs
link_others P p [] e = tt
link_others P p (g ∷ gs) e =
    let more = link_others P p gs in
    link_cases (λ ps. Each P ps → Each P (g ∷ gs)) p g gs (λ l k. k.1) (λ l k. (k.0, more k.1)) e

pub link_climbs : (p : Piece) (gs : List Piece) → Climbs gs → Climbs (link p gs)
link_climbs p [] c = (tt, tt)
link_climbs p (g ∷ gs) c =
    let more = link_climbs p gs c.1 in
    link_cases Climbs p g gs
    (λ l. ((omega arith, each_imp (λ h. g.start ≤ h.start) (λ h. p.start ≤ h.start) (λ h k. omega arith) gs c.0), c))
    (λ l. (link_each (λ h. g.start ≤ h.start) p gs l c.0, more))

link_total : (p : Piece) (gs : List Piece) → total (link p gs) ≡ p.size + total gs
link_total p [] = refl
link_total p (g ∷ gs) =
    let more = link_total p gs in
    link_cases (λ ps. total ps ≡ p.size + total (g ∷ gs)) p g gs (λ l. refl) (λ l. omega (arith, more))

pub all_covered : (y : ℕ) (ps gs : List Piece) → covered y (link_all ps gs) ≡ covered y ps + covered y gs
all_covered y [] gs = omega arith
all_covered y (p ∷ ps) gs = omega (arith, link_covered y p (link_all ps gs), all_covered y ps gs)

pub all_sized : (ps gs : List Piece) → Each Some ps → Each Some gs → Each Some (link_all ps gs)
all_sized [] gs e f = f
all_sized (p ∷ ps) gs e f = link_each Some p (link_all ps gs) e.0 (all_sized ps gs e.1 f)

pub all_climb : (ps gs : List Piece) → Climbs gs → Climbs (link_all ps gs)
all_climb [] gs c = c
all_climb (p ∷ ps) gs c = link_climbs p (link_all ps gs) (all_climb ps gs c)

pub all_total : (ps gs : List Piece) → total (link_all ps gs) ≡ total ps + total gs
all_total [] gs = omega arith
all_total (p ∷ ps) gs = omega (arith, link_total p (link_all ps gs), all_total ps gs)

-- ── Free and delete: what leaves a block goes to the chain ─────────────

module _ (f : SpotChange) (P : (d : ℕ) → Spot (Placed d) → Type 0) (left : (d : ℕ) → Spot (Placed d) → List Piece)
    (good : (d : ℕ) (q : Spot (Placed d)) → P d q → Good (suc d) q → Good (suc d) (f d q))
    (some : (d : ℕ) (q : Spot (Placed d)) → P d q → Each Some (left d q))
    (leaves : (y d : ℕ) (q : Spot (Placed d)) → P d q → covered y (pieces (suc d) (f d q)) + covered y (left d q) ≡ covered y (pieces (suc d) q)) where
  given_sound : (t : Trace) (A : Arrangement) → Sound A → AtTrace P t A → Sound (at_trace f t (with_gaps A (link_all (seen [] left t A) A.gaps)))
  given_sound t A o a =
      let there = seen [] left t A in
      let gs = link_all there A.gaps in
      let P' : (d : ℕ) → Spot (Placed d) → Type 0 = λ d q. P d q × (left d q ≡ there) in
      let a' : At P' 4 (subscripts t) (named t A) = at_look P [] left 4 (subscripts t) (named t A) a in
      let each : Each Some there = at_out P' (Each Some there) (λ d q p. subst (Each Some) p.1 (some d q p.0)) 4 (subscripts t) (named t A) a' in
      trace_sound f P' t (with_gaps A gs) (record { names_64 = o.names_64; least = o.least; most = o.most; good = o.good }) a'
      (λ d q p g. good d q p.0 g) (λ y. covered y there) (λ y. 0)
      (λ y d q p. omega (arith, leaves y d q p.0, ap (covered y) p.1))
      (λ y. omega (arith, o.tiled.once y, all_covered y there A.gaps))
      (all_sized there A.gaps each o.tiled.sized)
      (all_climb there A.gaps (weaker A.gaps o.tiled.ascends))

pub freed_sound : (P : (d : ℕ) → Spot (Placed d) → Type 0) (t : Trace) (A : Arrangement) → Sound A → AtTrace P t A → Sound (freed t A)
freed_sound P t A o a =
    given_sound (λ d q. Vacant) P (λ d q. pieces (suc d) q) (λ d q p g. tt) (λ d q p. pieces_some (suc d) q) (λ y d q p. omega arith) t A o a

module _ {X : Type 0} where
  pub delete_length : (m n : ℕ) (xs : List X) → m + n ≤ length xs → length (delete_at m n xs) ≡ length xs - n
  delete_length m n xs h =
      omega (arith, length-append (take m xs) (drop (m + n) xs), length-take m xs, length-drop (m + n) xs)

  three_parts : (m n : ℕ) (xs : List X) → take m xs ++ (take n (drop m xs) ++ drop (m + n) xs) ≡ xs
  three_parts m n xs =
      ap (λ (zs : List X). take m xs ++ (take n (drop m xs) ++ zs)) (sym (drop-drop n m xs))
      ∙ ap (λ (zs : List X). take m xs ++ zs) (take-append-drop n (drop m xs))
      ∙ take-append-drop m xs

  pub delete_covered : (y : ℕ) (f : X → List Piece) (m n : ℕ) (xs : List X)
      → covered y (concat (map f (delete_at m n xs))) + covered y (concat (map f (take n (drop m xs)))) ≡ covered y (concat (map f xs))
  delete_covered y f m n xs =
      omega (
        arith,
        cov-++ y f (take m xs) (drop (m + n) xs),
        cov-++ y f (take n (drop m xs)) (drop (m + n) xs),
        cov-++ y f (take m xs) (take n (drop m xs) ++ drop (m + n) xs),
        ap (λ (zs : List X). covered y (concat (map f zs))) (three_parts m n xs),
      )

  pub each_take : (P : X → Type 0) (n : ℕ) (xs : List X) → Each P xs → Each P (take n xs)
  each_take P zero xs e = tt
  each_take P (suc n) [] e = tt
  each_take P (suc n) (x ∷ xs) e = (e.0, each_take P n xs e.1)

  pub each_drop : (P : X → Type 0) (n : ℕ) (xs : List X) → Each P xs → Each P (drop n xs)
  each_drop P zero xs e = e
  each_drop P (suc n) [] e = tt
  each_drop P (suc n) (x ∷ xs) e = each_drop P n xs e.1

shrunk_good : (i : ℤ) (n d : ℕ) (q : Spot (Placed d)) → Legal (Delete i n) d q → Good (suc d) q → Good (suc d) (shrunk i n d q)
shrunk_good i n d Vacant p g = tt
shrunk_good i n d (Data s b t ws) p g = (omega (arith, delete_length (element b i) n ws p.1, p.2), g.1, g.2)
shrunk_good i n d (Codes s b ps) p g =
    let m = element b i in (
      omega (arith, delete_length m n ps p.1, p.2),
      g.1,
      each-++ (Good d) (take m ps) (drop (m + n) ps) (each_take (Good d) m ps g.2) (each_drop (Good d) (m + n) ps g.2),
    )

pub given_some : (i : ℤ) (n d : ℕ) (q : Spot (Placed d)) → Legal (Delete i n) d q → Each Some (given_up i n d q)
given_some i n d Vacant p = tt
given_some i n d (Data s b t ws) p = (p.0, tt)
given_some i n d (Codes s b ps) p = (p.0, concat_some (pieces d) (pieces_some d) (take n (drop (element b i) ps)))

-- the last n words of a block
tail_covered : (y s l n k : ℕ) → n < l → k ≡ l - n
    → covers y (record { start = s; size = k + 1 }) + covers y (record { start = s + 1 + l - n; size = n }) ≡ covers y (record { start = s; size = l + 1 })
tail_covered y s l n k h e =
    omega (
      arith,
      covers_split y s (k + 1) n,
      ap (λ (z : ℕ). covers y (record { start = s; size = z })) (let u : k + 1 + n ≡ l + 1 = omega arith in u),
      ap (λ (z : ℕ). covers y (record { start = z; size = n })) (let u : s + (k + 1) ≡ s + 1 + l - n = omega arith in u),
    )

pub given_leaves : (i : ℤ) (n y d : ℕ) (q : Spot (Placed d)) → Legal (Delete i n) d q
    → covered y (pieces (suc d) (shrunk i n d q)) + covered y (given_up i n d q) ≡ covered y (pieces (suc d) q)
given_leaves i n y d Vacant p = refl
given_leaves i n y d (Data s b t ws) p =
    omega (arith, tail_covered y s (length ws) n (length (delete_at (element b i) n ws)) p.2 (delete_length (element b i) n ws p.1))
given_leaves i n y d (Codes s b ps) p =
    omega (
      arith,
      tail_covered y s (length ps) n (length (delete_at (element b i) n ps)) p.2 (delete_length (element b i) n ps p.1),
      delete_covered y (pieces d) (element b i) n ps,
    )

pub delete_sound : (i : ℤ) (n : ℕ) (t : Trace) (A : Arrangement) → Sound A → AtTrace (Legal (Delete i n)) t A → Sound (rearranged t (Delete i n) A)
delete_sound i n t A o a =
    given_sound (shrunk i n) (Legal (Delete i n)) (given_up i n) (shrunk_good i n) (given_some i n) (given_leaves i n) t A o a
