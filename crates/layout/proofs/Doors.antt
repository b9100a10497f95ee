-- What the doors say of a booking that passed them.
use Rattle.std.proofs.Common.{◌≡◌, ℕ, zero, suc, ◌+◌, ◌-◌, ◌<◌, ◌≤◌, Bool, true, false, not, ◌&&◌, ◌||◌, T, eqb, ltb, leb, List, [], ◌∷◌, map, length, get_or, ℤ, pos, negsuc, ◌+ℤ◌, ◌≤ℤ◌, ◌<ℤ◌, sym, refl, ap, ◌∙◌, subst, arith, leb→le, nltb→le, T_not}
use borrow.Author.Differences.{ints}
use lib.Signed.{le_z, lt_z, le_z_yes, lt_z_yes}
use lib.Dec.{eqb_refl}
use lib.ListN.{length-map, get_or-map}
use Rattle.booking.specs.Bookings.{Answer, Booking, Deed, Delete, Exchange, Free, Insert, Read, Rebase, RowRead, RowWrite, Span, Take, Write, granted}
use Rattle.booking.specs.Traces.{subscripts}
use Rattle.booking.specs.declared.refusal.Refusal.{Refusal}
use Rattle.layout.specs.Arrangement.{Arrangement, Codes, Data, Placed, Spot, Vacant, bared, tree, trees, vacant}
use Rattle.layout.specs.Sound.{GoodBase}
use Rattle.ledger.specs.Deeds.{done_at}
use Rattle.ledger.specs.Doors.{Outcome, Past, bad_base, bad_fields, bad_run, bad_type, door, element, off, passed, put, turned}
use Rattle.ledger.specs.Ledger.{ask, room, if_room, walk}
use Rattle.ledger.specs.Trees.{Tree, Trees, W, bare, free}
use Rattle.ledger.proofs.Asked.{Asks, away, asked}
use Rattle.layout.proofs.Leaves.{tree_vacant}
use Rattle.layout.proofs.Change.{At, AtTrace, named}

-- ── Tests ──────────────────────────────────────────────────────────────

no_or : (p q : Bool) → T (not (p || q)) → T (not p) × T (not q)
no_or true q h = absurd h
no_or false q h = (tt, h)

both : (p q : Bool) → T (not (not (p && q))) → T p × T q
both true true h = (tt, tt)
both true false h = absurd h
both false q h = absurd h

not_off : (b i : ℤ) (n : ℕ) → T (not (off b n i)) → element b i < n
not_off b i n h =
    let k = both (le_z b i) (lt_z i (b +ℤ pos n)) h in
    let l : b ≤ℤ i = le_z_yes k.0 in
    let m : i <ℤ (b +ℤ pos n) = lt_z_yes k.1 in
    omega (arith, ints)

good_base : (b : ℤ) → T (not (bad_base b)) → GoodBase b
good_base (pos n) h = let k = both true (leb n 32_767) h in omega (arith, leb→le n 32_767 k.1)
good_base (negsuc n) h = let k = both (leb n 32_767) true h in omega (arith, leb→le n 32_767 k.0)

not_zero : (n : ℕ) → T (not (eqb n 0)) → 1 ≤ n
not_zero zero h = absurd h
not_zero (suc n) h = omega arith

not_same : (m n : ℕ) → T (not (eqb m n)) → ¬ (m ≡ n)
not_same m n h e = T_not (eqb m n) h (subst (λ (k : ℕ). T (eqb m k)) e (eqb_refl m))

good_run : (m n l : ℕ) → T (not (bad_run m n l)) → (1 ≤ n) × (m + n ≤ l)
good_run m n l h = let k = no_or (eqb n 0) (ltb l (m + n)) h in (not_zero n k.0, nltb→le l (m + n) k.1)

good_fields : (b : ℤ) (c : Bool) (t j : ℕ) → T (not (bad_fields b c t j)) → GoodBase b × (t ≤ 2)
good_fields b c t j h =
    let k = no_or (bad_base b) (bad_type c t j) h in
    let l = no_or (ltb 2 t) (c && (not (eqb t 0) || eqb j 4)) k.1 in
    (good_base b k.0, nltb→le 2 t l.0)

module _ {A : Type 0} where
  door_past : (q : Bool) (r : Refusal) (o : Outcome A) → Past (door q r o) → T (not q) × Past o
  unfolding door
  door_past true r o h = absurd h
  door_past false r o h = (tt, h)

put_past : {A B : Type 0} (f : A → B) (o : Outcome A) → Past (put f o) → Past o
unfolding put
put_past f (turned r) h = absurd h
put_past f (passed n m a x) h = tt

-- ── At the place ───────────────────────────────────────────────────────

-- what is so of a booking past the doors, as far as placement asks
abbrev pub Legal : Deed → (d : ℕ) → Spot (Placed d) → Type 0
Legal (Take n b c t) d q = (1 ≤ n) × GoodBase b × (t ≤ 2)
Legal Free d q = Unit {0}
Legal (Read kind i) d q = Unit {0}
Legal (Write kind i w) d q = Unit {0}
Legal (RowRead kind i n) d q = Unit {0}
Legal (RowWrite kind i vs) d Vacant = Unit {0}
Legal (RowWrite kind i vs) d (Data s b t ws) = element b i + length vs ≤ length ws
Legal (RowWrite kind i vs) d (Codes s b ps) = Unit {0}
Legal Span d q = Unit {0}
Legal (Insert i n) d Vacant = ⊥
Legal (Insert i n) d (Data s b t ws) = Unit {0}
Legal (Insert i n) d (Codes s b ps) = Unit {0}
Legal (Delete i n) d Vacant = ⊥
Legal (Delete i n) d (Data s b t ws) = (1 ≤ n) × (element b i + n ≤ length ws) × (n < length ws)
Legal (Delete i n) d (Codes s b ps) = (1 ≤ n) × (element b i + n ≤ length ps) × (n < length ps)
Legal (Rebase c) d q = GoodBase c
Legal (Exchange h i) d Vacant = Unit {0}
Legal (Exchange h i) d (Data s b t ws) = Unit {0}
Legal (Exchange h i) d (Codes s b ps) = (element b h < length ps) × (element b i < length ps)

pub deletes : (m n l k : ℕ) → l ≡ k → T (not (bad_run m n l || eqb n l)) → (1 ≤ n) × (m + n ≤ k) × (n < k)
deletes m n l k e h =
    let u = no_or (bad_run m n l) (eqb n l) h in
    let r = good_run m n l u.0 in
    (r.0, omega (arith, r.1), (let z = not_same n l u.1 in grind (arith, r.1)))

leaf_past : (d j : ℕ) (a : Deed) (q : Spot (Placed d)) → Past (done_at (bare d) (W d) j a (bared (tree d) q)) → Legal a d q
leaf_past d j (Take n b c t) q h =
    let u = door_past (bad_fields b c t j) _ _ h in
    let v = door_past (eqb n 0) _ _ u.1 in
    let w = good_fields b c t j u.0 in
    (not_zero n v.0, w.0, w.1)
leaf_past d j Free q h = tt
leaf_past d j (Read kind i) q h = tt
leaf_past d j (Write kind i w) q h = tt
leaf_past d j (RowRead kind i n) q h = tt
leaf_past d j (RowWrite kind i vs) Vacant h = tt
leaf_past d j (RowWrite kind i vs) (Data s b t ws) h =
    let u = door_past (off b (length ws) i) _ _ h in
    let v = door_past (not (eqb t kind)) _ _ u.1 in
    let w = door_past (bad_run (element b i) (length vs) (length ws)) _ _ v.1 in
    (good_run (element b i) (length vs) (length ws) w.0).1
leaf_past d j (RowWrite kind i vs) (Codes s b ps) h = tt
leaf_past d j Span q h = tt
leaf_past d j (Insert i n) Vacant h = absurd h
leaf_past d j (Insert i n) (Data s b t ws) h = tt
leaf_past d j (Insert i n) (Codes s b ps) h = tt
leaf_past d j (Delete i n) Vacant h = absurd h
leaf_past d j (Delete i n) (Data s b t ws) h =
    let u = door_past (off b (length ws) i) _ _ h in
    let v = door_past (bad_run (element b i) n (length ws) || eqb n (length ws)) _ _ u.1 in
    deletes (element b i) n (length ws) (length ws) refl v.0
leaf_past d j (Delete i n) (Codes s b ps) h =
    let l = length (map (tree d) ps) in
    let u = door_past (off b l i) _ _ h in
    let v = door_past (bad_run (element b i) n l || eqb n l) _ _ u.1 in
    deletes (element b i) n l (length ps) (length-map ps (tree d)) v.0
leaf_past d j (Rebase c) Vacant h = absurd h
leaf_past d j (Rebase c) (Data s b t ws) h = good_base c (door_past (bad_base c) _ _ h).0
leaf_past d j (Rebase c) (Codes s b ps) h = good_base c (door_past (bad_base c) _ _ h).0
leaf_past d j (Exchange h i) Vacant k = tt
leaf_past d j (Exchange h i) (Data s b t ws) k = tt
leaf_past d j (Exchange h i) (Codes s b ps) k =
    let l = length (map (tree d) ps) in
    let u = door_past (off b l h || off b l i) _ _ k in
    let v = no_or (off b l h) (off b l i) u.0 in
    (omega (arith, not_off b h l v.0, length-map ps (tree d)), omega (arith, not_off b i l v.1, length-map ps (tree d)))

walk_past : (d j : ℕ) (is : List ℤ) (a : Deed) (p : Placed d) → Past (walk d j is a (tree d p)) → At (Legal a) d is p
walk_past zero j is a p h = absurd h
walk_past (suc d) j [] a p h = leaf_past d j a p h
walk_past (suc d) j (i ∷ is) a Vacant h = absurd h
walk_past (suc d) j (i ∷ is) a (Data s b t ws) h = absurd h
walk_past (suc d) j (i ∷ is) a (Codes s b ps) h =
    let e = element b i in
    let l = length (map (tree d) ps) in
    let u = door_past (off b l i) _ _ h in
    let v = put_past _ _ u.1 in
    let same : get_or (map (tree d) ps) e (bare d) ≡ tree d (get_or ps e (vacant d)) =
    ap (λ (x : Tree d). get_or (map (tree d) ps) e x) (sym (tree_vacant d)) ∙ get_or-map (tree d) ps e (vacant d) in (
      omega (arith, not_off b i l u.0, length-map ps (tree d)),
      walk_past d (suc j) is a (get_or ps e (vacant d)) (subst (λ (x : Tree d). Past (walk d (suc j) is a x)) same v),
    )

pub ask_past : (A : Arrangement) (b : Booking) → Past (ask (trees A) b) → AtTrace (Legal b.deed) b.trace A
unfolding ask
ask_past A b h =
    walk_past 4 1 (subscripts b.trace) b.deed (named b.trace A)
    (subst (λ (x : Tree 4). Past (walk 4 1 (subscripts b.trace) b.deed x))
    (get_or-map (tree 4) A.names (b.trace.name - 1) Vacant) (put_past _ _ h))

-- ── Granted ────────────────────────────────────────────────────────────

settled_yes : (p : Bool) (a c : Answer) (x ts : Trees) → (if_room p a x ts).0 ≡ granted c → T p
settled_yes true a c x ts e = tt
settled_yes false a c x ts e = let z : ◌≡◌ {A = ℕ} 0 1 = cc in absurd (omega arith)

pub granted_past : (count : ℕ) (ts : Trees) {o : Outcome Trees} {n m : ℕ} → Asks o n m → (c : Answer) → (room count ts o).0 ≡ granted c
    → Past o × (n ≤ free count ts + m)
granted_past count ts away c e = let z : ◌≡◌ {A = ℕ} 0 1 = cc in absurd (omega arith)
granted_past count ts (asked {n = n} {m = m} {a = a} {x = x}) c e =
    (tt, leb→le n (free count ts + m) (settled_yes (leb n (free count ts + m)) a c x ts e))
