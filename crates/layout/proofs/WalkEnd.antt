-- The reply at the end of a walk.
use Rattle.std.proofs.Common.{◌≡◌, ℕ, zero, suc, ◌+◌, ◌^◌, ◌<◌, ◌≤◌, Bool, true, false, cond, leb, List, [], ◌∷◌, ◌++◌, map, length, get_or, set, ℤ, Ok, Err, Result, sym, refl, ap, ◌∙◌, subst, append_assoc, append-nil, add-zero, arith, length-set, get_or-set_same}
use lib.Signed.{mag}
use lib.ListN.{length-map, get_or-map}
use Rattle.std.proofs.lemmas.List.{set-get_or}
use Rattle.std.proofs.lemmas.Bool.{cond-true, cond-false}
use Rattle.booking.specs.Bookings.{Deed, Reply, granted, on, refused}
use Rattle.booking.specs.declared.refusal.Refusal.{Refusal}
use Rattle.booking.specs.declared.refusal.Refusal.TheVariants.{NoRoom, OutOfBounds}
use Rattle.codeword.specs.Codeword.{packed, unpacked}
use Rattle.ledger.specs.Deeds.{done_at}
use Rattle.ledger.specs.Doors.{Outcome, door, element, off, passed, put, turned}
use Rattle.ledger.specs.Ledger.{walk}
use Rattle.ledger.specs.Trees.{Tree, W, bare}
use Rattle.layout.specs.Arrangement.{Codes, Data, Piece, Placed, Spot, Vacant, bared, tree, vacant}
use Rattle.layout.specs.Holds.{Along, Shows}
use Rattle.layout.specs.Places.{change, look}
use Rattle.layout.specs.Walks.{and_then, chosen, walked}
use Rattle.layout.specs.Words.{Cell, back, cells, cells_along, label, labelling}
use Rattle.layout.proofs.Bridge.{Fits}
use Rattle.codeword.proofs.Packing.{unpacked_packed}
use Rattle.layout.proofs.Change.{At, each_get}
use Rattle.layout.proofs.Gone.{gone_nothing, gone_row, gone_table}
use Rattle.layout.proofs.Leaves.{tree_vacant}
use Rattle.ledger.proofs.Signs.{element_lt}

-- ── One element of a list ──────────────────────────────────────────────

pub along_get : {X : Type 0} (P : ℕ → X → Type 0) (a : ℕ) (xs : List X) (v : X) (e : ℕ) → e < length xs → Along P a xs → P (a + e) (get_or xs e v)
along_get P a [] v e h p = absurd (omega arith)
along_get P a (x ∷ xs) v zero h p = subst (λ (k : ℕ). P k x) (omega arith) p.0
along_get P a (x ∷ xs) v (suc e) h p = subst (λ (k : ℕ). P k (get_or xs e v)) (omega arith) (along_get P (a + 1) xs v e (omega arith) p.1)

-- the cells of a list, with those of one element apart
pub record Spread {X : Type 0} (f : ℕ → X → List Cell) (a e : ℕ) (xs : List X) : Type 0 where
  pub pre : List Cell
  pub post : List Cell
  pub spread : (y : X) → cells_along f a (set xs e y) ≡ pre ++ (f (a + e) y ++ post)

pub spread_at : {X : Type 0} (f : ℕ → X → List Cell) (a e : ℕ) (xs : List X) → e < length xs → Spread f a e xs
spread_at f a e [] h = absurd (omega arith)
spread_at f a zero (x ∷ xs) h =
    record { pre = []; post = cells_along f (a + 1) xs; spread = λ y. ap (λ (k : ℕ). f k y ++ cells_along f (a + 1) xs) (sym (add-zero a)) }
spread_at f a (suc e) (x ∷ xs) h =
    let r = spread_at f (a + 1) e xs (omega arith) in
    let k : a + 1 + e ≡ a + suc e = omega arith in
    record {
      pre = f a x ++ r.pre;
      post = r.post;
      spread = λ y. ap (λ (cs : List Cell). f a x ++ cs) (r.spread y)
          ∙ ap (λ (n : ℕ). f a x ++ (r.pre ++ (f n y ++ r.post))) k
          ∙ sym (append_assoc (f a x) r.pre (f (a + suc e) y ++ r.post));
    }

pub regroup : (p q c r s : List Cell) → p ++ ((q ++ (c ++ r)) ++ s) ≡ (p ++ q) ++ (c ++ (r ++ s))
regroup p q c r s = simp append_assoc

-- ── The reply that an outcome leads to, k words being free ────────────

abbrev pub reply : {A : Type 0} → ℕ → Outcome A → Reply
reply k (turned r) = refused r
reply k (passed n m a x) = cond (leb n (k + m)) (granted a) (refused NoRoom)

pub reply_put : {A B : Type 0} (k : ℕ) (f : A → B) (o : Outcome A) → reply k (put f o) ≡ reply k o
unfolding put
reply_put k f (turned r) = refl
reply_put k f (passed n m a x) = refl

pub door_shut : {A : Type 0} (q : Bool) (r : Refusal) (o : Outcome A) → q ≡ true → door q r o ≡ turned r
unfolding door
door_shut q r o e = ap (λ (z : Bool). door z r o) e

pub door_open : {A : Type 0} (q : Bool) (r : Refusal) (o : Outcome A) → q ≡ false → door q r o ≡ o
unfolding door
door_open q r o e = ap (λ (z : Bool). door z r o) e

-- ── The end of the walk ────────────────────────────────────────────────

abbrev pub SpotEdit : Type 0
SpotEdit = (d : ℕ) → Spot (Placed d) → Spot (Placed d)

abbrev pub SpotPieces : Type 0
SpotPieces = (d : ℕ) → Spot (Placed d) → List Piece

module _ (ws : List ℕ) where
  -- from the codeword at a, which shows p, the subscripts lead to the one at `at`, which shows the spot
  pub record Place (d a : ℕ) (p : Placed d) (is : List ℤ) (j : ℕ) (at depth : ℕ) (spot : Spot (Placed depth)) : Type 0 where
    pub shows : Shows (suc depth) ws at spot
    pub fits_in : Fits (length ws) (suc depth) spot
    pub inside : at < length ws
    pub before : List Cell
    pub after : List Cell
    pub here : cells d a p ≡ before ++ (cells (suc depth) at spot ++ after)
    pub there : (f : SpotEdit) → cells d a (change f d is p) ≡ before ++ (cells (suc depth) at (f depth spot) ++ after)
    pub leads : At (λ e q. Unit {0}) d is p
    pub level : suc depth + length is ≡ d
    pub looked : (f : SpotPieces) → look [] f d is p ≡ f depth spot
    pub asked_there : (f : SpotEdit) (k : ℕ) (deed : Deed)
        → reply k (walk d j is deed (tree d (change f d is p))) ≡ reply k (done_at (bare depth) (W depth) (j + length is) deed (bared (tree depth) (f depth spot)))
    pub asked : (k : ℕ) (deed : Deed) → reply k (walk d j is deed (tree d p)) ≡ reply k (done_at (bare depth) (W depth) (j + length is) deed (bared (tree depth) spot))

  abbrev pub Arrived : (d a : ℕ) (p : Placed d) (is : List ℤ) (j : ℕ) → Result ℕ Refusal → Type 0
  Arrived d a p is j (Err r) = (k : ℕ) (deed : Deed) → reply k (walk d j is deed (tree d p)) ≡ refused r
  Arrived d a p is j (Ok at) = (depth : ℕ) × (spot : Spot (Placed depth)) × Place d a p is j at depth spot

  module _ (small : length ws ≤ 2 ^ 18) where
    -- a codeword shown is what it packs, and not 0
    pub shown_label : (w s n : ℕ) (b : ℤ) (q : Bool) (t : ℕ) → 1 ≤ n → s + 1 + n ≤ length ws → mag b < 2 ^ 15 → t ≤ 2
        → w ≡ packed (labelling (s + 1) n b q t) → (labelling (s + 1) n b q t ≡ unpacked w) × (w ≡ 0 → ⊥)
    shown_label w s n b q t hn hi hb ht e = (
      sym (ap unpacked e ∙ unpacked_packed (labelling (s + 1) n b q t) (omega arith, omega arith, omega arith) (record { sfits = hb })),
      λ z. omega (arith, e),
    )

    -- one step down, on the ledger
    one_down : (d : ℕ) (s : ℕ) (b : ℤ) (ps : List (Placed d)) (i : ℤ) (is : List ℤ) (j k : ℕ) (deed : Deed) → off b (length ps) i ≡ false
        → reply k (walk (suc d) j (i ∷ is) deed (tree (suc d) (Codes s b ps))) ≡ reply k (walk d (suc j) is deed (tree d (get_or ps (element b i) (vacant d))))
    one_down d s b ps i is j k deed on =
        ap (reply k) (door_open _ _ _ (ap (λ (n : ℕ). off b n i) (length-map ps (tree d)) ∙ on))
        ∙ reply_put k _ _
        ∙ ap (λ (t : Tree d). reply k (walk d (suc j) is deed t))
        (ap (get_or (map (tree d) ps) (element b i)) (sym (tree_vacant d)) ∙ get_or-map (tree d) ps (element b i) (vacant d))

    below : (d a : ℕ) (s : ℕ) (b : ℤ) (ps : List (Placed d)) (i : ℤ) (is : List ℤ) (j : ℕ)
        → Fits (length ws) (suc d) (Codes s b ps) → off b (length ps) i ≡ false → (o : Result ℕ Refusal)
        → Arrived d (s + 1 + element b i) (get_or ps (element b i) (vacant d)) is (suc j) o → Arrived (suc d) a (Codes s b ps) (i ∷ is) j o
    below d a s b ps i is j g on (Err r) h = λ k deed. one_down d s b ps i is j k deed on ∙ h k deed
    below d a s b ps i is j g on (Ok at) (depth, spot, q) =
        let e = element b i in
        let r = spread_at (cells d) (s + 1) e ps (element_lt b i (length ps) on) in
        let head : ℕ → List Cell → List Cell =
        λ n cs. record { at = a; says = label s n b true 0 } ∷ record { at = s; says = back a } ∷ cs in
        let way : (y : Placed d) (c : List Cell) → cells d (s + 1 + e) y ≡ q.before ++ (c ++ q.after)
        → head (length (set ps e y)) (cells_along (cells d) (s + 1) (set ps e y)) ≡ head (length ps) (r.pre ++ q.before) ++ (c ++ (q.after ++ r.post)) =
        λ y c z. ap (λ (n : ℕ). head n (cells_along (cells d) (s + 1) (set ps e y))) (length-set ps e y)
        ∙ ap (head (length ps)) (r.spread y ∙ ap (λ (cs : List Cell). r.pre ++ (cs ++ r.post)) z ∙ regroup r.pre q.before c q.after r.post) in (
          depth,
          spot,
          record {
            shows = q.shows;
            fits_in = q.fits_in;
            inside = q.inside;
            before = head (length ps) (r.pre ++ q.before);
            after = q.after ++ r.post;
            here = ap (λ (us : List (Placed d)). head (length us) (cells_along (cells d) (s + 1) us)) (sym (set-get_or ps e (vacant d)))
                ∙ way (get_or ps e (vacant d)) (cells (suc depth) at spot) q.here;
            there = λ f. way (change f d is (get_or ps e (vacant d))) (cells (suc depth) at (f depth spot)) (q.there f);
            leads = (element_lt b i (length ps) on, q.leads);
            level = omega (arith, q.level);
            looked = q.looked;
            asked_there = λ f k deed.
                let z = change f d is (get_or ps e (vacant d)) in
                one_down d s b (set ps e z) i is j k deed (ap (λ (n : ℕ). off b n i) (length-set ps e z) ∙ on)
                ∙ ap (λ (x : Placed d). reply k (walk d (suc j) is deed (tree d x))) (get_or-set_same ps e z (vacant d) (element_lt b i (length ps) on))
                ∙ q.asked_there f k deed
                ∙ ap (λ (n : ℕ). reply k (done_at (bare depth) (W depth) n deed (bared (tree depth) (f depth spot)))) (omega arith);
            asked = λ k deed. one_down d s b ps i is j k deed on ∙ q.asked k deed
                ∙ ap (λ (n : ℕ). reply k (done_at (bare depth) (W depth) n deed (bared (tree depth) spot))) (omega arith);
          },
        )

    pub arrive : (d j : ℕ) (is : List ℤ) (a : ℕ) (p : Placed d) → length is < d → a < length ws → Shows d ws a p → Fits (length ws) d p
        → Arrived d a p is j (walked ws j a is)
    unfolding walked chosen
    arrive zero j is a p h l s g = absurd (omega arith)
    arrive (suc d) j [] a p h l s g = (
      d,
      p,
      record {
        shows = s;
        fits_in = g;
        inside = l;
        before = [];
        after = [];
        here = sym (append-nil (cells (suc d) a p));
        there = λ f. sym (append-nil (cells (suc d) a (f d p)));
        leads = tt;
        level = omega arith;
        looked = λ f. refl;
        asked_there = λ f k deed. ap (λ (n : ℕ). reply k (done_at (bare d) (W d) n deed (bared (tree d) (f d p)))) (omega arith);
        asked = λ k deed. ap (λ (n : ℕ). reply k (done_at (bare d) (W d) n deed (bared (tree d) p))) (omega arith);
      },
    )
    arrive (suc d) j (i ∷ is) a Vacant h l s g =
        subst (Arrived (suc d) a Vacant (i ∷ is) j) (sym (ap (λ (z : Result ℕ Refusal). and_then z (λ b. walked ws (suc j) b is)) (gone_nothing (get_or ws a 0) i j s)))
        (λ k deed. refl)
    arrive (suc d) j (i ∷ is) a (Data x b t vs) h l s g =
        let m = shown_label (get_or ws a 0) x (length vs) b false t g.0 g.2 g.3 g.4 s.0 in
        subst (Arrived (suc d) a (Data x b t vs) (i ∷ is) j)
        (sym (ap (λ (z : Result ℕ Refusal). and_then z (λ b. walked ws (suc j) b is)) (gone_row (get_or ws a 0) i j _ m.0 m.1 refl)))
        (λ k deed. refl)
    arrive (suc d) j (i ∷ is) a (Codes x b ps) h l s g =
        let k = element b i in
        pick (off b (length ps) i) refl
        (λ lt. arrive d (suc j) is (x + 1 + k) (get_or ps k (vacant d)) (omega arith) (omega (arith, g.2))
        (along_get (Shows d ws) (x + 1) ps (vacant d) k lt s.2)
        (each_get (Fits (length ws) d) (vacant d) ps k lt g.4))
      where
        there : (z : Result ℕ Refusal) → chosen (labelling (x + 1) (length ps) b true 0) i j ≡ z
            → walked ws j a (i ∷ is) ≡ and_then (and_then z (λ k. Ok (x + 1 + k))) (λ b. walked ws (suc j) b is)
        there z e =
            let m = shown_label (get_or ws a 0) x (length ps) b true 0 g.0 g.2 g.3 (omega arith) s.0 in
            ap (λ (o : Result ℕ Refusal). and_then o (λ b. walked ws (suc j) b is)) (gone_table (get_or ws a 0) i j _ m.0 m.1 refl)
            ∙ ap (λ (o : Result ℕ Refusal). and_then (and_then o (λ k. Ok (x + 1 + k))) (λ b. walked ws (suc j) b is)) e

        pick : (q : Bool) → off b (length ps) i ≡ q
            → (element b i < length ps → Arrived d (x + 1 + element b i) (get_or ps (element b i) (vacant d)) is (suc j) (walked ws (suc j) (x + 1 + element b i) is))
            → Arrived (suc d) a (Codes x b ps) (i ∷ is) j (walked ws j a (i ∷ is))
        pick true e on =
            subst (Arrived (suc d) a (Codes x b ps) (i ∷ is) j) (sym (there (Err (OutOfBounds j)) (cond-true _ _ _ e)))
            (λ k deed. ap (reply k) (door_shut _ _ _ (ap (λ (n : ℕ). off b n i) (length-map ps (tree d)) ∙ e)))
        pick false e on =
            let k = element b i in
            subst (Arrived (suc d) a (Codes x b ps) (i ∷ is) j) (sym (there (Ok k) (cond-false _ _ _ e)))
            (below d a x b ps i is j g e (walked ws (suc j) (x + 1 + k) is) (on (element_lt b i (length ps) e)))
