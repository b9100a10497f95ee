-- Blocks and gaps in the order of their addresses: what tiles, can be listed so.
use Rattle.std.proofs.Common.{◌≡◌, ℕ, zero, suc, ◌+◌, ◌-◌, ◌<◌, ◌≤◌, List, [], ◌∷◌, map, sym, refl, ap, ◌∙◌, subst, arith}
use mathlib.Core.List.{Permᴰ}
use native.Mathlib.Decide.{dec_lt}
use Rattle.layout.specs.Arrangement.{Arrangement, Codes, Data, Piece, Placed, Vacant, blocks, concat, pieces}
use Rattle.layout.specs.Sound.{Ascends, Each, Tiled, covered, covers}
use Rattle.ledger.specs.Trees.{sum}
use Rattle.layout.proofs.Cover.{covers_yes, covers_low, covers_none, covers_split, covered_perm, each_imp, each-++, each_perm, pick, lies, below, among, above}

pub data Tile : Type 0 where
  idle : ℕ → Tile
  used : ℕ → Tile

abbrev pub size : Tile → ℕ
size (idle n) = n
size (used n) = n

abbrev pub idles : ℕ → List Tile → List Piece
idles a [] = []
idles a (idle n ∷ ts) = record { start = a; size = n } ∷ idles (a + n) ts
idles a (used n ∷ ts) = idles (a + n) ts

abbrev pub useds : ℕ → List Tile → List Piece
useds a [] = []
useds a (idle n ∷ ts) = useds (a + n) ts
useds a (used n ∷ ts) = record { start = a; size = n } ∷ useds (a + n) ts

-- the blocks and the gaps fill the addresses from a to below e
pub record Filled (a e : ℕ) (bs gs : List Piece) : Type 0 where
  pub order : List Tile
  pub filled : a + sum (map size order) ≡ e
  pub not_empty : Each (λ t. 1 ≤ size t) order
  pub gaps_are : idles a order ≡ gs
  pub blocks_are : Permᴰ (useds a order) bs

abbrev pub Ordered : Arrangement → Type 0
Ordered A = Filled 65 A.count (blocks A.names) A.gaps

abbrev pub Some : Piece → Type 0
Some p = 1 ≤ p.size

-- ── From an order to the tiling ────────────────────────────────────────

order_once : (y a : ℕ) (ts : List Tile)
    → covered y (useds a ts) + covered y (idles a ts) ≡ covers y (record { start = a; size = sum (map size ts) })
order_once y a [] = sym (covers_none y a)
order_once y a (idle n ∷ ts) = omega (arith, order_once y (a + n) ts, covers_split y a n (sum (map size ts)))
order_once y a (used n ∷ ts) = omega (arith, order_once y (a + n) ts, covers_split y a n (sum (map size ts)))

idles_sized : (a : ℕ) (ts : List Tile) → Each (λ t. 1 ≤ size t) ts → Each Some (idles a ts)
idles_sized a [] e = tt
idles_sized a (idle n ∷ ts) e = (e.0, idles_sized (a + n) ts e.1)
idles_sized a (used n ∷ ts) e = idles_sized (a + n) ts e.1

idles_from : (a : ℕ) (ts : List Tile) → Each (λ p. a ≤ p.start) (idles a ts)
idles_from a [] = tt
idles_from a (used n ∷ ts) = each_imp (λ p. a + n ≤ p.start) (λ p. a ≤ p.start) (λ p h. omega arith) (idles (a + n) ts) (idles_from (a + n) ts)
idles_from a (idle n ∷ ts) =
    (omega arith, each_imp (λ p. a + n ≤ p.start) (λ p. a ≤ p.start) (λ p h. omega arith) (idles (a + n) ts) (idles_from (a + n) ts))

idles_ascend : (a : ℕ) (ts : List Tile) → Each (λ t. 1 ≤ size t) ts → Ascends (idles a ts)
idles_ascend a [] e = tt
idles_ascend a (used n ∷ ts) e = idles_ascend (a + n) ts e.1
idles_ascend a (idle n ∷ ts) e = (
  each_imp (λ p. a + n ≤ p.start) (λ p. a < p.start) (λ p h. omega (arith, e.0)) (idles (a + n) ts) (idles_from (a + n) ts),
  idles_ascend (a + n) ts e.1,
)

pub tiled : (A : Arrangement) → Ordered A → Tiled A
tiled A o =
    let ts = o.order in
    record {
      once = λ y. omega (
        arith,
        order_once y 65 ts,
        covered_perm y o.blocks_are,
        ap (covered y) o.gaps_are,
        ap (λ (n : ℕ). covers y (record { start = 65; size = n }))
            (let f : sum (map size ts) ≡ A.count - 65 = omega (arith, o.filled) in f),
      );
      sized = subst (Each Some) o.gaps_are (idles_sized 65 ts o.not_empty);
      ascends = subst Ascends o.gaps_are (idles_ascend 65 ts o.not_empty);
    }

-- ── From a tiling to an order ──────────────────────────────────────────

-- no piece of some words lies anywhere
none_left : (ps : List Piece) → Each Some ps → ((y : ℕ) → covered y ps ≡ 0) → ps ≡ []
none_left [] e h = refl
none_left (p ∷ ps) e h =
    absurd (omega (arith, h p.start, covers_yes p.start p.start p.size (omega arith) (omega (arith, e.0))))

-- the first piece from address a on goes, and the others fill the rest
rest_fills : (a e n y : ℕ) (x : ℕ) → n ≤ e - a → x + covers y (record { start = a; size = n }) ≡ covers y (record { start = a; size = e - a })
    → x ≡ covers y (record { start = a + n; size = e - (a + n) })
rest_fills a e n y x l h =
    let f : n + (e - (a + n)) ≡ e - a = omega arith in
    omega (arith, h, covers_split y a n (e - (a + n)), ap (λ (k : ℕ). covers y (record { start = a; size = k })) f)

within : (a e y : ℕ) → 1 ≤ covers y (record { start = a; size = e - a }) → (a ≤ y) × (y < e)
within a e y h = elim (lies y a (e - a)) [ below l k ↦ absurd (omega arith) | among l k c ↦ (l, omega arith) | above l k ↦ absurd (omega arith) ]

-- a gap at a comes next
first_gap : (a e : ℕ) (bs : List Piece) (g : Piece) (gs : List Piece) → g.start ≡ a → Some g
    → Filled (a + g.size) e bs gs → Filled a e bs (g ∷ gs)
first_gap a e bs g gs s l f = record {
  order = idle g.size ∷ f.order;
  filled = omega (arith, f.filled);
  not_empty = (l, f.not_empty);
  gaps_are = ap (λ (k : ℕ). record { start = k; size = g.size } ∷ idles (a + g.size) f.order) (sym s)
      ∙ ap (λ (ps : List Piece). g ∷ ps) f.gaps_are;
  blocks_are = f.blocks_are;
}

first_block : (a e : ℕ) (bs gs : List Piece) (p : Piece) (rest : List Piece) → p.start ≡ a → Some p → Permᴰ (p ∷ rest) bs
    → Filled (a + p.size) e rest gs → Filled a e bs gs
first_block a e bs gs p rest s l m f = record {
  order = used p.size ∷ f.order;
  filled = omega (arith, f.filled);
  not_empty = (l, f.not_empty);
  gaps_are = f.gaps_are;
  blocks_are = Permᴰ.trans (Permᴰ.cons (ap (λ (k : ℕ). record { start = k; size = p.size }) (sym s)) f.blocks_are) m;
}

Fills : ℕ → ℕ → List Piece → List Piece → Type 0
Fills a e bs gs = (y : ℕ) → covered y bs + covered y gs ≡ covers y (record { start = a; size = e - a })

-- the head of a list that fills from a on, if it covers a, begins there and ends by e
head_fits : (a e : ℕ) (p : Piece) (bs gs : List Piece) → Some p → Fills a e (p ∷ bs) gs → (a ≤ p.start) × (p.size ≤ e - p.start)
unfolding Fills
head_fits a e p bs gs l h =
    let y : ℕ = p.start + p.size - 1 in
    let lo = within a e p.start (omega (arith, h p.start, covers_yes p.start p.start p.size (omega arith) (omega arith))) in
    let hi = within a e y (omega (arith, h y, covers_yes y p.start p.size (omega arith) (omega arith))) in
    (lo.0, omega arith)

turn : (a e : ℕ) (bs gs : List Piece) → Fills a e bs gs → Fills a e gs bs
unfolding Fills
turn a e bs gs h y = omega (arith, h y)

tail_fills : (a e : ℕ) (p : Piece) (bs gs : List Piece) → p.start ≡ a → p.size ≤ e - a → Fills a e (p ∷ bs) gs → Fills (a + p.size) e bs gs
unfolding Fills
tail_fills a e p bs gs s l h y =
    rest_fills a e p.size y (covered y bs + covered y gs) l
    (let k : covers y p ≡ covers y (record { start = a; size = p.size }) = ap (λ (z : ℕ). covers y (record { start = z; size = p.size })) s in
    omega (arith, h y))

perm_fills : (a e : ℕ) (bs cs gs : List Piece) → Permᴰ cs bs → Fills a e bs gs → Fills a e cs gs
unfolding Fills
perm_fills a e bs cs gs m h y = omega (arith, h y, covered_perm y m)

covers_from : (y : ℕ) (p : Piece) → covers y p ≡ 1 → p.start ≤ y
covers_from y p h =
    elim (lies y p.start p.size) [ below l k ↦ absurd (omega arith) | among l k c ↦ l | above l k ↦ absurd (omega arith) ]

-- gaps that all begin past a do not cover it
past_none : (a : ℕ) (gs : List Piece) → Each (λ g. a < g.start) gs → covered a gs ≡ 0
past_none a [] e = refl
past_none a (g ∷ gs) e = omega (arith, covers_low a g.start g.size e.0, past_none a gs e.1)

covers_first_word : (a e : ℕ) → a < e → covers a (record { start = a; size = e - a }) ≡ 1
covers_first_word a e h = covers_yes a a (e - a) (omega arith) (omega arith)

-- a block comes next, and what follows it is filled
block_next : (fuel a e : ℕ) (bs gs : List Piece) → a < e → e ≤ a + suc fuel → Each Some bs → Fills a e bs gs → covered a gs ≡ 0
    → ((k : ℕ) (rest : List Piece) → k ≤ e → e ≤ k + fuel → Each Some rest → Fills k e rest gs → Filled k e rest gs)
    → Filled a e bs gs
unfolding Fills
block_next fuel a e bs gs l fu sb h z more =
    let q = pick a bs (omega (arith, h a, covers_first_word a e l)) in
    let p = q.one in
    let m = perm_fills a e bs (p ∷ q.rest) gs q.same h in
    let some = each_perm Some q.same sb in
    let fit = head_fits a e p q.rest gs some.0 m in
    let s : p.start ≡ a = omega (arith, fit.0, covers_from a p q.hit) in
    first_block a e bs gs p q.rest s some.0 q.same
    (more (a + p.size) q.rest (omega (arith, fit.1, some.0)) (omega (arith, fit.1, some.0)) some.1
    (tail_fills a e p q.rest gs s (omega (arith, fit.1)) m))

-- fuel: at most so many words are left
fill : (fuel a e : ℕ) (bs gs : List Piece) → a ≤ e → e ≤ a + fuel → Each Some bs → Each Some gs → Ascends gs → Fills a e bs gs → Filled a e bs gs
unfolding Fills
fill zero a e bs gs up fu sb sg ac h =
    let none : (y : ℕ) → covered y bs + covered y gs ≡ 0 =
    λ y. h y ∙ ap (λ (n : ℕ). covers y (record { start = a; size = n })) (omega arith) ∙ covers_none y a in
    let b : bs ≡ [] = none_left bs sb (λ y. omega (arith, none y)) in
    let g : gs ≡ [] = none_left gs sg (λ y. omega (arith, none y)) in
    record {
      order = [];
      filled = omega arith;
      not_empty = tt;
      gaps_are = sym g;
      blocks_are = subst (λ (ps : List Piece). Permᴰ [] ps) (sym b) Permᴰ.nil;
    }
fill (suc fuel) a e bs [] up fu sb sg ac h =
    elim (dec_lt a e) [
      | yes l ↦ block_next fuel a e bs [] l fu sb h refl (λ k rest u f s i. fill fuel k e rest [] u f s sg ac i)
      | no l ↦ fill fuel a e bs [] up (omega arith) sb sg ac h
    ]
fill (suc fuel) a e bs (g ∷ gs) up fu sb sg ac h =
    let fit = head_fits a e g gs bs sg.0 (turn a e bs (g ∷ gs) h) in
    elim (dec_lt a g.start) [
      | yes l ↦
          block_next fuel a e bs (g ∷ gs) (omega (arith, sg.0, fit.1)) fu sb h
          (past_none a (g ∷ gs) (l, each_imp (λ k. g.start < k.start) (λ k. a < k.start) (λ k m. omega arith) gs ac.0))
          (λ k rest u f s i. fill fuel k e rest (g ∷ gs) u f s sg ac i)
      | no l ↦
          let s : g.start ≡ a = omega (arith, fit.0) in
          first_gap a e bs g gs s sg.0
          (fill fuel (a + g.size) e bs gs (omega (arith, fit.1, sg.0)) (omega (arith, fit.1, sg.0)) sb sg.1 ac.1
          (turn (a + g.size) e gs bs (tail_fills a e g gs bs s (omega (arith, fit.1)) (turn a e bs (g ∷ gs) h))))
    ]

-- a block has its back-reference at least
pub concat_some : {X : Type 0} (f : X → List Piece) → ((x : X) → Each Some (f x)) → (xs : List X) → Each Some (concat (map f xs))
concat_some f h [] = tt
concat_some f h (x ∷ xs) = each-++ Some (f x) (concat (map f xs)) (h x) (concat_some f h xs)

pub pieces_some : (d : ℕ) (p : Placed d) → Each Some (pieces d p)
pieces_some zero p = tt
pieces_some (suc d) Vacant = tt
pieces_some (suc d) (Data s b t ws) = (omega arith, tt)
pieces_some (suc d) (Codes s b ps) = (omega arith, concat_some (pieces d) (pieces_some d) ps)

pub blocks_some : (ps : List (Placed 4)) → Each Some (blocks ps)
blocks_some ps = concat_some (pieces 4) (pieces_some 4) ps

pub ordered : (A : Arrangement) → 67 ≤ A.count → Tiled A → Ordered A
unfolding Fills
ordered A l t =
    fill (A.count - 65) 65 A.count (blocks A.names) A.gaps (omega arith) (omega arith) (blocks_some A.names) t.sized t.ascends
    (λ y. t.once y)
