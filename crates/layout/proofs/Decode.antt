-- The words tell the arrangement: the one that is read off them is the sound one that they show.
use Rattle.std.proofs.lemmas.List.{map-id}
use Rattle.std.proofs.Common.{◌≡◌, ℕ, zero, suc, ◌+◌, ◌-◌, ◌*◌, ◌^◌, ◌<◌, ◌≤◌, Bool, true, false, cond, eqb, List, [], ◌∷◌, map, length, get_or, take, drop, ℤ, sym, refl, ap, ◌∙◌, subst, arith, eqb→eq}
use lib.Signed.{mag}
use lib.Dec.{not_T}
use Rattle.codeword.specs.Codeword.{field, packed, unpacked}
use Rattle.codeword.specs.declared.Codeword.{Codeword}
use Rattle.layout.specs.Arrangement.{Arrangement, Codes, Data, Piece, Placed, Vacant, blocks, concat, pieces, tree, trees}
use Rattle.layout.specs.Held.{held, held_trees}
use Rattle.layout.specs.Holds.{Chain, Displays, Shows}
use Rattle.layout.specs.Keeping.{arrangement_of, chain_of, placed_of, spot_of}
use Rattle.layout.specs.Sound.{Each, Good, Sound, Tiled, covered, covers}
use Rattle.layout.specs.Words.{first_of, labelling, total}
use Rattle.layout.proofs.Cover.{is_false, each_both, each_left, each_right, each_start, each_last, lies, below, among, above}
use Rattle.layout.proofs.Order.{Some, blocks_some, ordered}
use Rattle.layout.proofs.FreeWords.{tiles_total}
use Rattle.layout.proofs.Bridge.{Fits, along_map, along_imp, along_each, shown_held}
use Rattle.codeword.proofs.Packing.{unpacked_packed}

-- ── Every piece lies in S ──────────────────────────────────────────────

abbrev pub Inside : ℕ → Piece → Type 0
Inside count p = (65 ≤ p.start) × (p.start + p.size ≤ count)

in_S : (count y : ℕ) → 1 ≤ covers y (record { start = 65; size = count - 65 }) → (65 ≤ y) × (y < count)
in_S count y h = elim (lies y 65 (count - 65)) [ below l k ↦ absurd (omega arith) | among l k c ↦ (l, omega arith) | above l k ↦ absurd (omega arith) ]

all_inside : (count : ℕ) (ps : List Piece) → Each Some ps → ((y : ℕ) → covered y ps ≤ covers y (record { start = 65; size = count - 65 }))
    → Each (Inside count) ps
all_inside count ps e h =
    each_both (λ p. 65 ≤ p.start) (λ p. Some p × (p.start + p.size - 1 < count)) (Inside count) (λ p a b. (a, omega (arith, b.0, b.1))) ps
    (each_start (λ y. 65 ≤ y) ps e (λ y k. (in_S count y (omega (arith, h y))).0))
    (each_both Some (λ p. p.start + p.size - 1 < count) (λ p. Some p × (p.start + p.size - 1 < count)) (λ p a b. (a, b)) ps e
    (each_last (λ y. y < count) ps e (λ y k. (in_S count y (omega (arith, h y))).1)))

pub blocks_inside : (A : Arrangement) → Tiled A → Each (Inside A.count) (blocks A.names)
blocks_inside A t = all_inside A.count (blocks A.names) (blocks_some A.names) (λ y. omega (arith, t.once y))

pub gaps_inside : (A : Arrangement) → Tiled A → Each (Inside A.count) A.gaps
gaps_inside A t = all_inside A.count A.gaps t.sized (λ y. omega (arith, t.once y))

module _ (count : ℕ) where
  pub fits_each : {X : Type 0} (f : X → List Piece) (G F : X → Type 0) → ((x : X) → G x → Each (Inside count) (f x) → F x)
      → (xs : List X) → Each G xs → Each (Inside count) (concat (map f xs)) → Each F xs
  fits_each f G F h [] g i = tt
  fits_each f G F h (x ∷ xs) g i = (
    h x g.0 (each_left (Inside count) (f x) (concat (map f xs)) i),
    fits_each f G F h xs g.1 (each_right (Inside count) (f x) (concat (map f xs)) i),
  )

  pub fits_one : (d : ℕ) (p : Placed d) → Good d p → Each (Inside count) (pieces d p) → Fits count d p
  fits_one zero p g i = tt
  fits_one (suc d) Vacant g i = tt
  fits_one (suc d) (Data s b t ws) g i = (g.0, i.0.0, omega (arith, i.0.1), g.1, g.2)
  fits_one (suc d) (Codes s b ps) g i =
      (g.0, i.0.0, omega (arith, i.0.1), g.1, fits_each (pieces d) (Good d) (Fits count d) (fits_one d) ps g.2 i.1)

pub fits : (A : Arrangement) → Sound A → Each (Fits A.count 4) A.names
fits A o = fits_each A.count (pieces 4) (Good 4) (Fits A.count 4) (fits_one A.count 4) A.names o.good (blocks_inside A o.tiled)

-- ── The names ──────────────────────────────────────────────────────────

module _ (ws : List ℕ) (small : length ws ≤ 2 ^ 18) where
  placed_label : (d w F : ℕ) (b : ℤ) (q : Bool) (t n : ℕ) → 1 ≤ n → 66 ≤ F → F + n ≤ length ws → mag b < 2 ^ 15 → t ≤ 2
      → w ≡ packed (labelling F n b q t)
      → placed_of (suc d) ws w ≡ spot_of (placed_of d ws) ws (labelling F n b q t)
  placed_label d w F b q t n hn hF hi hb ht e =
      let c : Codeword = labelling F n b q t in
      ap (placed_of (suc d) ws) e
      ∙ ap (λ (z : Bool). cond z Vacant (spot_of (placed_of d ws) ws (unpacked (packed c))))
      (is_false (eqb (packed c) 0) (not_T (eqb (packed c) 0) (λ z. let k : packed c ≡ 0 = eqb→eq (packed c) 0 z in omega arith)))
      ∙ ap (spot_of (placed_of d ws) ws) (unpacked_packed c (omega arith, omega arith, omega arith) (record { sfits = hb }))

  shown_placed : (d a : ℕ) (p : Placed d) → Fits (length ws) d p → Shows d ws a p → placed_of d ws (get_or ws a 0) ≡ p
  shown_placed zero a tt g s = refl
  shown_placed (suc d) a Vacant g s = ap (placed_of (suc d) ws) s
  shown_placed (suc d) a (Data x b t vs) g s =
      placed_label d (get_or ws a 0) (x + 1) b false t (length vs) g.0 (omega (arith, g.1)) g.2 g.3 g.4 s.0
      ∙ ap (λ (k : ℕ). Data k b t (take (length vs) (drop (x + 1) ws))) (omega arith)
      ∙ ap (λ (us : List ℕ). Data x b t us)
      (sym (map-id (take (length vs) (drop (x + 1) ws))) ∙ along_map ws (λ w. w) (λ w. w) (x + 1) vs g.2 s.2 ∙ map-id vs)
  shown_placed (suc d) a (Codes x b ps) g s =
      placed_label d (get_or ws a 0) (x + 1) b true 0 (length ps) g.0 (omega (arith, g.1)) g.2 g.3 (omega arith) s.0
      ∙ ap (λ (k : ℕ). Codes k b (map (placed_of d ws) (take (length ps) (drop (x + 1) ws)))) (omega arith)
      ∙ ap (λ (us : List (Placed d)). Codes x b us)
      (along_map ws (placed_of d ws) (λ p. p) (x + 1) ps g.2
      (along_imp (Shows d ws) (λ y p. Fits (length ws) d p) (λ y p. placed_of d ws (get_or ws y 0) ≡ p)
      (λ y p h k. shown_placed d y p k h) (x + 1) ps s.2 (along_each (Fits (length ws) d) (x + 1) ps g.4))
      ∙ map-id ps)

-- ── The chain ──────────────────────────────────────────────────────────

abbrev FirstLt : List Piece → Type 0
FirstLt gs = first_of gs < 2 ^ 18

first_small : (count : ℕ) → count ≤ 2 ^ 18 → (gs : List Piece) → Each Some gs → Each (Inside count) gs → FirstLt gs
first_small count h [] e i = omega arith
first_small count h (g ∷ gs) e i = omega (arith, e.0, i.0.1)

low_field : (a b : ℕ) → a < 2 ^ 18 → field 0 18 (a + 2 ^ 18 * b) ≡ a
low_field a b h = omega arith

high_field : (a b : ℕ) → a < 2 ^ 18 → b < 2 ^ 18 → field 18 18 (a + 2 ^ 18 * b) ≡ b
high_field a b h k = omega arith

chain_step : (k : ℕ) (ws : List ℕ) (a n next : ℕ) → 1 ≤ a → n < 2 ^ 18 → next < 2 ^ 18 → get_or ws a 0 ≡ n + 2 ^ 18 * next
    → chain_of (suc k) ws a ≡ record { start = a; size = n } ∷ chain_of k ws next
chain_step k ws zero n next h l m e = absurd (omega arith)
chain_step k ws (suc a) n next h l m e =
    ap (λ (w : ℕ). record { start = suc a; size = field 0 18 w } ∷ chain_of k ws (field 18 18 w)) e
    ∙ ap (λ (z : ℕ). record { start = suc a; size = z } ∷ chain_of k ws (field 18 18 (n + 2 ^ 18 * next))) (low_field n next l)
    ∙ ap (λ (z : ℕ). record { start = suc a; size = n } ∷ chain_of k ws z) (high_field n next l m)

chain_end : (k : ℕ) (ws : List ℕ) → chain_of k ws 0 ≡ []
chain_end zero ws = refl
chain_end (suc k) ws = refl

chain_read : (k count : ℕ) (ws : List ℕ) (gs : List Piece) → count ≤ 2 ^ 18 → length gs ≤ k → Each Some gs → Each (Inside count) gs → Chain ws gs
    → chain_of k ws (first_of gs) ≡ gs
chain_read k count ws [] h l e i c = chain_end k ws
chain_read zero count ws (g ∷ gs) h l e i c = absurd (omega arith)
chain_read (suc k) count ws (g ∷ gs) h l e i c =
    chain_step k ws g.start g.size (first_of gs) (omega (arith, i.0.0)) (omega (arith, i.0.0, i.0.1)) (first_small count h gs e.1 i.1) c.0
    ∙ ap (λ (ps : List Piece). g ∷ ps) (chain_read k count ws gs h (omega arith) e.1 i.1 c.2)

length_total : (gs : List Piece) → Each Some gs → length gs ≤ total gs
length_total [] e = omega arith
length_total (g ∷ gs) e = omega (arith, e.0, length_total gs e.1)

pub total_within : (A : Arrangement) → Sound A → total A.gaps + 65 ≤ A.count
total_within A o =
    let r = ordered A o.least o.tiled in
    omega (arith, tiles_total 65 r.order, ap total r.gaps_are, r.filled)

-- ── The whole ──────────────────────────────────────────────────────────

module _ {Y : Type 0} (ws : List ℕ) (A : Arrangement) (o : Sound A) (s : Displays ws A) (f : ℕ → Y) (g : Placed 4 → Y)
    (one : (a : ℕ) (p : Placed 4) → Fits (length ws) 4 p → Shows 4 ws a p → f (get_or ws a 0) ≡ g p) where
  names_read : map f (take 64 (drop 1 ws)) ≡ map g A.names
  names_read =
      let fit : Each (Fits (length ws) 4) A.names = subst (λ (n : ℕ). Each (Fits n 4) A.names) (sym s.count) (fits A o) in
      ap (λ (n : ℕ). map f (take n (drop 1 ws))) (sym o.names_64)
      ∙ along_map ws f g 1 A.names (omega (arith, o.names_64, o.least, s.count))
      (along_imp (Shows 4 ws) (λ y p. Fits (length ws) 4 p) (λ y p. f (get_or ws y 0) ≡ g p)
      (λ y p h k. one y p k h) 1 A.names s.names (along_each (Fits (length ws) 4) 1 A.names fit))

-- a list shows at most one sound arrangement, and that is read off it
pub told : (ws : List ℕ) (A : Arrangement) → Sound A → Displays ws A → arrangement_of ws ≡ A
unfolding arrangement_of
told ws A o s =
    let small : length ws ≤ 2 ^ 18 = omega (arith, s.count, o.most) in
    let names : map (placed_of 4 ws) (take 64 (drop 1 ws)) ≡ A.names =
    names_read ws A o s (placed_of 4 ws) (λ p. p) (shown_placed ws small 4) ∙ map-id A.names in
    let inside = gaps_inside A o.tiled in
    let head : field 18 18 (get_or ws 0 0) ≡ first_of A.gaps =
    ap (field 18 18) s.header
    ∙ high_field (total A.gaps) (first_of A.gaps) (omega (arith, total_within A o, o.most))
    (first_small A.count o.most A.gaps o.tiled.sized inside) in
    let gaps : chain_of (length ws) ws (field 18 18 (get_or ws 0 0)) ≡ A.gaps =
    ap (chain_of (length ws) ws) head
    ∙ chain_read (length ws) A.count ws A.gaps o.most
    (omega (arith, s.count, total_within A o, length_total A.gaps o.tiled.sized)) o.tiled.sized inside s.chain in
    λ i. record { count = s.count i; names = names i; gaps = gaps i }

pub trees_told : (ws : List ℕ) (A : Arrangement) → Sound A → Displays ws A → held_trees ws ≡ trees A
trees_told ws A o s =
    let small : length ws ≤ 2 ^ 18 = omega (arith, s.count, o.most) in
    names_read ws A o s (held 4 ws) (tree 4) (shown_held ws small 4)
