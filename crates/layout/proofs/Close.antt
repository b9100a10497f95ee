-- Closing up keeps the tiling.
use Rattle.std.proofs.Common.{◌≡◌, ℕ, zero, suc, ◌+◌, ◌-◌, ◌≤◌, Bool, cond, ltb, List, [], ◌∷◌, ◌++◌, map, length, sym, refl, ap, ◌∙◌, subst, arith, lt→ltb}
use mathlib.Core.List.Permᴰ
use mathlib.Core.List.{map-map, map-append, Permᴰ}
use lib.Arith.{le→nltb}
use lib.ListN.{length-map}
use Rattle.layout.specs.Arrangement.{Arrangement, Codes, Data, Piece, Placed, Vacant, concat, pieces}
use Rattle.layout.specs.Gaps.{a_gap}
use Rattle.layout.specs.Placement.{closed_up, gap_below, move}
use Rattle.layout.specs.Sound.{Each}
use Rattle.layout.specs.Words.{total}
use Rattle.ledger.specs.Trees.{sum}
use Rattle.layout.proofs.Order.{Tile, idle, used, size, idles, useds, Ordered}
use Rattle.layout.proofs.Cover.{is_true, is_false, each_imp}

abbrev pub shift : (ℕ → ℕ) → Piece → Piece
shift to p = record { start = to p.start; size = p.size }

concat_shift : {X : Type 0} (f g : X → List Piece) (h : Piece → Piece) → ((x : X) → f x ≡ map h (g x)) → (xs : List X)
    → concat (map f xs) ≡ map h (concat (map g xs))
concat_shift f g h e [] = refl
concat_shift f g h e (x ∷ xs) =
    ap (λ (ps : List Piece). ps ++ concat (map f xs)) (e x)
    ∙ ap (λ (ps : List Piece). map h (g x) ++ ps) (concat_shift f g h e xs)
    ∙ sym (map-append h (g x) (concat (map g xs)))

pub pieces_move : (to : ℕ → ℕ) (d : ℕ) (p : Placed d) → pieces d (move to d p) ≡ map (shift to) (pieces d p)
pieces_move to zero p = refl
pieces_move to (suc d) Vacant = refl
pieces_move to (suc d) (Data s b t ws) = refl
pieces_move to (suc d) (Codes s b ps) =
    ap (λ (n : ℕ). record { start = to s; size = n + 1 } ∷ concat (map (pieces d) (map (move to d) ps))) (length-map ps (move to d))
    ∙ ap (λ (qs : List Piece). record { start = to s; size = length ps + 1 } ∷ qs)
    (ap concat (map-map (pieces d) (move to d) ps)
    ∙ concat_shift (λ p. pieces d (move to d p)) (pieces d) (shift to) (pieces_move to d) ps)

pub all_move : (to : ℕ → ℕ) (ps : List (Placed 4)) → concat (map (pieces 4) (map (move to 4) ps)) ≡ map (shift to) (concat (map (pieces 4) ps))
all_move to ps =
    ap concat (map-map (pieces 4) (move to 4) ps)
    ∙ concat_shift (λ p. pieces 4 (move to 4 p)) (pieces 4) (shift to) (pieces_move to 4) ps

-- ── In the order of addresses ──────────────────────────────────────────

map_each : (f g : Piece → Piece) (P : Piece → Type 0) → ((p : Piece) → P p → f p ≡ g p) → (ps : List Piece) → Each P ps → map f ps ≡ map g ps
map_each f g P h [] e = refl
map_each f g P h (p ∷ ps) e = ap (λ (q : Piece). q ∷ map f ps) (h p e.0) ∙ ap (λ (qs : List Piece). g p ∷ qs) (map_each f g P h ps e.1)

pub useds_from : (a : ℕ) (ts : List Tile) → Each (λ p. a ≤ p.start) (useds a ts)
useds_from a [] = tt
useds_from a (idle n ∷ ts) = each_imp (λ p. a + n ≤ p.start) (λ p. a ≤ p.start) (λ p h. omega arith) (useds (a + n) ts) (useds_from (a + n) ts)
useds_from a (used n ∷ ts) =
    (omega arith, each_imp (λ p. a + n ≤ p.start) (λ p. a ≤ p.start) (λ p h. omega arith) (useds (a + n) ts) (useds_from (a + n) ts))

pub below_none : (x a : ℕ) (ts : List Tile) → x ≤ a → gap_below x (idles a ts) ≡ 0
below_none x a [] h = refl
below_none x a (idle n ∷ ts) h =
    let e : cond (ltb a x) n 0 ≡ 0 = ap (λ (q : Bool). cond q n 0) (is_false (ltb a x) (le→nltb a x h)) in
    omega (arith, e, below_none x (a + n) ts (omega arith))
below_none x a (used n ∷ ts) h = below_none x (a + n) ts (omega arith)

abbrev close : List Tile → List Tile
close [] = []
close (idle n ∷ ts) = close ts
close (used n ∷ ts) = used n ∷ close ts

-- g words of gaps lie below address a; the blocks from there on go down by those and by the gaps between
useds_close : (a g : ℕ) (ts : List Tile) → g ≤ a → Each (λ t. 1 ≤ size t) ts
    → useds (a - g) (close ts) ≡ map (shift (λ s. s - (g + gap_below s (idles a ts)))) (useds a ts)
useds_close a g [] h e = refl
useds_close a g (idle n ∷ ts) h e =
    ap (λ (k : ℕ). useds k (close ts)) (omega arith)
    ∙ useds_close (a + n) (g + n) ts (omega arith) e.1
    ∙ map_each _ _ (λ p. a + n ≤ p.start)
    (λ p k.
    let c : cond (ltb a p.start) n 0 ≡ n =
    ap (λ (q : Bool). cond q n 0) (is_true (ltb a p.start) (lt→ltb a p.start (omega (arith, e.0)))) in
    let same : p.start - (g + n + gap_below p.start (idles (a + n) ts))
    ≡ p.start - (g + (cond (ltb a p.start) n 0 + gap_below p.start (idles (a + n) ts))) = omega arith in
    ap (λ (k : ℕ). record { start = k; size = p.size }) same)
    (useds (a + n) ts) (useds_from (a + n) ts)
useds_close a g (used n ∷ ts) h e =
    let first : a - g ≡ a - (g + gap_below a (idles (a + n) ts)) = omega (arith, below_none a (a + n) ts (omega arith)) in
    ap (λ (k : ℕ). record { start = k; size = n } ∷ useds (a - g + n) (close ts)) first
    ∙ ap (λ (ps : List Piece). record { start = a - (g + gap_below a (idles (a + n) ts)); size = n } ∷ ps)
    (ap (λ (k : ℕ). useds k (close ts)) (omega arith) ∙ useds_close (a + n) g ts (omega arith) e.1)

-- ── One gap behind them ────────────────────────────────────────────────

abbrev end_tile : ℕ → List Tile
end_tile zero = []
end_tile (suc n) = idle (suc n) ∷ []

useds_end : (a : ℕ) (ts : List Tile) (n : ℕ) → useds a (close ts ++ end_tile n) ≡ useds a (close ts)
useds_end a [] zero = refl
useds_end a [] (suc n) = refl
useds_end a (idle m ∷ ts) n = useds_end a ts n
useds_end a (used m ∷ ts) n = ap (λ (ps : List Piece). record { start = a; size = m } ∷ ps) (useds_end (a + m) ts n)

idles_end : (a : ℕ) (ts : List Tile) (n : ℕ) → idles a (close ts ++ end_tile n) ≡ a_gap (a + sum (map size (close ts))) n
idles_end a [] zero = refl
idles_end a [] (suc n) = ap (λ (k : ℕ). a_gap k (suc n)) (omega arith)
idles_end a (idle m ∷ ts) n = idles_end a ts n
idles_end a (used m ∷ ts) n = idles_end (a + m) ts n ∙ ap (λ (k : ℕ). a_gap k n) (omega arith)

sizes_end : (ts : List Tile) (n : ℕ) → sum (map size (close ts ++ end_tile n)) ≡ sum (map size (close ts)) + n
sizes_end [] zero = refl
sizes_end [] (suc n) = omega arith
sizes_end (idle m ∷ ts) n = sizes_end ts n
sizes_end (used m ∷ ts) n = omega (arith, sizes_end ts n)

sizes_close : (a : ℕ) (ts : List Tile) → sum (map size (close ts)) + total (idles a ts) ≡ sum (map size ts)
sizes_close a [] = refl
sizes_close a (idle m ∷ ts) = omega (arith, sizes_close (a + m) ts)
sizes_close a (used m ∷ ts) = omega (arith, sizes_close (a + m) ts)

each_end : (ts : List Tile) (n : ℕ) → Each (λ t. 1 ≤ size t) ts → Each (λ t. 1 ≤ size t) (close ts ++ end_tile n)
each_end [] zero e = tt
each_end [] (suc n) e = (omega arith, tt)
each_end (idle m ∷ ts) n e = each_end ts n e.1
each_end (used m ∷ ts) n e = (e.0, each_end ts n e.1)

pub closed_up_ordered : (A : Arrangement) → Ordered A → Ordered (closed_up A)
closed_up_ordered A t =
    let ts = t.order in
    let n = total A.gaps in
    let g : total (idles 65 ts) ≡ n = ap total t.gaps_are in
    let down : ℕ → ℕ = λ s. s - gap_below s A.gaps in
    let same : useds 65 (close ts) ≡ map (shift down) (useds 65 ts) =
    useds_close 65 0 ts (omega arith) t.not_empty
    ∙ ap (λ (gs : List Piece). map (shift (λ s. s - (0 + gap_below s gs))) (useds 65 ts)) t.gaps_are
    ∙ map_each _ _ (λ p. 65 ≤ p.start)
    (λ p k. ap (λ (m : ℕ). record { start = p.start - m; size = p.size }) (omega arith)) (useds 65 ts) (useds_from 65 ts) in
    record {
      order = close ts ++ end_tile n;
      filled = omega (arith, sizes_end ts n, sizes_close 65 ts, g, t.filled);
      not_empty = each_end ts n t.not_empty;
      gaps_are = idles_end 65 ts n
          ∙ ap (λ (k : ℕ). a_gap k n) (omega (arith, sizes_close 65 ts, g, t.filled));
      blocks_are =
          subst (λ (ps : List Piece). Permᴰ (useds 65 (close ts ++ end_tile n)) ps) (sym (all_move down A.names))
          (subst (λ (ps : List Piece). Permᴰ ps (map (shift down) (concat (map (pieces 4) A.names))))
          (sym (useds_end 65 ts n ∙ same))
          (Permᴰ.map (shift down) t.blocks_are));
    }
