-- Words display an arrangement exactly when they show each of its cells and are 0 inside its gaps; so a change of words is a change of cells.
use Rattle.std.proofs.Common.{◌≡◌, ℕ, ◌+◌, ◌-◌, ◌<◌, ◌≤◌, List, [], ◌∷◌, ◌++◌, length, get_or, set, sym, ◌∙◌, subst, arith, length-set, get_or-set_other, get_or-set_same}
use Rattle.layout.specs.Arrangement.{Arrangement, Piece, Placed}
use Rattle.layout.specs.Holds.{Chain, Displays, Shows}
use Rattle.layout.specs.Sound.{Each, Sound, covers}
use Rattle.layout.specs.Words.{Cell, Says, cells, cells_along, cells_of, gap_cells, word}
use Rattle.layout.proofs.Cells.{Shown, cells→shows, from_cells, shows→cells, to_cells}
use Rattle.layout.proofs.Cover.{Lies, above, among, below, covers_yes, each-++, each_left, each_right, lies}
use Rattle.layout.proofs.Hits.{here, here_yes, hits, hits-++, inner, one_word_each}

-- the cells of the names
abbrev pub live : List (Placed 4) → List Cell
live ns = cells_along (cells 4) 1 ns

chain_shown : (ws : List ℕ) (gs : List Piece) → Each (Shown ws) (gap_cells gs) → ((y : ℕ) → 1 ≤ inner y gs → get_or ws y 0 ≡ 0) → Chain ws gs
chain_shown ws [] e h = tt
chain_shown ws (g ∷ gs) e h = (
  e.0,
  (λ k lo hi. h (g.start + k)
      (omega (arith, covers_yes (g.start + k) (g.start + 1) (g.size - 1) (omega arith) (omega arith)))),
  chain_shown ws gs e.1 (λ y k. h y (omega arith)),
)

pub displays : (ws : List ℕ) (A : Arrangement) → length ws ≡ A.count → Each (Shown ws) (cells_of A) → ((y : ℕ) → 1 ≤ inner y A.gaps → get_or ws y 0 ≡ 0)
    → Displays ws A
displays ws A n all zero = record {
  count = n;
  header = all.0;
  names = from_cells (Shown ws) (Shows 4 ws) (cells 4) (λ y p. cells→shows ws 4 y p) 1 A.names
      (each_right (Shown ws) (gap_cells A.gaps) (live A.names) all.1);
  chain = chain_shown ws A.gaps (each_left (Shown ws) (gap_cells A.gaps) (live A.names) all.1) zero;
}

gap_shown : (ws : List ℕ) (gs : List Piece) → Chain ws gs → Each (Shown ws) (gap_cells gs)
gap_shown ws [] c = tt
gap_shown ws (g ∷ gs) c = (c.0, gap_shown ws gs c.2)

pub to_shown : (ws : List ℕ) (A : Arrangement) → Displays ws A → Each (Shown ws) (cells_of A)
to_shown ws A s = (
  s.header,
  each-++ (Shown ws) (gap_cells A.gaps) (live A.names) (gap_shown ws A.gaps s.chain)
      (to_cells (Shown ws) (Shows 4 ws) (cells 4) (shows→cells ws 4) 1 A.names s.names),
)

pub inner_zero : (ws : List ℕ) (gs : List Piece) → Chain ws gs → (y : ℕ) → 1 ≤ inner y gs → get_or ws y 0 ≡ 0
inner_zero ws [] c y h = absurd (omega arith)
inner_zero ws (g ∷ gs) c y h = pick (lies y (g.start + 1) (g.size - 1)) (λ k. inner_zero ws gs c.2 y k)
  where
    pick : Lies y (g.start + 1) (g.size - 1) (covers y (record { start = g.start + 1; size = g.size - 1 })) → (1 ≤ inner y gs → get_or ws y 0 ≡ 0) → get_or ws y 0 ≡ 0
    pick (below l e) f = f (omega arith)
    pick (above l e) f = f (omega arith)
    pick (among lo hi e) f = subst (λ (k : ℕ). get_or ws k 0 ≡ 0) (omega arith) (c.1 (y - g.start) (omega arith) (omega arith))

-- ── Other names over the same gaps ─────────────────────────────────────

module _ (ws vs : List ℕ) (A : Arrangement) (o : Sound A) (s : Displays ws A)
    (kept : (y : ℕ) → hits y (live A.names) ≡ 0 → get_or vs y 0 ≡ get_or ws y 0) where
  front_kept : (fs : List Cell) → ((y : ℕ) → hits y fs + hits y (live A.names) ≤ 1) → Each (Shown ws) fs → Each (Shown vs) fs
  front_kept [] h e = tt
  front_kept (c ∷ fs) h e = (
    kept c.at (omega (arith, h c.at, here_yes c.at)) ∙ e.0,
    front_kept fs (λ y. omega (arith, h y)) e.1,
  )

  -- where every word that is not a cell of the names is as it was, and the cells of other names are shown, these are displayed
  pub redisplayed : (ns : List (Placed 4)) → length vs ≡ length ws → Each (Shown vs) (live ns)
      → Displays vs (record { count = A.count; names = ns; gaps = A.gaps })
  redisplayed ns n e =
      let gs = gap_cells A.gaps in
      let all = to_shown ws A s in
      let once : (y : ℕ) → here y 0 + (hits y gs + hits y (live A.names)) + inner y A.gaps ≤ 1 =
      λ y. omega (arith, one_word_each A o y, hits-++ y gs (live A.names)) in
      displays vs (record { count = A.count; names = ns; gaps = A.gaps }) (n ∙ s.count) (
        kept 0 (omega (arith, once 0, here_yes 0)) ∙ s.header,
        each-++ (Shown vs) gs (live ns) (front_kept gs (λ y. omega (arith, once y)) (each_left (Shown ws) gs (live A.names) all.1)) e,
      )
      (λ y k. kept y (omega (arith, once y)) ∙ inner_zero ws A.gaps s.chain y k)

-- ── One word, one cell ─────────────────────────────────────────────────

abbrev pub cell : ℕ → Says → Cell
cell y x = record { at = y; says = x }

pub other_cells : (ws : List ℕ) (y w : ℕ) (cs : List Cell) → hits y cs ≡ 0 → Each (Shown ws) cs → Each (Shown (set ws y w)) cs
other_cells ws y w [] h e = tt
other_cells ws y w (c ∷ cs) h e = (
  get_or-set_other ws y c.at w 0 (λ z. let k : here y y ≡ 0 = subst (λ (n : ℕ). here y n ≡ 0) z (omega arith) in omega (arith, here_yes y)) ∙ e.0,
  other_cells ws y w cs (omega arith) e.1,
)

-- a cell says something else once its word is written
pub one_cell : (ws : List ℕ) (xs zs : List Cell) (y : ℕ) (x x' : Says) → y < length ws → hits y (xs ++ (cell y x ∷ zs)) ≤ 1
    → Each (Shown ws) (xs ++ (cell y x ∷ zs)) → Each (Shown (set ws y (word x'))) (xs ++ (cell y x' ∷ zs))
one_cell ws [] zs y x x' l h e = (get_or-set_same ws y (word x') 0 l, other_cells ws y (word x') zs (omega (arith, here_yes y)) e.1)
one_cell ws (c ∷ xs) zs y x x' l h e = (
  (other_cells ws y (word x') (c ∷ []) (omega (arith, hits-++ y xs (cell y x ∷ zs), here_yes y)) (e.0, tt)).0,
  one_cell ws xs zs y x x' l (omega arith) e.1,
)

-- one live word is written, and one cell says something else: the words display the arrangement with that cell
pub wrote : (ws : List ℕ) (A : Arrangement) → Sound A → Displays ws A → (ns : List (Placed 4)) (xs zs : List Cell) (y : ℕ) (x x' : Says) → y < length ws
    → live A.names ≡ xs ++ (cell y x ∷ zs) → live ns ≡ xs ++ (cell y x' ∷ zs)
    → Displays (set ws y (word x')) (record { count = A.count; names = ns; gaps = A.gaps })
wrote ws A o s ns xs zs y x x' l e e' =
    let gs = gap_cells A.gaps in
    let shown : Each (Shown ws) (live A.names) = each_right (Shown ws) gs (live A.names) (to_shown ws A s).1 in
    let once : hits y (live A.names) ≤ 1 = omega (arith, one_word_each A o y, hits-++ y gs (live A.names)) in
    let hit : 1 ≤ hits y (live A.names) =
    subst (λ (cs : List Cell). 1 ≤ hits y cs) (sym e) (omega (arith, hits-++ y xs (cell y x ∷ zs), here_yes y)) in
    redisplayed ws (set ws y (word x')) A o s
    (λ k h. get_or-set_other ws y k (word x') 0 (λ z. let n : hits y (live A.names) ≡ 0 = subst (λ (m : ℕ). hits m (live A.names) ≡ 0) z h in omega arith))
    ns (length-set ws y (word x'))
    (subst (Each (Shown (set ws y (word x')))) (sym e')
    (one_cell ws xs zs y x x' l (subst (λ (cs : List Cell). hits y cs ≤ 1) e once) (subst (Each (Shown ws)) e shown)))
