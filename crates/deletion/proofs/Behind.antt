-- A block that elements have left: those before stay, those behind went down, and its codeword says how many there are.
use Rattle.std.proofs.Common.{◌≡◌, ℕ, suc, ◌+◌, ◌-◌, ◌<◌, ◌≤◌, List, [], ◌∷◌, ◌++◌, map, length, get_or, take, drop, set, sym, ap, ◌∙◌, subst, inl, inr, append_assoc, arith, length-drop, length-set, length-take, get_or-set_other, get_or-set_same}
use Rattle.std.proofs.lemmas.Bool.{cases_lt}
use Rattle.ledger.specs.Lists.{delete_at}
use Rattle.layout.specs.Arrangement.{Piece, concat}
use Rattle.layout.specs.Chains.{Chained}
use Rattle.layout.specs.Released.{run}
use Rattle.layout.specs.Sound.{Each, covered, covers}
use Rattle.layout.specs.Words.{Cell, Says, back, cells_along, word}
use Rattle.layout.proofs.Cells.{Shown}
use Rattle.layout.proofs.Chains.{chain_same, outside}
use Rattle.layout.proofs.Cover.{covers_split, each-++, each_left, each_right}
use Rattle.layout.proofs.Frame.{cell, other_cells}
use Rattle.layout.proofs.Freed.{word_here}
use Rattle.layout.proofs.Hits.{along_hits, here, here_yes, hits}
use Rattle.layout.proofs.Kept.{cov-++}
use Rattle.layout.proofs.GivenUp.{delete_covered}
use Rattle.layout.proofs.Rewritten.{each_kept}

-- gaps whose words, and the header, are as they were
chained_kept : (ws vs : List ℕ) (gs : List Piece) → length vs ≡ length ws → ((y : ℕ) → 1 ≤ here y 0 + covered y gs → get_or vs y 0 ≡ get_or ws y 0)
    → Chained ws gs → Chained vs gs
chained_kept ws vs gs n k G = record {
  few = omega (arith, n, G.few);
  rising = rw n G.rising;
  header = k 0 (omega (arith, here_yes 0)) ∙ G.header;
  chain = chain_same ws vs 65 gs (length ws) G.rising
      (λ y o. elim (cases_lt 0 (covered y gs)) [ inl l ↦ k y (omega arith) | inr l ↦ absurd (o (outside y gs (omega arith))) ]) G.chain;
}

module _ {X : Type 0} (f : ℕ → X → List Cell) where
  cells-++ : (a : ℕ) (xs zs : List X) → cells_along f a (xs ++ zs) ≡ cells_along f a xs ++ cells_along f (a + length xs) zs
  cells-++ a [] zs = ap (λ (k : ℕ). cells_along f k zs) (omega arith)
  cells-++ a (x ∷ xs) zs =
      ap (λ (cs : List Cell). f a x ++ cs)
      (cells-++ (a + 1) xs zs ∙ ap (λ (k : ℕ). cells_along f (a + 1) xs ++ cells_along f k zs) (let e : a + 1 + length xs ≡ a + suc (length xs) = omega arith in e))
      ∙ sym (append_assoc (f a x) (cells_along f (a + 1) xs) (cells_along f (a + suc (length xs)) zs))

-- The block of the codeword at an address begins at s; n elements leave from element k on. No address is that of two words, and gs' are
-- the gaps once the blocks below those that leave are linked.
module _ {X : Type 0} (f : ℕ → X → List Cell) (h : X → List Piece) (one : (y a : ℕ) (x : X) → hits y (f a x) ≡ here y a + covered y (h x))
    (before after : List Cell) (at s k n : ℕ) (xs : List X) (gs gs' : List Piece) (inside : k + n ≤ length xs)
    (once : (z : ℕ) → here z 0 + covered z gs + hits z before + (here z at + (covers z (run s (length xs + 1)) + covered z (concat (map h xs)))) + hits z after ≤ 1)
    (linked : (z : ℕ) → covered z gs' ≡ covered z (concat (map h (take n (drop k xs)))) + covered z gs) where
  -- how many are behind those that leave
  abbrev c : ℕ
  c = length xs - (k + n)

  abbrev a : ℕ
  a = s + 1 + k

  abbrev front : List X
  front = take k xs

  abbrev leaving : List X
  leaving = take n (drop k xs)

  abbrev behind : List X
  behind = drop (k + n) xs

  abbrev below : ℕ → List X → ℕ
  below z ys = covered z (concat (map h ys))

  -- every address is that of at most one word: header, gaps, other cells, the codeword, the back-reference, the three parts, and what lies
  -- below each
  pub apart : (z : ℕ) → here z 0 + covered z gs + hits z before + here z at + here z s
      + (covers z (run (s + 1) k) + covers z (run a n) + covers z (run (a + n) c))
      + (below z front + below z leaving + below z behind) + hits z after ≤ 1
  apart z =
      omega (
        arith,
        once z,
        delete_covered z h k n xs,
        cov-++ z h front behind,
        ap (λ (m : ℕ). covers z (run s m)) (let e : length xs + 1 ≡ 1 + (k + (n + c)) = omega arith in e),
        covers_split z s 1 (k + (n + c)),
        covers_split z (s + 1) k (n + c),
        covers_split z (s + 1 + k) n c,
        word_here z s,
      )

  pub run_both : (z : ℕ) → covers z (run a (n + c)) ≡ covers z (run a n) + covers z (run (a + n) c)
  run_both z = covers_split z a n c

  front_hits : (z : ℕ) → hits z (cells_along f (s + 1) front) ≡ covers z (run (s + 1) k) + below z front
  front_hits z =
      along_hits z f h (one z) (s + 1) front
      ∙ ap (λ (m : ℕ). covers z (run (s + 1) m) + below z front) (let e : length front ≡ k = omega (arith, length-take k xs) in e)

  behind_long : length behind ≡ c
  behind_long = length-drop (k + n) xs

  behind_hits : (z b : ℕ) → hits z (cells_along f b behind) ≡ covers z (run b c) + below z behind
  behind_hits z b = along_hits z f h (one z) b behind ∙ ap (λ (m : ℕ). covers z (run b m) + below z behind) behind_long

  -- us are the words once what lies below the elements that leave is in the gaps; vs once those behind went down
  module _ (ws us vs : List ℕ) (old new : Says) (long : length us ≡ length ws) (same_long : length vs ≡ length us) (there : at < length ws)
      (freed : (z : ℕ) → 1 ≤ z → covers z (run a n) + below z leaving + covered z gs ≡ 0 → get_or us z 0 ≡ get_or ws z 0)
      (chained : Chained us gs')
      (all : Each (Shown ws) (before ++ (cell at old ∷ cell s (back at) ∷ cells_along f (s + 1) xs ++ after)))
      (front_shown : Each (Shown ws) (cells_along f (s + 1) front)) (behind_shown : Each (Shown ws) (cells_along f (a + n) behind))
      (down : Each (Shown us) (cells_along f (a + n) behind) → Each (Shown vs) (cells_along f a behind))
      (stay : Each (Shown us) (cells_along f (a + n) behind) → (z : ℕ) → covers z (run a (n + c)) ≡ 0 → below z behind ≡ 0 → get_or vs z 0 ≡ get_or us z 0) where
    abbrev zs : List ℕ
    zs = set vs at (word new)

    past_header : (z : ℕ) → here z 0 ≡ 0 → 1 ≤ z
    past_header z e = elim (cases_lt 0 z) [
      | inl l ↦ l
      | inr l ↦ absurd (omega (arith, e, here_yes z, ap (here z) (let q : z ≡ 0 = omega arith in q)))
    ]

    -- those behind are shown as before once what leaves is in the gaps
    behind_there : Each (Shown us) (cells_along f (a + n) behind)
    behind_there =
        each_kept ws us (cells_along f (a + n) behind)
        (λ z l. let x = behind_hits z (a + n) in let y = apart z in freed z (past_header z (omega arith)) (omega arith)) behind_shown

    elsewhere : (z : ℕ) → here z at ≡ 0 → get_or zs z 0 ≡ get_or vs z 0
    elsewhere z e = get_or-set_other vs at z (word new) 0 (λ q. omega (arith, here_yes at, subst (λ (m : ℕ). here m at ≡ 0) q e))

    -- a word that is neither the codeword nor moved, nor in a block below those behind
    kept : (z : ℕ) → here z at ≡ 0 → covers z (run a (n + c)) ≡ 0 → below z behind ≡ 0 → get_or zs z 0 ≡ get_or us z 0
    kept z e p q = elsewhere z e ∙ stay behind_there z p q

    -- nor freed
    still : (z : ℕ) → here z 0 ≡ 0 → covered z gs ≡ 0 → here z at ≡ 0 → covers z (run a n) ≡ 0 → covers z (run (a + n) c) ≡ 0 → below z leaving ≡ 0 → below z behind ≡ 0
        → get_or zs z 0 ≡ get_or ws z 0
    still z e g w p q l b = kept z w (omega (arith, run_both z)) b ∙ freed z (past_header z e) (omega arith)

    one_of : (cs : List Cell)
        → ((z : ℕ) → 1 ≤ hits z cs → here z 0 + covered z gs + here z at + covers z (run a n) + covers z (run (a + n) c) + below z leaving + below z behind ≡ 0)
        → Each (Shown ws) cs → Each (Shown zs) cs
    one_of cs o e =
        each_kept ws zs cs
        (λ z l.
        let x = o z l in still z (omega arith) (omega arith) (omega arith) (omega arith) (omega arith) (omega arith) (omega arith)) e

    closed_chained : Chained zs gs'
    closed_chained =
        chained_kept us zs gs' (length-set vs at (word new) ∙ same_long)
        (λ y l. let x = apart y in let z = linked y in kept y (omega arith) (omega (arith, run_both y)) (omega arith)) chained

    closed_shown : Each (Shown zs) (before ++ (cell at new ∷ cell s (back at) ∷ cells_along f (s + 1) (delete_at k n xs) ++ after))
    closed_shown =
        let own = each_right (Shown ws) before (cell at old ∷ cell s (back at) ∷ cells_along f (s + 1) xs ++ after) all in
        let e : cells_along f (s + 1) (delete_at k n xs) ≡ cells_along f (s + 1) front ++ cells_along f a behind =
        cells-++ f (s + 1) front behind
        ∙ ap (λ (m : ℕ). cells_along f (s + 1) front ++ cells_along f (s + 1 + m) behind) (let q : length front ≡ k = omega (arith, length-take k xs) in q) in
        each-++ (Shown zs) before (cell at new ∷ cell s (back at) ∷ cells_along f (s + 1) (delete_at k n xs) ++ after)
        (one_of before (λ z l. omega (arith, apart z)) (each_left (Shown ws) before (cell at old ∷ cell s (back at) ∷ cells_along f (s + 1) xs ++ after) all)) (
          get_or-set_same vs at (word new) 0 (omega arith),
          (
            (one_of (cell s (back at) ∷ []) (λ z l. omega (arith, apart z)) (own.1.0, tt)).0,
            each-++ (Shown zs) (cells_along f (s + 1) (delete_at k n xs)) after
                (subst (Each (Shown zs)) (sym e)
                (each-++ (Shown zs) (cells_along f (s + 1) front) (cells_along f a behind)
                (one_of (cells_along f (s + 1) front) (λ z l. omega (arith, apart z, front_hits z)) front_shown)
                (other_cells vs at (word new) (cells_along f a behind)
                (omega (
                  arith,
                  apart at,
                  here_yes at,
                  behind_hits at a,
                  covers_split at a c n,
                  run_both at,
                  ap (λ (m : ℕ). covers at (run a m)) (let q : c + n ≡ n + c = omega arith in q),
                ))
                (down behind_there))))
                (one_of after (λ z l. omega (arith, apart z)) (each_right (Shown ws) (cells_along f (s + 1) xs) after own.1.1)),
          ),
        )

    -- both, and the length, of words that are equal to these
    pub closed : (us' : List ℕ) → us' ≡ zs → Chained us' gs' × Each (Shown us') (before ++ (cell at new ∷ cell s (back at) ∷ cells_along f (s + 1) (delete_at k n xs) ++ after))
        × (length us' ≡ length ws)
    closed us' e =
        subst (λ (l : List ℕ). Chained l gs' × Each (Shown l) (before ++ (cell at new ∷ cell s (back at) ∷ cells_along f (s + 1) (delete_at k n xs) ++ after))
        × (length l ≡ length ws)) (sym e) (closed_chained, closed_shown, length-set vs at (word new) ∙ same_long ∙ long)
