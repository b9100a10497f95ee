-- Where closing up begins: the blocks below the first gap stay, so the scan may as well stand there.
use Rattle.std.proofs.Common.{◌≡◌, ℕ, ◌+◌, ◌^◌, ◌<◌, ◌≤◌, List, [], ◌∷◌, length, get_or, sym, refl, ap, ◌∙◌, subst, inl, inr, arith}
use Rattle.std.proofs.lemmas.Bool.{cases_eq, cases_lt, cond-false, cond-true, eq-eqb, ne_eqb}
use Rattle.layout.specs.Arrangement.{Arrangement}
use Rattle.layout.specs.Chains.{next_at}
use Rattle.layout.specs.Holds.{Displays}
use Rattle.layout.specs.Sound.{Sound}
use Rattle.layout.specs.Words.{Says, back, datum, label, none, word}
use Rattle.layout.proofs.CloseCells.{down, low}
use Rattle.layout.proofs.Order.{Tile, idle, used}
use Rattle.layout.proofs.Tiles.{level, pass_block, reach, reached, tiles, unreached}
use Rattle.layout.proofs.Scan.{Walk, walk_start}
use Rattle.layout.proofs.Step.{renamed}
use Rattle.placement.specs.Moves.{closing_from}

-- where no address is another, neither is what a word says
named : (f h : ℕ → ℕ) → ((y : ℕ) → h y ≡ f y) → (w : Says) → renamed h h w ≡ renamed f f w
named f h e (label s n b q t) = ap (λ (k : ℕ). label k n b q t) (e s)
named f h e none = refl
named f h e (back a) = ap back (e a)
named f h e (datum v) = refl

module _ (A : Arrangement) (o : Sound A) (ws : List ℕ) where
  stays : (x : ℕ) → ((y : ℕ) → y < x → down A y ≡ y) → (y : ℕ) → reach A x y ≡ y
  stays x still y = elim (cases_lt y x) [ inl h ↦ reached A x y h ∙ still y h | inr h ↦ unreached A x y h ]

  onward : (rest : List Tile) (x : ℕ) → Walk A rest x x (next_at ws 0) ws → ((y : ℕ) → y < x → down A y ≡ y)
      → (ts : List Tile) × Walk A ts (closing_from ws) (closing_from ws) (next_at ws 0) ws
  onward [] x W still =
      let e : closing_from ws ≡ length ws = cond-true _ _ _ (eq-eqb (next_at ws 0) 0 W.linked) in
      let at : x ≡ closing_from ws = omega (arith, e, W.long, W.scan.filled) in
      ([], subst (λ (k : ℕ). Walk A [] k k (next_at ws 0) ws) at W)
  onward (idle n ∷ ts) x W still =
      let hi = W.scan.high in
      let e : closing_from ws ≡ next_at ws 0 = cond-false _ _ _ (ne_eqb (next_at ws 0) 0 (λ z. omega (arith, W.linked, hi))) in
      (idle n ∷ ts, subst (λ (k : ℕ). Walk A (idle n ∷ ts) k k (next_at ws 0) ws) (sym W.linked ∙ sym e) W)
  onward (used m ∷ ts) x W still =
      let S = W.scan in
      let still' : (y : ℕ) → y < x + m → down A y ≡ y =
      λ y h. elim (cases_lt y x) [ inl l ↦ still y l | inr l ↦ omega (arith, level A x x m ts S y l h) ] in
      let same : (y : ℕ) → reach A (x + m) y ≡ reach A x y = λ y. stays (x + m) still' y ∙ sym (stays x still y) in
      onward ts (x + m)
      record {
        scan = pass_block A x x m ts S;
        long = W.long;
        shown = λ y w i. ap (λ (k : ℕ). get_or ws k 0) (same y) ∙ W.shown y w i ∙ ap word (sym (named (reach A x) (reach A (x + m)) same w));
        heads = W.heads;
        linked = W.linked;
      } still'

  pub walk_begins : Displays ws A → (ts : List Tile) × Walk A ts (closing_from ws) (closing_from ws) (next_at ws 0) ws
  walk_begins s = onward (tiles A o).order 65 (walk_start A o ws s) (λ y h. low A (tiles A o) y h)

pub closing_small : (ws : List ℕ) → length ws ≤ 2 ^ 18 → closing_from ws ≤ 2 ^ 19
closing_small ws few =
    elim (cases_eq (next_at ws 0) 0) [
      | inl e ↦ omega (arith, cond-true _ (length ws) (next_at ws 0) (eq-eqb (next_at ws 0) 0 e))
      | inr e ↦ omega (arith, cond-false _ (length ws) (next_at ws 0) (ne_eqb (next_at ws 0) 0 e))
    ]
