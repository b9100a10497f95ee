-- The scan at its end: with one gap behind the blocks, the words display the arrangement closed up.
use Rattle.std.proofs.Common.{◌≡◌, ℕ, ◌-◌, ◌<◌, ◌≤◌, List, [], ◌∷◌, length, get_or, sym, refl, ap, ◌∙◌, subst, arith}
use Rattle.layout.specs.Arrangement.{Arrangement}
use Rattle.layout.specs.Chains.{Chained}
use Rattle.layout.specs.Gaps.{a_gap}
use Rattle.layout.specs.Holds.{Along, Displays, Shows}
use Rattle.layout.specs.Placement.{closed_up}
use Rattle.layout.specs.Sound.{Each, Sound}
use Rattle.layout.specs.Words.{Says, back, cells, datum, label, none, total, word}
use Rattle.layout.proofs.Cells.{Shown, carry, cells→shows, from_cells, says_moved}
use Rattle.layout.proofs.CloseCells.{closed_up_cells, down}
use Rattle.layout.proofs.Frame.{live}
use Rattle.layout.proofs.Kept.{each_map}
use Rattle.layout.proofs.Live.{In, in_each, in_store}
use Rattle.layout.proofs.Order.{Tile}
use Rattle.layout.proofs.Tiles.{reach, reached, tiles}
use Rattle.layout.proofs.Scan.{Walk, same_names}
use Rattle.layout.proofs.Step.{renamed}

moved_names : (f : ℕ → ℕ) (w : Says) → renamed f f w ≡ says_moved f w
moved_names f (label s n b q t) = refl
moved_names f none = refl
moved_names f (back a) = refl
moved_names f (datum v) = refl

at_end : (A : Arrangement) (rest : List Tile) (x to link : ℕ) (ws : List ℕ) → Walk A rest x to link ws → A.count ≤ x → Walk A [] x to link ws
at_end A [] x to link ws W h = W
at_end A (t ∷ ts) x to link ws W h = absurd (omega (arith, W.scan.filled, W.scan.full.0))

module _ (A : Arrangement) (o : Sound A) (rest : List Tile) (x to link : ℕ) (ws : List ℕ) (R : Walk A rest x to link ws) (over : A.count ≤ x) where
  W : Walk A [] x to link ws
  W = at_end A rest x to link ws R over

  pub ends : (total A.gaps ≡ A.count - to) × (to ≤ A.count) × (65 ≤ to)
  ends =
      let S = W.scan in
      let f = S.filled in
      let l = S.lost in
      let k = S.fall in
      (omega arith, omega arith, S.high)

  behind : (y : ℕ) (w : Says) → In (live A.names) y w → y < x
  behind y w m = omega (arith, in_store A o y w m)

  -- the names stand as they should, in any words that keep those below `to`
  named : (us : List ℕ) → ((y : ℕ) → 1 ≤ y → y < to → get_or us y 0 ≡ get_or ws y 0) → Along (Shows 4 us) 1 (closed_up A).names
  named us same =
      from_cells (Shown us) (Shows 4 us) (cells 4) (cells→shows us 4) 1 (closed_up A).names
      (subst (Each (Shown us)) (sym (closed_up_cells A (tiles A o) (sym o.names_64)))
      (each_map (λ c. Shown us (carry (down A) c)) (Shown us) (carry (down A)) (λ c h. h) (live A.names)
      (in_each (λ c. Shown us (carry (down A) c)) (live A.names) (λ c m.
      let b = W.scan.packed c.at c.says m (behind c.at c.says m) in
      let r : (y : ℕ) (w : Says) → In (live A.names) y w → reach A x y ≡ down A y = λ y w i. reached A x y (behind y w i) in
      same (down A c.at) b.0 b.1
      ∙ ap (λ (k : ℕ). get_or ws k 0) (sym (r c.at c.says m))
      ∙ W.shown c.at c.says m
      ∙ ap word (sym (same_names A o (reach A x) (down A) (λ y w i. sym (r y w i)) c.at c.says m) ∙ moved_names (down A) c.says)))))

  pub closes : (us : List ℕ) → length us ≡ length ws → ((y : ℕ) → 1 ≤ y → y < to → get_or us y 0 ≡ get_or ws y 0)
      → Chained us (a_gap to (length us - to)) → Displays us (closed_up A)
  closes us n same C =
      let e = ends in
      let long : length us ≡ A.count = n ∙ W.long in
      let g : a_gap to (length us - to) ≡ (closed_up A).gaps =
      ap (λ (k : ℕ). a_gap to k) (let p : length us - to ≡ total A.gaps = omega arith in p)
      ∙ ap (λ (k : ℕ). a_gap k (total A.gaps)) (let p : to ≡ A.count - total A.gaps = omega arith in p) in
      let D = subst (Chained us) g C in
      record { count = long; header = D.header; names = named us same; chain = D.chain }
