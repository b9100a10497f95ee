-- The live words one by one, each with what it says: the view for the loops that move words.
use Rattle.std.proofs.lemmas.List.{map-id}
use Rattle.std.proofs.Common.{◌≡◌, ℕ, zero, suc, ◌+◌, ◌<◌, true, false, List, [], ◌∷◌, ◌++◌, map, length, get_or, sym, refl, ap, ◌∙◌, arith}
use mathlib.Core.List.{map-append}
use lib.ListN.{length-map}
use Rattle.layout.specs.Arrangement.{Codes, Data, Piece, Placed, Vacant, concat, pieces}
use Rattle.layout.specs.Holds.{Along, Shows}
use Rattle.layout.specs.Placement.{move}
use Rattle.layout.specs.Sound.{Each}
use Rattle.layout.specs.Words.{Cell, Says, back, cells, cells_along, datum, datum_at, label, none, word}
use Rattle.layout.proofs.Cover.{each-++, each_left, each_right}

abbrev pub Shown : List ℕ → Cell → Type 0
Shown ws c = get_or ws c.at 0 ≡ word c.says

-- ── Shown as a tree is shown cell by cell ──────────────────────────────

module _ {X : Type 0} (P : Cell → Type 0) (Q : ℕ → X → Type 0) (f : ℕ → X → List Cell) where
  pub to_cells : ((y : ℕ) (x : X) → Q y x → Each P (f y x)) → (a : ℕ) (xs : List X) → Along Q a xs → Each P (cells_along f a xs)
  to_cells h a [] q = tt
  to_cells h a (x ∷ xs) q = each-++ P (f a x) (cells_along f (a + 1) xs) (h a x q.0) (to_cells h (a + 1) xs q.1)

  pub from_cells : ((y : ℕ) (x : X) → Each P (f y x) → Q y x) → (a : ℕ) (xs : List X) → Each P (cells_along f a xs) → Along Q a xs
  from_cells h a [] e = tt
  from_cells h a (x ∷ xs) e = (
    h a x (each_left P (f a x) (cells_along f (a + 1) xs) e),
    from_cells h (a + 1) xs (each_right P (f a x) (cells_along f (a + 1) xs) e),
  )

module _ (ws : List ℕ) where
  pub shows→cells : (d a : ℕ) (p : Placed d) → Shows d ws a p → Each (Shown ws) (cells d a p)
  shows→cells zero a p s = (s, tt)
  shows→cells (suc d) a Vacant s = (s, tt)
  shows→cells (suc d) a (Data x b t us) s =
      (s.0, (s.1, to_cells (Shown ws) (λ y v. get_or ws y 0 ≡ v) datum_at (λ y v e. (e, tt)) (x + 1) us s.2))
  shows→cells (suc d) a (Codes x b ps) s =
      (s.0, (s.1, to_cells (Shown ws) (Shows d ws) (cells d) (shows→cells d) (x + 1) ps s.2))

  pub cells→shows : (d a : ℕ) (p : Placed d) → Each (Shown ws) (cells d a p) → Shows d ws a p
  cells→shows zero a p e = e.0
  cells→shows (suc d) a Vacant e = e.0
  cells→shows (suc d) a (Data x b t us) e =
      (e.0, e.1.0, from_cells (Shown ws) (λ y v. get_or ws y 0 ≡ v) datum_at (λ y v k. k.0) (x + 1) us e.1.1)
  cells→shows (suc d) a (Codes x b ps) e =
      (e.0, e.1.0, from_cells (Shown ws) (Shows d ws) (cells d) (cells→shows d) (x + 1) ps e.1.1)

-- ── A move carries each word, and the addresses in it ──────────────────

abbrev pub says_moved : (ℕ → ℕ) → Says → Says
says_moved to (label s n b q t) = label (to s) n b q t
says_moved to none = none
says_moved to (back a) = back (to a)
says_moved to (datum w) = datum w

abbrev pub carry : (ℕ → ℕ) → Cell → Cell
carry to c = record { at = to c.at; says = says_moved to c.says }

-- a block moves as one
abbrev pub Rigid : (ℕ → ℕ) → Piece → Type 0
Rigid to p = (k : ℕ) → k < p.size → to (p.start + k) ≡ to p.start + k

module _ (to : ℕ → ℕ) {X : Type 0} (f : ℕ → X → List Cell) (g : X → X) (h : X → List Piece)
    (move_one : (y : ℕ) (x : X) → Each (Rigid to) (h x) → f (to y) (g x) ≡ map (carry to) (f y x)) where
  pub along_move : (s j : ℕ) (xs : List X) → ((k : ℕ) → k < j + length xs → to (s + k) ≡ to s + k) → Each (Rigid to) (concat (map h xs))
      → cells_along f (to s + j) (map g xs) ≡ map (carry to) (cells_along f (s + j) xs)
  along_move s j [] r e = refl
  along_move s j (x ∷ xs) r e =
      ap (λ (k : ℕ). f k (g x) ++ cells_along f (to s + j + 1) (map g xs)) (sym (r j (omega arith)))
      ∙ ap (λ (cs : List Cell). cs ++ cells_along f (to s + j + 1) (map g xs)) (move_one (s + j) x (each_left (Rigid to) (h x) (concat (map h xs)) e))
      ∙ ap (λ (cs : List Cell). map (carry to) (f (s + j) x) ++ cs)
      (ap (λ (k : ℕ). cells_along f k (map g xs)) (omega arith)
      ∙ along_move s (j + 1) xs (λ k l. r k (omega arith)) (each_right (Rigid to) (h x) (concat (map h xs)) e)
      ∙ ap (λ (k : ℕ). map (carry to) (cells_along f k xs)) (omega arith))
      ∙ sym (map-append (carry to) (f (s + j) x) (cells_along f (s + j + 1) xs))

no_pieces : (P : Piece → Type 0) (us : List ℕ) → Each P (concat (map (λ (u : ℕ). []) us))
no_pieces P [] = tt
no_pieces P (u ∷ us) = no_pieces P us

-- Closing up, a raise and a turn of the closing loop are all this: each live word goes where `to` sends its address, and the addresses
-- in labels and back-references go with it
pub cells_move : (to : ℕ → ℕ) (d a : ℕ) (p : Placed d) → Each (Rigid to) (pieces d p)
    → cells d (to a) (move to d p) ≡ map (carry to) (cells d a p)
cells_move to zero a p e = refl
cells_move to (suc d) a Vacant e = refl
cells_move to (suc d) a (Data s b t us) e =
    ap (λ (cs : List Cell). record { at = to a; says = label (to s) (length us) b false t } ∷ record { at = to s; says = back (to a) } ∷ cs)
    (ap (λ (vs : List ℕ). cells_along datum_at (to s + 1) vs) (sym (map-id us))
    ∙ along_move to datum_at (λ v. v) (λ v. []) (λ y v k. refl) s 1 us (λ k l. e.0 k (omega arith)) (no_pieces (Rigid to) us))
cells_move to (suc d) a (Codes s b ps) e =
    ap (λ (n : ℕ). record { at = to a; says = label (to s) n b true 0 } ∷ record { at = to s; says = back (to a) }
    ∷ cells_along (cells d) (to s + 1) (map (move to d) ps)) (length-map ps (move to d))
    ∙ ap (λ (cs : List Cell). record { at = to a; says = label (to s) (length ps) b true 0 } ∷ record { at = to s; says = back (to a) } ∷ cs)
    (along_move to (cells d) (move to d) (pieces d) (λ y p k. cells_move to d y p k) s 1 ps (λ k l. e.0 k (omega arith)) e.1)
