-- The call that deletes elements of the block at a trace.
use Rattle.std.proofs.Common.{◌≡◌, ℕ, ◌+◌, ◌-◌, ◌^◌, ◌≤◌, Bool, true, false, cond, List, length, get_or, ℤ, Ok, Err, Result, sym, refl, ap, ◌∙◌, subst, arith}
use lib.ListN.{length-map}
use Rattle.booking.specs.Bookings.{Delete, Done, Reply, granted, on, refused}
use Rattle.booking.specs.Traces.{subscripts}
use Rattle.booking.specs.declared.refusal.Refusal.{Refusal}
use Rattle.booking.specs.declared.refusal.Refusal.TheVariants.{BadLength, OutOfBounds, Unlabelled}
use Rattle.booking.specs.declared.trace.Trace.{Trace}
use Rattle.codeword.specs.Codeword.{unpacked}
use Rattle.codeword.specs.declared.Codeword.{Codeword}
use Rattle.ledger.specs.Doors.{door, element, passed}
use Rattle.layout.specs.Arrangement.{Arrangement, Codes, Data, Placed, Vacant, tree}
use Rattle.layout.specs.Booked.{Booked}
use Rattle.layout.specs.Holds.{Displays, Holds}
use Rattle.layout.specs.Rearranged.{rearranged}
use Rattle.layout.specs.Released.{Clears}
use Rattle.layout.specs.Walks.{walked}
use Rattle.layout.specs.Words.{labelling}
use Rattle.layout.proofs.Owed.{granted_now, granted_owes, place_owes}
use Rattle.layout.proofs.WalkEnd.{reply, shown_label}
use Rattle.layout.proofs.Place.{Reached, Stands, booked, came, subscripts_count}
use Rattle.layout.proofs.Releases.{Links}
use Rattle.layout.proofs.Relink.{chained}
use Rattle.deletion.proofs.Shown.{row_deleted, table_deleted}
use Rattle.deletion.proofs.Runs.{block_doors, leaves, leaving_block, leaving_none}
use Rattle.deletion.specs.Closing.{shut}
use Rattle.deletion.specs.Leaving.{leaving_found}

-- ── The doors ──────────────────────────────────────────────────────────

abbrev answered : Result ℕ Refusal → Reply
answered (Ok k) = granted Done
answered (Err r) = refused r

-- the plain ledger's doors, and those of the code
same_doors : {X : Type 0} (words : ℕ) (x y : Bool) (j k : ℕ) (left : X)
    → reply words (door x (OutOfBounds j) (door y BadLength (passed 0 0 Done left))) ≡ answered (cond x (Err (OutOfBounds j)) (cond y (Err BadLength) (Ok k)))
unfolding door
same_doors words true y j k left = refl
same_doors words false true j k left = refl
same_doors words false false j k left = granted_now words Done

module _ (ws : List ℕ) (h : Holds ws) (t : Trace) (at w : ℕ) (e : Ok at ≡ walked ws 1 t.name (subscripts t)) (is : w ≡ get_or ws at 0) (i z : ℤ) (same : z ≡ i)
    (n j : ℕ) (deep : j ≡ t.depth + 1) where
  abbrev A : Arrangement
  A = h.arrangement

  few : length ws ≤ 2 ^ 18
  few = (chained A h.sound ws h.shown).few

  -- what a codeword that is not 0 says
  row_label : (d s : ℕ) (b : ℤ) (ty : ℕ) (vs : List ℕ) → Stands ws A t at d (Data s b ty vs) → (labelling (s + 1) (length vs) b false ty ≡ unpacked w) × (w ≡ 0 → ⊥)
  row_label d s b ty vs st = let g = st.fits_in in shown_label ws few w s (length vs) b false ty g.0 g.2 g.3 g.4 (is ∙ st.shows.0)

  table_label : (d s : ℕ) (b : ℤ) (ps : List (Placed d)) → Stands ws A t at d (Codes s b ps) → (labelling (s + 1) (length ps) b true 0 ≡ unpacked w) × (w ≡ 0 → ⊥)
  table_label d s b ps st = let g = st.fits_in in shown_label ws few w s (length ps) b true 0 g.0 g.2 g.3 (omega arith) (is ∙ st.shows.0)

  -- a label's doors are the block's
  doors_are : (c : Codeword) → c ≡ unpacked w → (w ≡ 0 → ⊥) → answered (block_doors c i n (1 + length (subscripts t))) ≡ answered (leaving_found w z n j)
  doors_are c m some =
      ap (λ (x : Codeword). answered (block_doors x i n (1 + length (subscripts t)))) m
      ∙ ap (λ (x : ℤ). answered (block_doors (unpacked w) x n (1 + length (subscripts t)))) (sym same)
      ∙ ap (λ (x : ℕ). answered (block_doors (unpacked w) z n x)) (let q : 1 + length (subscripts t) ≡ j = omega (arith, subscripts_count t) in q)
      ∙ ap answered (sym (leaving_block w z n j some))

  answered_there : Reached ws A t (Ok at) → booked A t (Delete i n) ≡ answered (leaving_found w z n j)
  answered_there (d, Vacant, st) =
      st.asked (Delete i n) ∙ ap (λ (x : ℕ). refused (Unlabelled x)) (omega (arith, subscripts_count t)) ∙ ap answered (sym (leaving_none w z n j (is ∙ st.shows)))
  answered_there (d, Data s b ty vs, st) =
      let m = row_label d s b ty vs st in
      st.asked (Delete i n) ∙ same_doors _ _ _ _ (element b i) _ ∙ doors_are (labelling (s + 1) (length vs) b false ty) m.0 m.1
  answered_there (d, Codes s b ps, st) =
      let m = table_label d s b ps st in
      st.asked (Delete i n) ∙ same_doors _ _ _ _ (element b i) _
      ∙ ap (λ (l : ℕ). answered (block_doors (labelling (s + 1) l b true 0) i n (1 + length (subscripts t)))) (length-map ps (tree d))
      ∙ doors_are (labelling (s + 1) (length ps) b true 0) m.0 m.1

  pub delete_refused : (r : Refusal) → Err r ≡ leaving_found w z n j → Booked ws (on t (Delete i n)) (refused r) ws
  delete_refused r f = place_owes ws h t (Delete i n) r (answered_there (came ws h t (Ok at) e) ∙ ap answered (sym f))

  -- ── The words ────────────────────────────────────────────────────────

  module _ (k : ℕ) (f : Ok k ≡ leaving_found w z n j) (c : Codeword) (read : c ≡ unpacked w) (us vs : List ℕ)
      (rows : c.r ≡ false → us ≡ ws) (levels m : ℕ) (left : levels ≡ 3 - t.depth) (as_many : m ≡ n)
      (tables : c.r ≡ true → Clears levels ws (c.first + k) m us)
      (L : Links (shut at c k n us) (c.first + c.length - n) n vs) where
    element_is : (l : Codeword) → l ≡ unpacked w → k ≡ element l.base i
    element_is l m = (leaves w z n j k f).is ∙ ap (λ (x : Codeword). element x.base z) (sym m) ∙ ap (element l.base) same

    deleted : Reached ws A t (Ok at) → Displays vs (rearranged t (Delete i n) A)
    deleted (d, Vacant, st) = absurd ((leaves w z n j k f).labelled (is ∙ st.shows))
    deleted (d, Data s b ty zs, st) =
        let m = row_label d s b ty zs st in
        let c_is : c ≡ labelling (s + 1) (length zs) b false ty = read ∙ sym m.0 in
        let k_is = element_is (labelling (s + 1) (length zs) b false ty) m.0 in
        let x = leaves w z n j k f in
        let N : length zs ≡ (unpacked w).length = ap (λ (l : Codeword). l.length) m.0 in
        let M : Links (shut at (labelling (s + 1) (length zs) b false ty) (element b i) n ws) (s + 1 + length zs - n) n vs =
        subst (λ (us : List ℕ). Links (shut at (labelling (s + 1) (length zs) b false ty) (element b i) n us) (s + 1 + length zs - n) n vs)
        (rows (ap (λ (l : Codeword). l.r) c_is))
        (subst (λ (q : ℕ). Links (shut at (labelling (s + 1) (length zs) b false ty) q n us) (s + 1 + length zs - n) n vs) k_is
        (subst (λ (l : Codeword). Links (shut at l k n us) (l.first + l.length - n) n vs) c_is L)) in
        row_deleted ws A h.sound h.shown t at d i n s b ty zs st (x.some, omega (arith, x.fits, k_is), omega (arith, x.not_all)) vs M
    deleted (d, Codes s b ps, st) =
        let is_label = table_label d s b ps st in
        let c_is : c ≡ labelling (s + 1) (length ps) b true 0 = read ∙ sym is_label.0 in
        let k_is = element_is (labelling (s + 1) (length ps) b true 0) is_label.0 in
        let x = leaves w z n j k f in
        let N : length ps ≡ (unpacked w).length = ap (λ (l : Codeword). l.length) is_label.0 in
        let below : levels ≡ d = omega (arith, left, st.level, subscripts_count t) in
        let C : Clears d ws (s + 1 + element b i) n us =
        subst (λ (q : ℕ). Clears d ws (s + 1 + q) n us) k_is
        (subst (λ (l : Codeword). Clears d ws (l.first + k) n us) c_is
        (subst (λ (q : ℕ). Clears d ws (c.first + k) q us) as_many
        (subst (λ (q : ℕ). Clears q ws (c.first + k) m us) below (tables (ap (λ (l : Codeword). l.r) c_is))))) in
        let M : Links (shut at (labelling (s + 1) (length ps) b true 0) (element b i) n us) (s + 1 + length ps - n) n vs =
        subst (λ (q : ℕ). Links (shut at (labelling (s + 1) (length ps) b true 0) q n us) (s + 1 + length ps - n) n vs) k_is
        (subst (λ (l : Codeword). Links (shut at l k n us) (l.first + l.length - n) n vs) c_is L) in
        table_deleted ws A h.sound h.shown t at d i n s b ps st (x.some, omega (arith, x.fits, k_is), omega (arith, x.not_all)) us C vs M

    pub delete_done : Booked ws (on t (Delete i n)) (granted Done) vs
    delete_done =
        granted_owes ws h t (Delete i n) Done vs (answered_there (came ws h t (Ok at) e) ∙ ap answered (sym f)) (deleted (came ws h t (Ok at) e))
