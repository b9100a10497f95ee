-- One block moves down: after each write every live word is where the addresses of that moment say, and says them.
use Rattle.std.proofs.Common.{◌≡◌, ℕ, suc, ◌+◌, ◌-◌, ◌^◌, ◌<◌, ◌≤◌, Bool, false, cond, ltb, ◌≢◌, List, length, get_or, set, ℤ, sym, refl, ap, ◌∙◌, subst, inl, inr, arith}
use Rattle.codeword.proofs.Packing.{unpacked_packed}
use Rattle.codeword.specs.Codeword.{unpacked}
use Rattle.std.proofs.lemmas.List.{get_or-set_other, get_or-set_same, length-set}
use Rattle.std.proofs.lemmas.Bool.{cases_eq, cases_lt, cond-false, cond-true, le-ltb, lt-ltb}
use Rattle.layout.specs.Arrangement.{Arrangement}
use Rattle.layout.specs.Sound.{Sound}
use Rattle.layout.specs.Words.{Cell, Says, back, datum, label, labelling, none, word}
use Rattle.layout.proofs.Frame.{live}
use Rattle.layout.proofs.Live.{Block, In, Owned, Sort, in_store, labels, laws, once, plain, vacant}

-- what a live word says when blocks are named by l and codewords by h
abbrev pub renamed : (ℕ → ℕ) → (ℕ → ℕ) → Says → Says
renamed l h (label s n b q t) = label (l s) n b q t
renamed l h none = none
renamed l h (back a) = back (h a)
renamed l h (datum w) = datum w

-- the word at k once n words are copied from `from` on to `to` on
abbrev pub copied_word : ℕ → ℕ → ℕ → List ℕ → ℕ → ℕ
copied_word n from to ws k = cond (ltb k to) (get_or ws k 0) (cond (ltb k (to + n)) (get_or ws (from + (k - to)) 0) (get_or ws k 0))

module _ (n from to : ℕ) (ws : List ℕ) (k : ℕ) where
  pub copied_below : k < to → copied_word n from to ws k ≡ get_or ws k 0
  copied_below h = cond-true _ _ _ (lt-ltb k to h)

  pub copied_above : to + n ≤ k → copied_word n from to ws k ≡ get_or ws k 0
  copied_above h = cond-false _ _ _ (le-ltb k to (omega arith)) ∙ cond-false _ _ _ (le-ltb k (to + n) h)

  pub copied_in : to ≤ k → k < to + n → copied_word n from to ws k ≡ get_or ws (from + (k - to)) 0
  copied_in h l = cond-false _ _ _ (le-ltb k to h) ∙ cond-true _ _ _ (lt-ltb k (to + n) l)

-- no element of a block is a back-reference, and none of a data block a label
pub no_back : (q : Bool) (w : Says) (a : ℕ) → Sort q w → w ≡ back a → ⊥
no_back q w a vacant e = let z : ◌≡◌ {A = ℕ} 0 1 = cc in omega arith
no_back q w a (labels s n b r t) e = let z : ◌≡◌ {A = ℕ} 0 1 = cc in omega arith
no_back q w a (plain v) e = let z : ◌≡◌ {A = ℕ} 0 1 = cc in omega arith

no_label : (w : Says) (s n : ℕ) (b : ℤ) (q : Bool) (t : ℕ) → Sort false w → w ≡ label s n b q t → ⊥
no_label w s n b q t (plain v) e = let z : ◌≡◌ {A = ℕ} 0 1 = cc in omega arith

-- the block of n words at x goes down to `to`: f says where each live word is before, and g after; the codeword at a labels the block
pub record Move (A : Arrangement) : Type 0 where
  pub f : ℕ → ℕ
  pub g : ℕ → ℕ
  pub x : ℕ
  pub to : ℕ
  pub n : ℕ
  pub a : ℕ
  pub b : ℤ
  pub q : Bool
  pub t : ℕ
  pub home : In (live A.names) a (label x n b q t)
  pub fall : to ≤ x
  pub under : (y : ℕ) (w : Says) → In (live A.names) y w → y < x → (f y < to) × (g y ≡ f y)
  pub inside : (y : ℕ) → x ≤ y → y ≤ x + n → (f y ≡ y) × (g y ≡ to + (y - x))
  pub over : (y : ℕ) → x + n < y → (f y ≡ y) × (g y ≡ y)
  pub falls : (y : ℕ) → (f y ≤ y) × (g y ≤ y)
  pub rise : (y z : ℕ) (v w : Says) → In (live A.names) y v → In (live A.names) z w → y < z → g y < g z

module _ (A : Arrangement) (o : Sound A) (M : Move A) (ws : List ℕ) where
  abbrev C : List Cell
  C = live A.names

  abbrev f : ℕ → ℕ
  f = M.f

  abbrev g : ℕ → ℕ
  g = M.g

  abbrev x : ℕ
  x = M.x

  abbrev to : ℕ
  to = M.to

  abbrev n : ℕ
  n = M.n

  abbrev a : ℕ
  a = M.a

  abbrev b : ℤ
  b = M.b

  abbrev q : Bool
  q = M.q

  abbrev t : ℕ
  t = M.t

  -- each live word y stands at p y, and names blocks by l and codewords by h; past the block, where none is live, all is as in ws
  pub record State (p l h : ℕ → ℕ) (us : List ℕ) : Type 0 where
    pub long : length us ≡ A.count
    pub shown : (y : ℕ) (w : Says) → In C y w → get_or us (p y) 0 ≡ word (renamed l h w)
    pub rest : (y : ℕ) → x + n < y → ((w : Says) → In C y w → ⊥) → get_or us y 0 ≡ get_or ws y 0

  pub block : Block A.count C a x n b q t
  block = laws A o a (label x n b q t) M.home

  -- ── The words of the block are copied ────────────────────────────────

  pub moves : (us : List ℕ) → length us ≡ length ws → ((k : ℕ) → get_or us k 0 ≡ copied_word (n + 1) x to ws k) → State f f f ws → State g f f us
  moves us len copy s =
      let fall = M.fall in
      record {
        long = len ∙ s.long;
        shown = λ y w m.
            copy (g y)
            ∙ elim (cases_lt y x) [
              | inl d ↦
                  let r = M.under y w m d in
                  copied_below (n + 1) x to ws (g y) (omega arith) ∙ ap (λ (k : ℕ). get_or ws k 0) r.1 ∙ s.shown y w m
              | inr d ↦ elim (cases_lt (x + n) y) [
                | inl e ↦
                    let r = M.over y e in
                    let same : g y ≡ f y = r.1 ∙ sym r.0 in
                    copied_above (n + 1) x to ws (g y) (omega arith) ∙ ap (λ (k : ℕ). get_or ws k 0) same ∙ s.shown y w m
                | inr e ↦
                    let r = M.inside y d e in
                    let same : x + (g y - to) ≡ f y = omega arith in
                    copied_in (n + 1) x to ws (g y) (omega arith) (omega arith) ∙ ap (λ (k : ℕ). get_or ws k 0) same ∙ s.shown y w m
              ]
            ];
        rest = λ y d empty. copy y ∙ copied_above (n + 1) x to ws y (omega arith) ∙ s.rest y d empty;
      }

  -- ── One word is written ──────────────────────────────────────────────

  differ : (y z : ℕ) (v w : Says) → In C y v → In C z w → y ≢ z → g y ≢ g z
  differ y z v w i j ne e =
      elim (cases_lt y z) [
        | inl d ↦ omega (arith, M.rise y z v w i j d)
        | inr d ↦ let p : y ≢ z = ne in omega (arith, M.rise z y w v j i (omega arith))
      ]

  spare : (y : ℕ) → x + n < y → ((w : Says) → In C y w → ⊥) → (z : ℕ) (v : Says) → In C z v → y ≢ g z
  spare y d empty z v m e =
      let fall = M.fall in
      elim (cases_lt z x) [
        | inl k ↦ omega (arith, M.under z v m k)
        | inr k ↦ elim (cases_lt (x + n) z) [
          | inl j ↦ let s : z ≡ y = omega (arith, M.over z j) in empty v (subst (λ (i : ℕ). In C i v) s m)
          | inr j ↦ omega (arith, M.inside z k j)
        ]
      ]

  writes : (l h l' h' : ℕ → ℕ) (us : List ℕ) (z : ℕ) (v : Says) → In C z v
      → ((y : ℕ) (w : Says) → In C y w → y ≢ z → renamed l' h' w ≡ renamed l h w)
      → State g l h us → State g l' h' (set us (g z) (word (renamed l' h' v)))
  writes l h l' h' us z v m others s =
      let new = word (renamed l' h' v) in
      record {
        long = length-set us (g z) new ∙ s.long;
        shown = λ y w i.
            elim (cases_eq y z) [
              | inl e ↦
                  let same : w ≡ v = once A o z w v (subst (λ (k : ℕ). In C k w) e i) m in
                  ap (λ (k : ℕ). get_or (set us (g z) new) (g k) 0) e
                  ∙ get_or-set_same us (g z) new 0 (omega (arith, M.falls z, in_store A o z v m, s.long))
                  ∙ ap (λ (k : Says). word (renamed l' h' k)) (sym same)
              | inr ne ↦ get_or-set_other us (g z) (g y) new 0 (differ y z w v i m ne) ∙ s.shown y w i ∙ ap word (sym (others y w i ne))
            ];
        rest = λ y d empty. get_or-set_other us (g z) y new 0 (spare y d empty z v m) ∙ s.rest y d empty;
      }

  changes : (l h l' h' : ℕ → ℕ) (us : List ℕ) → ((y : ℕ) (w : Says) → In C y w → renamed l' h' w ≡ renamed l h w) → State g l h us → State g l' h' us
  changes l h l' h' us same s = record { long = s.long; shown = λ y w m. s.shown y w m ∙ ap word (sym (same y w m)); rest = s.rest }

  -- back-references change where their codewords' addresses do
  backs : (l h h' : ℕ → ℕ) → ((k y : ℕ) → In C y (back k) → h' k ≡ h k) → (y : ℕ) (w : Says) → In C y w → renamed l h' w ≡ renamed l h w
  backs l h h' e y (label s m c r u) i = refl
  backs l h h' e y none i = refl
  backs l h h' e y (back k) i = ap back (e k y i)
  backs l h h' e y (datum v) i = refl

  -- ── The codeword gets its new address ────────────────────────────────

  -- its own address stays
  stays : g a ≡ f a
  stays =
      elim block.away [
        | inl d ↦ (M.under a (label x n b q t) M.home d).1
        | inr d ↦ (M.over a d).1 ∙ sym (M.over a d).0
      ]

  relabel : (y : ℕ) (w : Says) → In C y w → y ≢ a → renamed g f w ≡ renamed f f w
  relabel y none i ne = refl
  relabel y (back k) i ne = refl
  relabel y (datum v) i ne = refl
  relabel y (label s m c r u) i ne =
      let B : Block A.count C y s m c r u = laws A o y (label s m c r u) i in
      ap (λ (k : ℕ). label k m c r u)
      (elim (cases_lt s x) [
        | inl d ↦ (M.under s (back y) B.refers d).1
        | inr d ↦ elim (cases_lt (x + n) s) [
          | inl e ↦ (M.over s e).1 ∙ sym (M.over s e).0
          | inr e ↦ elim (cases_eq s x) [
            | inl k ↦
                let j : back y ≡ back a = once A o x (back y) (back a) (subst (λ (i : ℕ). In C i (back y)) k B.refers) block.refers in
                absurd (ne (cc))
            | inr k ↦
                let k' : s ≢ x = k in
                let h = block.holds (s - x - 1) (omega arith) in
                let p : s ≡ x + 1 + (s - x - 1) = omega arith in
                absurd (no_back q h.0 y h.2
                (once A o (x + 1 + (s - x - 1)) h.0 (back y) h.1 (subst (λ (i : ℕ). In C i (back y)) p B.refers)))
          ]
        ]
      ])

  pub relabels : (us : List ℕ) → State g f f us → State g g f (set us (f a) (word (label to n b q t)))
  relabels us s =
      subst (State g g f)
      (ap (λ (k : ℕ). set us k (word (label (g x) n b q t))) stays
      ∙ ap (λ (k : ℕ). set us (f a) (word (label k n b q t))) (let r = M.inside x (omega arith) (omega arith) in omega arith))
      (writes f f g f us a (label x n b q t) M.home relabel s)

  -- ── The back-references below it are renewed ─────────────────────────

  -- those of its first i elements name the new addresses
  pub half : ℕ → ℕ → ℕ
  half i y = cond (ltb y (x + 1 + i)) (g y) (f y)

  half_below : (i y : ℕ) → y < x + 1 + i → half i y ≡ g y
  unfolding half
  half_below i y h = cond-true _ _ _ (lt-ltb y (x + 1 + i) h)

  half_above : (i y : ℕ) → x + 1 + i ≤ y → half i y ≡ f y
  unfolding half
  half_above i y h = cond-false _ _ _ (le-ltb y (x + 1 + i) h)

  -- where no codeword of the block is at the address, the new map agrees with the old
  outside : (k y : ℕ) → In C y (back k) → ((x < k) → k ≤ x + n → ⊥) → g k ≡ f k
  outside k y i never =
      let O : Owned C y k = laws A o y (back k) i in
      elim (cases_lt k x) [
        | inl d ↦ (M.under k _ O.labelled d).1
        | inr d ↦ elim (cases_lt (x + n) k) [
          | inl e ↦ (M.over k e).1 ∙ sym (M.over k e).0
          | inr e ↦ elim (cases_eq k x) [
            | inl j ↦
                let w : label y O.n O.b O.q O.t ≡ back a =
                once A o x _ (back a) (subst (λ (i : ℕ). In C i (label y O.n O.b O.q O.t)) j O.labelled) block.refers in
                let z : ◌≡◌ {A = ℕ} 0 1 = cc in absurd (omega arith)
            | inr j ↦ let j' : k ≢ x = j in absurd (never (omega arith) e)
          ]
        ]
      ]

  half_start : (k y : ℕ) → In C y (back k) → half 0 k ≡ f k
  half_start k y i =
      elim (cases_lt k (x + 1)) [
        | inl d ↦ half_below 0 k (omega arith) ∙ outside k y i (λ u v. omega arith)
        | inr d ↦ half_above 0 k (omega arith)
      ]

  half_more : (i k : ℕ) → k ≢ x + 1 + i → half (suc i) k ≡ half i k
  half_more i k ne =
      let ne' : k ≢ x + 1 + i = ne in
      elim (cases_lt k (x + 1 + i)) [
        | inl d ↦ half_below (suc i) k (omega arith) ∙ sym (half_below i k d)
        | inr d ↦ half_above (suc i) k (omega arith) ∙ sym (half_above i k d)
      ]

  half_end : (k y : ℕ) → In C y (back k) → g k ≡ half n k
  half_end k y i =
      elim (cases_lt (x + n) k) [
        | inl d ↦ (M.over k d).1 ∙ sym (M.over k d).0 ∙ sym (half_above n k (omega arith))
        | inr d ↦ sym (half_below n k (omega arith))
      ]

  pub renew_start : (us : List ℕ) → State g g f us → State g g (half 0) us
  renew_start us s = changes g f g (half 0) us (backs g f (half 0) half_start) s

  pub renew_end : (us : List ℕ) → State g g (half n) us → State g g g us
  renew_end us s = changes g (half n) g g us (backs g (half n) g half_end) s

  -- a data block has no back-references below it
  none_below : q ≡ false → (k y : ℕ) → In C y (back k) → g k ≡ f k
  none_below e k y i =
      outside k y i (λ u v.
      let O : Owned C y k = laws A o y (back k) i in
      let h = block.holds (k - x - 1) (omega arith) in
      let p : k ≡ x + 1 + (k - x - 1) = omega arith in
      no_label h.0 y O.n O.b O.q O.t (subst (λ (z : Bool). Sort z h.0) e h.2)
      (once A o (x + 1 + (k - x - 1)) h.0 _ h.1 (subst (λ (i : ℕ). In C i (label y O.n O.b O.q O.t)) p O.labelled)))

  pub renew_no : q ≡ false → (us : List ℕ) → State g g f us → State g g g us
  renew_no e us s = changes g f g g us (backs g f g (none_below e)) s

  -- element i, where it then stands, and what it then says
  at_element : (i : ℕ) → i < n → g (x + 1 + i) ≡ to + 1 + i
  at_element i h = omega (arith, M.inside (x + 1 + i) (omega arith) (omega arith))

  pub element_says : (i : ℕ) (h : ℕ → ℕ) (us : List ℕ) (w : Says) → i < n → In C (x + 1 + i) w → State g g h us → get_or us (to + 1 + i) 0 ≡ word (renamed g h w)
  element_says i h us w lt m s = ap (λ (k : ℕ). get_or us k 0) (sym (at_element i lt)) ∙ s.shown (x + 1 + i) w m

  -- a back-reference to element i stands in the block that it labels
  backs_but : (i : ℕ) (v : Says) → In C (x + 1 + i) v → (y : ℕ) (w : Says) → In C y w
      → ((m : ℕ) (c : ℤ) (r : Bool) (u : ℕ) → v ≡ label y m c r u → ⊥) → renamed g (half (suc i)) w ≡ renamed g (half i) w
  backs_but i v m y none j ne = refl
  backs_but i v m y (label s k c r u) j ne = refl
  backs_but i v m y (datum d) j ne = refl
  backs_but i v m y (back k) j ne =
      ap back (half_more i k (λ e.
      let O : Owned C y k = laws A o y (back k) j in
      ne O.n O.b O.q O.t
      (once A o (x + 1 + i) v _ m (subst (λ (i : ℕ). In C i (label y O.n O.b O.q O.t)) e O.labelled))))

  pub renew_none : (i : ℕ) (us : List ℕ) → In C (x + 1 + i) none → State g g (half i) us → State g g (half (suc i)) us
  renew_none i us m s =
      changes g (half i) g (half (suc i)) us
      (λ y w j. backs_but i none m y w j (λ k c r u e. let z : ◌≡◌ {A = ℕ} 0 1 = cc in omega arith)) s

  pub renew_label : (i u m : ℕ) (c : ℤ) (r : Bool) (ty : ℕ) (us : List ℕ) → i < n → In C (x + 1 + i) (label u m c r ty)
      → State g g (half i) us → State g g (half (suc i)) (set us (g u) (to + 1 + i))
  renew_label i u m c r ty us lt j s =
      let B : Block A.count C (x + 1 + i) u m c r ty = laws A o (x + 1 + i) (label u m c r ty) j in
      subst (State g g (half (suc i)))
      (ap (set us (g u)) (half_below (suc i) (x + 1 + i) (omega arith) ∙ at_element i lt))
      (writes g (half i) g (half (suc i)) us u (back (x + 1 + i)) B.refers
      (λ y w k ne. backs_but i (label u m c r ty) j y w k (λ m' c' r' u' e. ne (cc))) s)

  -- ── What is read ─────────────────────────────────────────────────────

  module _ (s : State f f f ws) where
    pub owner : get_or ws x 0 ≡ f a
    owner = ap (λ (k : ℕ). get_or ws k 0) (sym (M.inside x (omega arith) (omega arith)).0) ∙ s.shown x (back a) block.refers

    pub its_code : get_or ws (f a) 0 ≡ word (label x n b q t)
    its_code = s.shown a (label x n b q t) M.home ∙ ap (λ (k : ℕ). word (label k n b q t)) (M.inside x (omega arith) (omega arith)).0

-- the fields of a live label
pub label_reads : (count : ℕ) (C : List Cell) (a s n : ℕ) (b : ℤ) (q : Bool) (t z : ℕ) → count ≤ 2 ^ 18 → Block count C a s n b q t → z ≤ s
    → unpacked (word (label z n b q t)) ≡ labelling (z + 1) n b q t
label_reads count C a s n b q t z few B le =
    let i = B.inside in
    let m = B.some in
    unpacked_packed (labelling (z + 1) n b q t) (omega arith, omega arith, omega (arith, B.type)) (record { sfits = B.base })
