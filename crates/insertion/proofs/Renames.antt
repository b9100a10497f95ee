-- The pass over the blocks, in which each block and its codeword come to name the addresses where both will stand.
use Rattle.std.proofs.Common.{◌≡◌, ℕ, ◌+◌, ◌-◌, ◌^◌, ◌<◌, ◌≤◌, cond, ltb, ◌≢◌, List, [], ◌∷◌, length, get_or, set, sym, refl, ap, ◌∙◌, subst, inl, inr, arith}
use Rattle.std.proofs.lemmas.Bool.{cases_eq, cases_lt, cond-false, cond-true, le-ltb, lt-ltb}
use Rattle.std.proofs.lemmas.List.{get_or-set_other, get_or-set_same, length-set}
use Rattle.codeword.specs.Codeword.{unpacked}
use Rattle.codeword.specs.declared.Codeword.{Codeword}
use Rattle.layout.specs.Arrangement.{Arrangement}
use Rattle.layout.specs.Holds.{Displays}
use Rattle.layout.specs.Sound.{Each, Sound}
use Rattle.layout.specs.Words.{Cell, Says, back, datum, first_of, label, labelling, none, word}
use Rattle.layout.proofs.Cells.{Shown, says_moved}
use Rattle.layout.proofs.Cover.{each_perm}
use Rattle.layout.proofs.Frame.{cell, live}
use Rattle.layout.proofs.Live.{Block, In, Labelled, Owned, blocks_labelled, each_in, in_store, laws, once}
use Rattle.layout.proofs.Order.{Tile, idle, idles, size, used, useds}
use Rattle.layout.proofs.Rewritten.{live_shown}
use Rattle.layout.proofs.Tiles.{first_from, tiles}
use Rattle.layout.proofs.Step.{label_reads, no_back}
use Rattle.placement.specs.Moves.{aimed, block_size}
use Rattle.insertion.specs.Raises.{above, renamed_at}

pub above_low : (e n y : ℕ) → y < e → above e n y ≡ y
above_low e n y h = cond-true _ _ _ (lt-ltb y e h)

pub above_high : (e n y : ℕ) → e ≤ y → above e n y ≡ y + n
above_high e n y h = cond-false _ _ _ (le-ltb y e h)

pub above_most : (e n y : ℕ) → above e n y ≤ y + n
above_most e n y = elim (cases_lt y e) [ inl h ↦ omega (arith, above_low e n y h) | inr h ↦ omega (arith, above_high e n y h) ]

module _ (B : Arrangement) (e n : ℕ) where
  abbrev C : List Cell
  C = live B.names

  -- what the word at y says once the blocks that begin before x were passed
  abbrev pub said : ℕ → ℕ → Says → Says
  said x y (label s k b q t) = label (cond (ltb s x) (above e n s) s) k b q t
  said x y none = none
  said x y (back a) = back (cond (ltb y x) (above e n a) a)
  said x y (datum w) = datum w

  -- the pass stands at x, and each live word says what it should by now
  pub record Pass (rest : List Tile) (x : ℕ) (us : List ℕ) : Type 0 where
    pub full : Each (λ t. 1 ≤ size t) rest
    pub gaps : idles x rest ≡ B.gaps
    pub blocks : Each (Labelled C) (useds x rest)
    pub long : length us ≡ B.count
    pub shown : (y : ℕ) (w : Says) → In C y w → get_or us y 0 ≡ word (said x y w)

  module _ (o : Sound B) where
    not_yet : (y : ℕ) (w : Says) → In C y w → said 65 y w ≡ w
    not_yet y (label s k b q t) m =
        let L : Block B.count C y s k b q t = laws B o y (label s k b q t) m in
        ap (λ (z : ℕ). label z k b q t) (cond-false _ _ _ (le-ltb s 65 L.high))
    not_yet y none m = refl
    not_yet y (back a) m =
        let O : Owned C y a = laws B o y (back a) m in
        let L : Block B.count C a y O.n O.b O.q O.t = laws B o a (label y O.n O.b O.q O.t) O.labelled in
        ap back (cond-false _ _ _ (le-ltb y 65 L.high))
    not_yet y (datum w) m = refl

    pub pass_start : (ws : List ℕ) → Displays ws B → Pass (tiles B o).order 65 ws
    pass_start ws s =
        let t = tiles B o in
        record {
          full = t.not_empty;
          gaps = t.gaps_are;
          blocks = each_perm (Labelled C) t.blocks_are (blocks_labelled B o);
          long = s.count;
          shown = λ y w m. each_in (Shown ws) C (live_shown ws B s) (cell y w) m ∙ ap word (sym (not_yet y w m));
        }

    -- ── Over one block ───────────────────────────────────────────────────

    module _ (x m : ℕ) (ts : List Tile) (us : List ℕ) (P : Pass (used m ∷ ts) x us) (more : x < first_of B.gaps) (high : first_of B.gaps + n ≤ 2 ^ 18) where
      abbrev L : Labelled C (record { start = x; size = m })
      L = P.blocks.0

      its : Block B.count C L.a x L.n L.b L.q L.t
      its = laws B o L.a (label x L.n L.b L.q L.t) L.labelled

      its_end : x + m ≤ first_of B.gaps
      its_end =
          let g : first_of (idles (x + m) ts) ≡ first_of B.gaps = ap first_of P.gaps in
          elim (first_from (x + m) ts) [ inl z ↦ absurd (omega arith) | inr h ↦ omega arith ]

      pub owner : get_or us x 0 ≡ L.a
      owner = P.shown x (back L.a) its.refers ∙ cond-false _ _ _ (le-ltb x x (omega arith))

      code : get_or us L.a 0 ≡ word (label x L.n L.b L.q L.t)
      code =
          P.shown L.a (label x L.n L.b L.q L.t) L.labelled
          ∙ ap (λ (z : ℕ). word (label z L.n L.b L.q L.t)) (cond-false _ _ _ (le-ltb x x (omega arith)))

      reads : unpacked (word (label x L.n L.b L.q L.t)) ≡ labelling (x + 1) L.n L.b L.q L.t
      reads = label_reads B.count C L.a x L.n L.b L.q L.t x o.most its (omega arith)

      pub size_read : block_size us x ≡ m
      size_read =
          ap (λ (k : ℕ). (unpacked (get_or us k 0)).length + 1) owner
          ∙ ap (λ (k : ℕ). (unpacked k).length + 1) code ∙ ap (λ (k : Codeword). k.length + 1) reads ∙ sym L.sized

      abbrev to : ℕ
      to = above e n x

      aim : aimed (word (label x L.n L.b L.q L.t)) (to + 1) ≡ word (label to L.n L.b L.q L.t)
      aim =
          let i = its.inside in
          let k = its.some in
          let few = o.most in
          let up = above_most e n x in
          let end = its_end in
          let s = L.sized in
          omega (arith, ap (λ (k : Codeword). k.first) reads)

      written_so : renamed_at e n x us ≡ set (set us L.a (word (label to L.n L.b L.q L.t))) x (above e n L.a)
      written_so =
          ap (λ (k : ℕ). set (set us k (aimed (get_or us k 0) (to + 1))) x (above e n k)) owner
          ∙ ap (λ (w : ℕ). set (set us L.a (aimed w (to + 1))) x (above e n L.a)) code
          ∙ ap (λ (w : ℕ). set (set us L.a w) x (above e n L.a)) aim

      apart : L.a ≢ x
      apart z = elim its.away [ inl h ↦ omega arith | inr h ↦ omega arith ]

      -- no block begins within this one
      none_within : (s y : ℕ) → In C s (back y) → x < s → s ≤ x + L.n → ⊥
      none_within s y r lo hi =
          let h = its.holds (s - x - 1) (omega arith) in
          let p : s ≡ x + 1 + (s - x - 1) = omega arith in
          no_back L.q h.0 y h.2
          (once B o (x + 1 + (s - x - 1)) h.0 (back y) h.1 (subst (λ (i : ℕ). In C i (back y)) p r))

      passed : (s y : ℕ) → In C s (back y) → s ≢ x → (v w : ℕ) → cond (ltb s (x + m)) v w ≡ cond (ltb s x) v w
      passed s y r ne v w =
          let z = L.sized in
          elim (cases_lt s x) [
            | inl d ↦ cond-true _ _ _ (lt-ltb s (x + m) (omega arith)) ∙ sym (cond-true _ _ _ (lt-ltb s x d))
            | inr d ↦ elim (cases_lt (x + L.n) s) [
              | inl k ↦ cond-false _ _ _ (le-ltb s (x + m) (omega arith)) ∙ sym (cond-false _ _ _ (le-ltb s x d))
              | inr k ↦ let q : s ≢ x = ne in absurd (none_within s y r (omega arith) k)
            ]
          ]

      others : (y : ℕ) (w : Says) → In C y w → y ≢ x → y ≢ L.a → said (x + m) y w ≡ said x y w
      others y (label s k b q t) i nx na =
          let K : Block B.count C y s k b q t = laws B o y (label s k b q t) i in
          ap (λ (z : ℕ). label z k b q t)
          (passed s y K.refers
          (λ z. let j : back y ≡ back L.a = once B o x (back y) (back L.a) (subst (λ (i : ℕ). In C i (back y)) z K.refers) its.refers in
          absurd (na (cc))) _ _)
      others y none i nx na = refl
      others y (back a) i nx na = ap back (passed y a i nx _ _)
      others y (datum v) i nx na = refl

      abbrev vs : List ℕ
      vs = set (set us L.a (word (label to L.n L.b L.q L.t))) x (above e n L.a)

      shows : (y : ℕ) (w : Says) → In C y w → get_or vs y 0 ≡ word (said (x + m) y w)
      shows y w i =
          let z = L.sized in
          let new = word (label to L.n L.b L.q L.t) in
          let len : length us ≡ B.count = P.long in
          elim (cases_eq y x) [
            | inl q ↦
                let same : w ≡ back L.a = once B o x w (back L.a) (subst (λ (k : ℕ). In C k w) q i) its.refers in
                ap (λ (k : ℕ). get_or vs k 0) q
                ∙ get_or-set_same (set us L.a new) x _ 0 (omega (arith, length-set us L.a new, in_store B o x (back L.a) its.refers))
                ∙ sym (cond-true _ _ _ (lt-ltb x (x + m) (omega arith)))
                ∙ ap (λ (k : ℕ). word (said (x + m) k (back L.a))) (sym q)
                ∙ ap (λ (k : Says). word (said (x + m) y k)) (sym same)
            | inr nx ↦ get_or-set_other (set us L.a new) x y _ 0 nx ∙ elim (cases_eq y L.a) [
              | inl q ↦
                  let same : w ≡ label x L.n L.b L.q L.t = once B o L.a w (label x L.n L.b L.q L.t) (subst (λ (k : ℕ). In C k w) q i) L.labelled in
                  ap (λ (k : ℕ). get_or (set us L.a new) k 0) q
                  ∙ get_or-set_same us L.a new 0 (omega (arith, in_store B o L.a (label x L.n L.b L.q L.t) L.labelled))
                  ∙ ap (λ (k : ℕ). word (label k L.n L.b L.q L.t)) (sym (cond-true _ _ _ (lt-ltb x (x + m) (omega arith))))
                  ∙ ap (λ (k : Says). word (said (x + m) y k)) (sym same)
              | inr na ↦ get_or-set_other us L.a y new 0 na ∙ P.shown y w i ∙ ap word (sym (others y w i nx na))
            ]
          ]

      over : Pass ts (x + m) (renamed_at e n x us)
      over = subst (Pass ts (x + m)) (sym written_so) record {
        full = P.full.1;
        gaps = P.gaps;
        blocks = P.blocks.1;
        long = length-set (set us L.a (word (label to L.n L.b L.q L.t))) x _ ∙ length-set us L.a _ ∙ P.long;
        shown = shows;
      }

    -- ── The turn of the loop ─────────────────────────────────────────────

    module _ (x : ℕ) (us : List ℕ) (more : x < first_of B.gaps) (high : first_of B.gaps + n ≤ 2 ^ 18) where
      pub owner_small : (rest : List Tile) → Pass rest x us → get_or us x 0 < 2 ^ 18
      owner_small [] P = absurd (omega (arith, ap first_of P.gaps))
      owner_small (idle m ∷ ts) P = absurd (omega (arith, ap first_of P.gaps))
      owner_small (used m ∷ ts) P =
          let L = P.blocks.0 in
          omega (arith, owner x m ts us P more high, in_store B o L.a (label x L.n L.b L.q L.t) L.labelled, o.most)

      pub pass_on : (rest : List Tile) → Pass rest x us → (k : ℕ) → k ≡ block_size us x → (vs : List ℕ) → vs ≡ renamed_at e n x us
          → (ts : List Tile) × Pass ts (x + k) vs
      pass_on [] P k s vs w = absurd (omega (arith, ap first_of P.gaps))
      pass_on (idle m ∷ ts) P k s vs w = absurd (omega (arith, ap first_of P.gaps))
      pass_on (used m ∷ ts) P k s vs w = (
        ts,
        subst (λ (j : ℕ). Pass ts (x + j) vs) (sym (s ∙ size_read x m ts us P more high))
            (subst (Pass ts (x + m)) (sym w) (over x m ts us P more high)),
      )

    -- ── At the end ───────────────────────────────────────────────────────

    -- where all live words lie before x, each names what it should
    pub passed_all : (x : ℕ) → ((y : ℕ) (w : Says) → In C y w → y < x) → (y : ℕ) (w : Says) → In C y w → said x y w ≡ says_moved (above e n) w
    passed_all x all y (label s k b q t) m =
        let K : Block B.count C y s k b q t = laws B o y (label s k b q t) m in
        ap (λ (z : ℕ). label z k b q t) (cond-true _ _ _ (lt-ltb s x (all s (back y) K.refers)))
    passed_all x all y none m = refl
    passed_all x all y (back a) m = ap back (cond-true _ _ _ (lt-ltb y x (all y (back a) m)))
    passed_all x all y (datum v) m = refl
