-- The step of the scan over a block, as `move_block` takes it.
use Rattle.std.proofs.Common.{◌≡◌, ℕ, zero, suc, ◌+◌, ◌-◌, ◌^◌, ◌<◌, ◌≤◌, Bool, true, false, ◌≢◌, List, [], ◌∷◌, length, get_or, set, sym, refl, ap, ◌∙◌, subst, inl, inr, arith}
use Rattle.codeword.specs.Codeword.{unpacked}
use Rattle.codeword.specs.declared.Codeword.{Codeword}
use Rattle.layout.specs.Arrangement.{Arrangement}
use Rattle.layout.specs.Sound.{Sound}
use Rattle.layout.specs.Words.{Says, back, datum, label, labelling, none, word}
use Rattle.layout.proofs.Frame.{live}
use Rattle.layout.proofs.Live.{Block, In, Sort, labels, laws, vacant}
use Rattle.layout.proofs.Order.{Tile, idle, used}
use Rattle.layout.proofs.Scan.{Walk, block_after, block_before, gap_on, moving}
use Rattle.layout.proofs.Step.{Move, State, block, element_says, half, its_code, label_reads, moves, owner, relabels, renew_end, renew_label, renew_no, renew_none, renew_start}
use Rattle.std.proofs.lemmas.Bool.{cases_eq, cond-false, cond-true, le-ltb, lt-ltb}
use Rattle.placement.specs.Moves.{OverBlock, OverGap, aimed, block_size, renewed, renewed_at, stepped}
use Rattle.store.proofs.Moved.{length_copied}
use Rattle.store.specs.Edits.{copied}
use Rattle.placement.proofs.Moves.{copied_at, length_stepped, stepped_is}

module _ (A : Arrangement) (o : Sound A) (M : Move A) (ws : List ℕ) where
  abbrev f : ℕ → ℕ
  f = M.f

  abbrev g : ℕ → ℕ
  g = M.g

  abbrev x : ℕ
  x = M.x

  abbrev to : ℕ
  to = M.to

  abbrev n : ℕ
  n = M.n

  -- what the codeword says, from some address on
  abbrev says_at : ℕ → Says
  says_at k = label k n M.b M.q M.t

  abbrev St : (ℕ → ℕ) → (ℕ → ℕ) → (ℕ → ℕ) → List ℕ → Type 0
  St = State A o M ws

  abbrev upto : ℕ → ℕ → ℕ
  upto = half A o M ws

  its_block : Block A.count (live A.names) M.a x n M.b M.q M.t
  its_block = block A o M ws

  -- ── The elements one after another ───────────────────────────────────

  renew_one : (i : ℕ) (us : List ℕ) (w : Says) → i < n → In (live A.names) (x + 1 + i) w → Sort true w
      → St g g (upto i) us → St g g (upto (suc i)) (renewed_at (to + 1 + i) us)
  renew_one i us none lt m vacant s =
      let z : get_or us (to + 1 + i) 0 ≡ 0 = element_says A o M ws i (upto i) us none lt m s in
      let e : renewed_at (to + 1 + i) us ≡ us = cond-false _ _ _ (le-ltb 0 (unpacked (get_or us (to + 1 + i) 0)).first (omega arith)) in
      subst (St g g (upto (suc i))) (sym e) (renew_none A o M ws i us m s)
  renew_one i us (back k) lt m z s = elim z [ ]
  renew_one i us (datum w) lt m z s = elim z [ ]
  renew_one i us (label u v c r ty) lt m (labels _ _ _ _ _) s =
      let B : Block A.count (live A.names) (x + 1 + i) u v c r ty = laws A o (x + 1 + i) (label u v c r ty) m in
      let says = element_says A o M ws i (upto i) us (label u v c r ty) lt m s in
      let first : (unpacked (get_or us (to + 1 + i) 0)).first ≡ g u + 1 =
      ap (λ (k : ℕ). (unpacked k).first) says
      ∙ ap (λ (k : Codeword). k.first) (label_reads A.count (live A.names) (x + 1 + i) u v c r ty (g u) o.most B (M.falls u).1) in
      let e : renewed_at (to + 1 + i) us ≡ set us (g u) (to + 1 + i) =
      cond-true _ _ _ (lt-ltb 0 (unpacked (get_or us (to + 1 + i) 0)).first (omega arith))
      ∙ ap (λ (k : ℕ). set us k (to + 1 + i)) (let p : (unpacked (get_or us (to + 1 + i) 0)).first - 1 ≡ g u = omega arith in p) in
      subst (St g g (upto (suc i))) (sym e) (renew_label A o M ws i u v c r ty us lt m s)

  renew_all : M.q ≡ true → (i : ℕ) → i ≤ n → (us : List ℕ) → St g g (upto 0) us → St g g (upto i) (renewed i (to + 1) us)
  unfolding renewed
  renew_all e zero lt us s = s
  renew_all e (suc i) lt us s =
      let h = its_block.holds i (omega arith) in
      renew_one i (renewed i (to + 1) us) h.0 (omega arith) h.1 (subst (λ (k : Bool). Sort k h.0) e h.2) (renew_all e i (omega arith) us s)

  -- ── The whole step ───────────────────────────────────────────────────

  reads : unpacked (word (says_at x)) ≡ labelling (x + 1) n M.b M.q M.t
  reads = label_reads A.count (live A.names) M.a x n M.b M.q M.t x o.most its_block (omega arith)

  aim : aimed (word (says_at x)) (to + 1) ≡ word (says_at to)
  aim =
      let i = its_block.inside in
      let m = its_block.some in
      let few = o.most in
      let fall = M.fall in
      omega (arith, ap (λ (k : Codeword). k.first) reads)

  module _ (s : St f f f ws) where
    at_owner : get_or ws x 0 ≡ f M.a
    at_owner = owner A o M ws s

    code_is : get_or ws (f M.a) 0 ≡ word (says_at x)
    code_is = its_code A o M ws s

    pub size_read : (unpacked (get_or ws (get_or ws x 0) 0)).length ≡ n
    size_read = ap (λ (k : ℕ). (unpacked (get_or ws k 0)).length) at_owner ∙ ap (λ (k : ℕ). (unpacked k).length) code_is ∙ ap (λ (k : Codeword). k.length) reads

    pub steps : St g g g (stepped x to ws)
    steps =
        let us = copied (n + 1) x to ws in
        let vs = set us (f M.a) (aimed (word (says_at x)) (to + 1)) in
        let there : St g g f vs =
        subst (λ (k : ℕ). St g g f (set us (f M.a) k)) (sym aim)
        (relabels A o M ws us
        (moves A o M ws us (length_copied (n + 1) x to ws) (copied_at (n + 1) x to ws M.fall) s)) in
        let is = stepped_is x to ws (f M.a) (word (says_at x)) n M.q at_owner code_is (ap (λ (k : Codeword). k.length) reads) (ap (λ (k : Codeword). k.r) reads) in
        elim M.q as (λ (z : Bool). z ≡ M.q → St g g g (stepped x to ws)) [
          | true ↦ λ e.
              subst (St g g g) (sym (is ∙ cond-true _ _ _ (sym e)))
              (renew_end A o M ws (renewed n (to + 1) vs)
              (renew_all (sym e) n (omega arith) vs (renew_start A o M ws vs there)))
          | false ↦ λ e.
              subst (St g g g) (sym (is ∙ cond-false _ _ _ (sym e))) (renew_no A o M ws (sym e) vs there)
        ] refl

-- the scan goes on past a block
pub block_on : (A : Arrangement) (o : Sound A) (x to link : ℕ) (ws : List ℕ) → x < A.count → (rest : List Tile) → Walk A rest x to link ws → x ≢ link
    → (m : ℕ) → m ≡ block_size ws x → (ts : List Tile) × Walk A ts (x + m) (to + m) link (stepped x to ws)
unfolding moving
block_on A o x to link ws more [] W away m e = absurd (omega (arith, W.scan.filled))
block_on A o x to link ws more (idle n ∷ ts) W away m e = absurd (away (sym W.linked))
block_on A o x to link ws more (used k ∷ ts) W away m e =
    let M = moving A o x to link ws more k ts W in
    let before = block_before A o x to link ws more k ts W in
    let size : m ≡ k = omega (arith, W.scan.blocks.0.sized, size_read A o M ws before) in (
      ts,
      subst (λ (j : ℕ). Walk A ts (x + j) (to + j) link (stepped x to ws)) (sym size)
          (block_after A o x to link ws more k ts W (stepped x to ws) (steps A o M ws before)),
    )

-- one step of closing up, whichever it is
module _ (at to link : ℕ) (ws : List ℕ) (at' to' link' : ℕ) (ws' : List ℕ)
    (gap : at ≡ link → OverGap at to link ws at' to' link' ws') (block : (at ≡ link → ⊥) → OverBlock at to link ws at' to' link' ws') where
  pub step_bounds : at < 2 ^ 18 → (at' ≤ 2 ^ 19) × (length ws' ≡ length ws)
  step_bounds l =
      elim (cases_eq at link) [
        | inl e ↦ let g = gap e in (omega arith, ap length g.3)
        | inr e ↦ let b = block e in (omega arith, ap length b.3 ∙ length_stepped at to ws)
      ]

  pub step_walk : (A : Arrangement) → Sound A → at < A.count → (rest : List Tile) → Walk A rest at to link ws → (ts : List Tile) × Walk A ts at' to' link' ws'
  step_walk A o more rest W =
      elim (cases_eq at link) [
        | inl e ↦
            let g = gap e in
            rw (g.0, g.1, g.2, g.3) (gap_on A o at to link ws more rest W e _ refl)
        | inr e ↦
            let b = block e in
            rw (b.0, b.1, b.2, b.3) (block_on A o at to link ws more rest W e _ refl)
      ]
