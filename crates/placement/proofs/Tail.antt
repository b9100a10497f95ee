-- One gap behind the blocks.
use Rattle.std.proofs.Common.{◌≡◌, ℕ, ◌+◌, ◌-◌, ◌*◌, ◌^◌, ◌<◌, ◌≤◌, List, [], ◌∷◌, length, get_or, set, sym, ap, ◌∙◌, subst, inl, inr, arith}
use Rattle.std.proofs.lemmas.List.{get_or-set_other, get_or-set_same, length-set}
use Rattle.std.proofs.lemmas.Bool.{cases_lt, cond-false, cond-true, eq-eqb, ne_eqb}
use Rattle.layout.specs.Arrangement.{Arrangement}
use Rattle.layout.specs.Chains.{Chained}
use Rattle.codeword.specs.Heads.{head_word}
use Rattle.layout.specs.Gaps.{a_gap}
use Rattle.layout.specs.Holds.{Displays}
use Rattle.layout.specs.Keeping.{tidied}
use Rattle.layout.specs.Sound.{Sound}
use Rattle.layout.proofs.Chains.{gap_some}
use Rattle.layout.proofs.End.{closes, ends}
use Rattle.layout.proofs.Laws.{tidy_left}
use Rattle.layout.proofs.Order.{Tile}
use Rattle.layout.proofs.Scan.{Walk}
use Rattle.placement.specs.Gaps.{gap_from}
use Rattle.store.specs.Edits.{zeroed}
use Rattle.store.proofs.Zeroed.{zeroed_at, zeroed_below, length_zeroed}

module _ (at : ℕ) (ws : List ℕ) where
  abbrev left : ℕ
  left = length ws - at

  none_left : left ≡ 0 → gap_from at ws ≡ set ws 0 (head_word 0 0)
  none_left e = cond-true _ _ _ (eq-eqb left 0 e)

  some_left : 1 ≤ left → gap_from at ws ≡ set (set (zeroed ws at left) at (head_word left 0)) 0 (head_word left at)
  some_left h = cond-false _ _ _ (ne_eqb left 0 (λ e. omega arith))

  pub length_gap_from : length (gap_from at ws) ≡ length ws
  length_gap_from =
      elim (cases_lt 0 left) [
        | inl h ↦ ap length (some_left h) ∙ length-set _ 0 _ ∙ length-set _ at _ ∙ length_zeroed ws at left
        | inr h ↦ ap length (none_left (omega arith)) ∙ length-set ws 0 _
      ]

  pub gap_from_below : (y : ℕ) → 1 ≤ y → y < at → get_or (gap_from at ws) y 0 ≡ get_or ws y 0
  gap_from_below y lo hi =
      elim (cases_lt 0 left) [
        | inl h ↦
            ap (λ (us : List ℕ). get_or us y 0) (some_left h)
            ∙ get_or-set_other _ 0 y _ 0 (λ e. omega arith) ∙ get_or-set_other _ at y _ 0 (λ e. omega arith) ∙ zeroed_below ws at left y hi
        | inr h ↦ ap (λ (us : List ℕ). get_or us y 0) (none_left (omega arith)) ∙ get_or-set_other ws 0 y _ 0 (λ e. omega arith)
      ]

  module _ (lo : 65 ≤ at) (hi : at ≤ length ws) (few : length ws ≤ 2 ^ 18) where
    chained_some : 1 ≤ left → Chained (gap_from at ws) (record { start = at; size = left } ∷ [])
    chained_some h =
        let vs = zeroed ws at left in
        let ts = set vs at (head_word left 0) in
        let us = set ts 0 (head_word left at) in
        let lv = length_zeroed ws at left in
        let lt : length ts ≡ length ws = length-set vs at _ ∙ lv in
        let lu : length us ≡ length ws = length-set ts 0 _ ∙ lt in
        subst (λ (xs : List ℕ). Chained xs (record { start = at; size = left } ∷ [])) (sym (some_left h)) record {
          few = omega arith;
          rising = (lo, h, omega arith);
          header = get_or-set_same ts 0 _ 0 (omega arith) ∙ (let p : head_word left at ≡ (left + 0) + 2 ^ 18 * at = omega arith in p);
          chain = (
            get_or-set_other ts 0 at _ 0 (λ e. omega arith)
                ∙ get_or-set_same vs at _ 0 (omega arith)
                ∙ (let p : head_word left 0 ≡ left + 2 ^ 18 * 0 = omega arith in p),
            (λ k low high.
                get_or-set_other ts 0 (at + k) _ 0 (λ e. omega arith)
                ∙ get_or-set_other vs at (at + k) _ 0 (λ e. omega arith)
                ∙ zeroed_at ws at left (at + k) (omega arith) (omega arith)),
            tt,
          );
        }

    pub gap_from_chained : Chained (gap_from at ws) (a_gap at (length (gap_from at ws) - at))
    gap_from_chained =
        subst (λ (k : ℕ). Chained (gap_from at ws) (a_gap at (k - at))) (sym length_gap_from)
        (elim (cases_lt 0 left) [
          | inl h ↦ subst (Chained (gap_from at ws)) (sym (gap_some at left h)) (chained_some h)
          | inr h ↦
              let z : left ≡ 0 = omega arith in
              subst (λ (k : ℕ). Chained (gap_from at ws) (a_gap at k)) (sym z)
              (subst (λ (us : List ℕ). Chained us []) (sym (none_left z)) record {
                few = omega (arith, length-set ws 0 (head_word 0 0));
                rising = omega (arith, length-set ws 0 (head_word 0 0));
                header = get_or-set_same ws 0 _ 0 (omega arith);
                chain = tt;
              })
        ])

-- the scan's words, with that gap, are the tidied ones
pub tidied_so : (A : Arrangement) (o : Sound A) (ws : List ℕ) → Displays ws A → (rest : List Tile) (x to link : ℕ) (us : List ℕ)
    → Walk A rest x to link us → A.count ≤ x → gap_from to us ≡ tidied ws
tidied_so A o ws s rest x to link us W over =
    let e = ends A o rest x to link us W over in
    let few = o.most in
    let long = W.long in
    tidy_left ws (gap_from to us) A o s
    (closes A o rest x to link us W over (gap_from to us) (length_gap_from to us) (gap_from_below to us)
    (gap_from_chained to us e.2 (omega arith) (omega arith)))
