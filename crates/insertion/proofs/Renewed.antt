-- Back-references renewed one after another: which words change, and what they then are.
use Rattle.std.proofs.Common.{◌≡◌, ℕ, zero, suc, ◌+◌, ◌-◌, ◌^◌, ◌<◌, ◌≤◌, Bool, true, false, ◌≢◌, List, length, get_or, set, ℤ, sym, refl, ap, ◌∙◌, subst, inl, inr, arith}
use Rattle.std.proofs.lemmas.Bool.{cases_eq, cond-false, cond-true, le-ltb, lt-ltb}
use Rattle.std.proofs.lemmas.List.{get_or-set_other, get_or-set_same}
use Rattle.codeword.proofs.Packing.{unpacked_packed}
use Rattle.codeword.specs.Codeword.{unpacked}
use Rattle.codeword.specs.declared.Codeword.{Codeword}
use lib.Signed.{mag}
use Rattle.layout.specs.Arrangement.{Codes, Data, Placed, Vacant}
use Rattle.layout.specs.Words.{label, labelling, word}
use Rattle.layout.proofs.Bridge.{Fits}
use Rattle.layout.proofs.Tops.{code, starts}
use Rattle.layout.proofs.Hits.{here, here_no}
use Rattle.layout.proofs.Written.{not_here}
use Rattle.placement.specs.Moves.{renewed, renewed_at}
use Rattle.placement.proofs.Moves.{length_renewed}

pub is_here : (y s : ℕ) → 1 ≤ here y s → y ≡ s
is_here y s h = elim (cases_eq y s) [ inl e ↦ e | inr ne ↦ absurd (omega (arith, here_no y s (λ e. ne (sym e)))) ]

-- ── One codeword ───────────────────────────────────────────────────────

module _ (us : List ℕ) (at : ℕ) where
  renewed_none : get_or us at 0 ≡ 0 → renewed_at at us ≡ us
  renewed_none z = cond-false _ _ _ (le-ltb 0 (unpacked (get_or us at 0)).first (omega arith))

  renewed_some : (s n : ℕ) (b : ℤ) (q : Bool) (t : ℕ) → s + 1 + n ≤ 2 ^ 18 → 1 ≤ n → mag b < 2 ^ 15 → t ≤ 2
      → get_or us at 0 ≡ word (label s n b q t) → renewed_at at us ≡ set us s at
  renewed_some s n b q t i some base kind e =
      let first : (unpacked (get_or us at 0)).first ≡ s + 1 =
      ap (λ (w : ℕ). (unpacked w).first) e
      ∙ ap (λ (c : Codeword). c.first) (unpacked_packed (labelling (s + 1) n b q t) (omega arith, omega arith, omega arith) (record { sfits = base })) in
      cond-true _ _ _ (lt-ltb 0 (unpacked (get_or us at 0)).first (omega arith))
      ∙ ap (λ (k : ℕ). set us k at) (let p : (unpacked (get_or us at 0)).first - 1 ≡ s = omega arith in p)

  module _ (count : ℕ) (few : count ≤ 2 ^ 18) where
    one_other : (d : ℕ) (p : Placed d) → Fits count d p → get_or us at 0 ≡ code d p → (y : ℕ) → starts y d p ≡ 0 → get_or (renewed_at at us) y 0 ≡ get_or us y 0
    one_other zero p g e y h = ap (λ (vs : List ℕ). get_or vs y 0) (renewed_none e)
    one_other (suc d) Vacant g e y h = ap (λ (vs : List ℕ). get_or vs y 0) (renewed_none e)
    one_other (suc d) (Data s b t vs) g e y h =
        ap (λ (xs : List ℕ). get_or xs y 0) (renewed_some s (length vs) b false t (omega (arith, g.2)) g.0 g.3 g.4 e)
        ∙ get_or-set_other us s y at 0 (not_here y s h)
    one_other (suc d) (Codes s b ps) g e y h =
        ap (λ (xs : List ℕ). get_or xs y 0) (renewed_some s (length ps) b true 0 (omega (arith, g.2)) g.0 g.3 (omega arith) e)
        ∙ get_or-set_other us s y at 0 (not_here y s h)

    one_here : (d : ℕ) (p : Placed d) → Fits count d p → get_or us at 0 ≡ code d p → (y : ℕ) → 1 ≤ starts y d p → y < length us → get_or (renewed_at at us) y 0 ≡ at
    one_here zero p g e y h l = absurd (omega arith)
    one_here (suc d) Vacant g e y h l = absurd (omega arith)
    one_here (suc d) (Data s b t vs) g e y h l =
        let k = is_here y s h in
        ap (λ (xs : List ℕ). get_or xs y 0) (renewed_some s (length vs) b false t (omega (arith, g.2)) g.0 g.3 g.4 e)
        ∙ ap (λ (z : ℕ). get_or (set us s at) z 0) k ∙ get_or-set_same us s at 0 (omega arith)
    one_here (suc d) (Codes s b ps) g e y h l =
        let k = is_here y s h in
        ap (λ (xs : List ℕ). get_or xs y 0) (renewed_some s (length ps) b true 0 (omega (arith, g.2)) g.0 g.3 (omega arith) e)
        ∙ ap (λ (z : ℕ). get_or (set us s at) z 0) k ∙ get_or-set_same us s at 0 (omega arith)

-- ── Those in a row ─────────────────────────────────────────────────────

-- codewords from a on label blocks that begin at addresses of their own, past all of the codewords
module _ (d a m : ℕ) (vs : List ℕ) (q : ℕ → Placed d) (few : length vs ≤ 2 ^ 18)
    (fit : (j : ℕ) → j < m → Fits (length vs) d (q j)) (codes : (j : ℕ) → j < m → get_or vs (a + j) 0 ≡ code d (q j))
    (apart : (y j : ℕ) → j < m → a ≤ y → y < a + m → starts y d (q j) ≡ 0)
    (once : (y i j : ℕ) → i < m → j < m → i ≢ j → starts y d (q i) + starts y d (q j) ≤ 1) where
  pub renewed_other : (i : ℕ) → i ≤ m → (y : ℕ) → ((j : ℕ) → j < i → starts y d (q j) ≡ 0) → get_or (renewed i a vs) y 0 ≡ get_or vs y 0
  unfolding renewed
  renewed_other zero l y h = refl
  renewed_other (suc i) l y h =
      one_other (renewed i a vs) (a + i) (length vs) few d (q i) (fit i (omega arith))
      (renewed_other i (omega arith) (a + i) (λ j k. apart (a + i) j (omega arith) (omega arith) (omega arith)) ∙ codes i (omega arith)) y (h i (omega arith))
      ∙ renewed_other i (omega arith) y (λ j k. h j (omega arith))

  code_at : (i : ℕ) → i < m → get_or (renewed i a vs) (a + i) 0 ≡ code d (q i)
  code_at i l = renewed_other i (omega arith) (a + i) (λ j k. apart (a + i) j (omega arith) (omega arith) (omega arith)) ∙ codes i l

  pub renewed_here : (i : ℕ) → i ≤ m → (j : ℕ) → j < i → (y : ℕ) → 1 ≤ starts y d (q j) → y < length vs → get_or (renewed i a vs) y 0 ≡ a + j
  unfolding renewed
  renewed_here zero l j k y h b = absurd (omega arith)
  renewed_here (suc i) l j k y h b =
      elim (cases_eq j i) [
        | inl e ↦
            one_here (renewed i a vs) (a + i) (length vs) few d (q i) (fit i (omega arith)) (code_at i (omega arith)) y
            (subst (λ (z : ℕ). 1 ≤ starts y d (q z)) e h) (omega (arith, length_renewed i a vs)) ∙ ap (λ (z : ℕ). a + z) (sym e)
        | inr ne ↦
            one_other (renewed i a vs) (a + i) (length vs) few d (q i) (fit i (omega arith)) (code_at i (omega arith)) y
            (omega (arith, once y j i (omega arith) (omega arith) ne))
            ∙ renewed_here i (omega arith) j (let p : j ≢ i = ne in omega arith) y h b
      ]
