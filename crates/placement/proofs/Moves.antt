-- The list functions that the loops compute: each turn, and each word after.
use Rattle.std.proofs.Common.{◌≡◌, ℕ, zero, suc, ◌+◌, ◌-◌, ◌<◌, ◌≤◌, Bool, cond, ltb, ◌≢◌, ◌⊎◌, List, length, get_or, set, sym, refl, ap, ◌∙◌, inl, inr, add-one, arith}
use Rattle.codeword.specs.Codeword.{unpacked}
use Rattle.std.proofs.lemmas.List.{get_or_past, get_or-set_other, get_or-set_same, length-set, set_past}
use Rattle.std.proofs.lemmas.Bool.{cases_eq, cases_lt, cond_both}
use Rattle.layout.proofs.Step.{copied_above, copied_below, copied_in, copied_word}
use Rattle.store.proofs.Moved.{length_copied}
use Rattle.store.specs.Edits.{copied}
use Rattle.placement.specs.Moves.{aimed, renewed, renewed_at, stepped}

-- after a set the word at k is the new one, at its address within the words, and else the old one
pub at_set : (ws : List ℕ) (a w k : ℕ) → ((k ≡ a) × (a < length ws) × (get_or (set ws a w) k 0 ≡ w)) ⊎ ((k ≡ a → length ws ≤ a) × (get_or (set ws a w) k 0 ≡ get_or ws k 0))
at_set ws a w k =
    elim (cases_eq k a) [
      | inl e ↦ elim (cases_lt a (length ws)) [
        | inl lt ↦ inl (e, lt, rw e (get_or-set_same ws a w 0 lt))
        | inr past ↦ inr (λ _. past, rw (set_past ws a w past) refl)
      ]
      | inr ne ↦ inr (λ e. absurd (ne e), get_or-set_other ws a k w 0 ne)
    ]

-- ── Words copied, a block moved ────────────────────────────────────────

copy_more : (ws vs : List ℕ) (i from to w : ℕ) → to ≤ from → length vs ≡ length ws → ((k : ℕ) → get_or vs k 0 ≡ copied_word i from to ws k)
    → w ≡ get_or vs (from + i) 0 → (k : ℕ) → get_or (set vs (to + i) w) k 0 ≡ copied_word (i + 1) from to ws k
copy_more ws vs i from to w le len inv e k =
    let f : w ≡ get_or ws (from + i) 0 = e ∙ inv (from + i) ∙ copied_above i from to ws (from + i) (omega arith) in
    elim (at_set vs (to + i) w k) [
      | inl s ↦
          let x : from + (k - to) ≡ from + i = omega arith in
          s.2 ∙ f ∙ sym (copied_in (i + 1) from to ws k (omega arith) (omega arith) ∙ ap (λ j. get_or ws j 0) x)
      | inr s ↦ elim (cases_eq k (to + i)) [
        | inl q ↦
            s.1 ∙ get_or_past vs k 0 (omega (arith, s.0 q))
            ∙ sym (copied_in (i + 1) from to ws k (omega arith) (omega arith) ∙ get_or_past ws _ 0 (omega (arith, s.0 q)))
        | inr ne ↦ s.1 ∙ inv k ∙ (let p : k ≢ to + i = ne in grind arith)
      ]
    ]

pub copied_at : (n from to : ℕ) (ws : List ℕ) → to ≤ from → (k : ℕ) → get_or (copied n from to ws) k 0 ≡ copied_word n from to ws k
unfolding copied
copied_at zero from to ws le k =
    elim (cases_lt k to) [ inl h ↦ sym (copied_below 0 from to ws k h) | inr h ↦ sym (copied_above 0 from to ws k (omega arith)) ]
copied_at (suc n) from to ws le k =
    copy_more ws (copied n from to ws) n from to _ le (length_copied n from to ws) (copied_at n from to ws le) refl k
    ∙ ap (λ i. copied_word i from to ws k) (add-one n)

pub length_renewed : (n at : ℕ) (ws : List ℕ) → length (renewed n at ws) ≡ length ws
unfolding renewed
length_renewed zero at ws = refl
length_renewed (suc n) at ws =
    let v = renewed n at ws in
    let first = (unpacked (get_or v (at + n) 0)).first in
    cond_both (ltb 0 first) (set v (first - 1) (at + n)) v (λ u. length u ≡ length ws)
    (λ _. length-set _ _ _ ∙ length_renewed n at ws) (λ _. length_renewed n at ws)

pub stepped_is : (from to : ℕ) (ws : List ℕ) (owner code n : ℕ) (r : Bool) → get_or ws from 0 ≡ owner → get_or ws owner 0 ≡ code
    → (unpacked code).length ≡ n → (unpacked code).r ≡ r
    → stepped from to ws ≡ cond r (renewed n (to + 1) (set (copied (n + 1) from to ws) owner (aimed code (to + 1))))
    (set (copied (n + 1) from to ws) owner (aimed code (to + 1)))
stepped_is from to ws owner code n r o c m d = simp (o, c, m, d)

pub length_stepped : (from to : ℕ) (ws : List ℕ) → length (stepped from to ws) ≡ length ws
length_stepped from to ws =
    let o : ℕ = get_or ws from 0 in
    let c : ℕ = get_or ws o 0 in
    let n : ℕ = (unpacked c).length in
    let u = copied (n + 1) from to ws in
    let v = set u o (aimed c (to + 1)) in
    let e : length v ≡ length ws = length-set u o (aimed c (to + 1)) ∙ length_copied (n + 1) from to ws in
    ap length (stepped_is from to ws o c n (unpacked c).r refl refl refl refl)
    ∙ cond_both (unpacked c).r (renewed n (to + 1) v) v (λ u. length u ≡ length ws) (λ _. length_renewed n (to + 1) v ∙ e) (λ _. e)

-- ── The loops over addresses ───────────────────────────────────────────

module _ (s i at : ℕ) (ws us : List ℕ) (lo : s ≤ i) (is : at ≡ i) where
  more : suc (i - s) ≡ i + 1 - s
  more = omega arith

  here : at ≡ s + (i - s)
  here = omega arith

  -- the block that the codeword at the next address labels is renewed too
  pub renewed_next : us ≡ renewed (i - s) s ws → renewed_at at us ≡ renewed (i + 1 - s) s ws
  unfolding renewed
  renewed_next e =
      ap (λ (k : ℕ). renewed_at k us) here
      ∙ ap (renewed_at (s + (i - s))) e
      ∙ ap (λ (k : ℕ). renewed k s ws) more

pub renewed_none : (s : ℕ) (ws : List ℕ) → ws ≡ renewed (s - s) s ws
unfolding renewed
renewed_none s ws = ap (λ (k : ℕ). renewed k s ws) (let e : 0 ≡ s - s = omega arith in e)
