-- Words moved one after another.
use Rattle.std.proofs.Common.{◌≡◌, ℕ, zero, suc, ◌+◌, ◌-◌, ◌<◌, ◌≤◌, min, List, length, get_or, set, sym, refl, ap, ◌∙◌, inl, inr, add-one, arith}
use Rattle.std.proofs.lemmas.Bool.{cases_lt}
use Rattle.std.proofs.lemmas.List.{get_or_past, length-set, set_past}
use Rattle.store.proofs.Copies.{zero_more, zero_none}
use Rattle.store.proofs.Zeroed.{length_zeroed}
use Rattle.store.specs.Edits.{copied, lifted, zeroed, zeros}

pub length_copied : (n from to : ℕ) (ws : List ℕ) → length (copied n from to ws) ≡ length ws
unfolding copied
length_copied zero from to ws = refl
length_copied (suc n) from to ws = length-set _ _ _ ∙ length_copied n from to ws

pub copied_none : (from to : ℕ) (ws : List ℕ) → ws ≡ copied 0 from to ws
unfolding copied
copied_none from to ws = refl

pub copied_next : (i from to w : ℕ) (ws us : List ℕ) → us ≡ copied i from to ws → w ≡ get_or us (from + i) 0
    → set us (to + i) w ≡ copied (i + 1) from to ws
unfolding copied
copied_next i from to w ws us e r =
    ap (λ (k : ℕ). set us (to + i) k) r ∙ ap (λ (zs : List ℕ). set zs (to + i) (get_or zs (from + i) 0)) e
    ∙ ap (λ (k : ℕ). copied k from to ws) (sym (add-one i))

-- one word more becomes 0, if there is one
zeroed_next : (ws : List ℕ) (from m : ℕ) → set (zeroed ws from m) (from + m) 0 ≡ zeroed ws from (suc m)
zeroed_next ws from m =
    let zs = zeroed ws from m in
    elim (cases_lt (from + m) (length ws)) [
      | inl h ↦
          let n : ℕ = from + m + 1 - from in
          let here : zs ≡ zeros ws from (from + m - from) = ap (zeros ws from) (omega arith) in
          let next : set zs (from + m) 0 ≡ zeros ws from n = zero_more ws zs from (from + m) here (omega arith) h in
          let is : n ≡ min (suc m) (length ws - from) = omega arith in
          next ∙ ap (zeros ws from) is
      | inr h ↦
          let stays : set zs (from + m) 0 ≡ zs = set_past zs (from + m) 0 (omega (arith, length_zeroed ws from m)) in
          let is : min m (length ws - from) ≡ min (suc m) (length ws - from) = omega arith in
          stays ∙ ap (zeros ws from) is
    ]

-- of m words past the last, 0 is copied
copied_zeros : (m a from to : ℕ) (ws : List ℕ) → length ws ≤ from + a → copied (m + a) from to ws ≡ zeroed (copied a from to ws) (to + a) m
unfolding copied
copied_zeros zero a from to ws h =
    let us = copied a from to ws in
    let is : 0 + a ≡ a = omega arith in
    ap (λ (i : ℕ). copied i from to ws) is ∙ zero_none us (to + a) (min zero (length us - (to + a))) (omega arith)
copied_zeros (suc m) a from to ws h =
    let here : to + (m + a) ≡ to + a + m = omega arith in
    let one : suc m + a ≡ suc (m + a) = omega arith in
    ap (λ (i : ℕ). copied i from to ws) one
    ∙ ap (set (copied (m + a) from to ws) (to + (m + a))) (get_or_past _ (from + (m + a)) 0 (omega (arith, length_copied (m + a) from to ws)))
    ∙ ap (λ (i : ℕ). set (copied (m + a) from to ws) i 0) here
    ∙ ap (λ (zs : List ℕ). set zs (to + a + m) 0) (copied_zeros m a from to ws h)
    ∙ zeroed_next (copied a from to ws) (to + a) m

pub copied_past : (n a from to : ℕ) (ws us vs : List ℕ) → a ≡ min n (length ws - from) → a < n → us ≡ copied a from to ws → vs ≡ zeroed us (to + a) (n - a)
    → vs ≡ copied n from to ws
copied_past n a from to ws us vs e h u v =
    let all : n - a + a ≡ n = omega arith in
    v ∙ ap (λ (zs : List ℕ). zeroed zs (to + a) (n - a)) u ∙ sym (copied_zeros (n - a) a from to ws (omega (arith, e)))
    ∙ ap (λ (i : ℕ). copied i from to ws) all

-- where there are as many words, all are copied
pub copied_there : (n a from to : ℕ) (ws us : List ℕ) → a ≤ n → n ≤ a → us ≡ copied a from to ws → us ≡ copied n from to ws
copied_there n a from to ws us le ge u = let same : a ≡ n = omega arith in u ∙ ap (λ (i : ℕ). copied i from to ws) same

pub length_lifted : (n from by : ℕ) (ws : List ℕ) → length (lifted n from by ws) ≡ length ws
unfolding lifted
length_lifted zero from by ws = refl
length_lifted (suc i) from by ws = length_lifted i from by _ ∙ length-set ws (from + i + by) _

pub lifted_next : (from e e' i by w : ℕ) (ws : List ℕ) → i ≡ e' → e' + 1 ≡ e → w ≡ get_or ws (from + i) 0
    → lifted e' from by (set ws (from + i + by) w) ≡ lifted e from by ws
unfolding lifted
lifted_next from e e' i by w ws is back read =
    ap (λ (v : ℕ). lifted e' from by (set ws (from + i + by) v)) read
    ∙ ap (λ (k : ℕ). lifted e' from by (set ws (from + k + by) (get_or ws (from + k) 0))) is
    ∙ ap (λ (k : ℕ). lifted k from by ws) (sym (add-one e') ∙ back)

pub lifted_none : (e from by : ℕ) (ws : List ℕ) → e ≡ 0 → lifted e from by ws ≡ ws
unfolding lifted
lifted_none e from by ws h = ap (λ (k : ℕ). lifted k from by ws) h

-- what would be written past the last word is not
lifted_beyond : (m a from by : ℕ) (ws : List ℕ) → length ws ≤ from + by + a → lifted (m + a) from by ws ≡ lifted a from by ws
unfolding lifted
lifted_beyond zero a from by ws h = let is : 0 + a ≡ a = omega arith in ap (λ (i : ℕ). lifted i from by ws) is
lifted_beyond (suc m) a from by ws h =
    let one : suc m + a ≡ suc (m + a) = omega arith in
    ap (λ (i : ℕ). lifted i from by ws) one
    ∙ ap (lifted (m + a) from by) (set_past ws (from + (m + a) + by) _ (omega arith)) ∙ lifted_beyond m a from by ws h

pub lifted_past : (n a from by : ℕ) (ws us : List ℕ) → a ≡ min n (length ws - (from + by)) → us ≡ lifted a from by ws → us ≡ lifted n from by ws
lifted_past n a from by ws us e u =
    let all : n - a + a ≡ n = omega (arith, e) in
    elim (cases_lt a n) [
      | inl h ↦ u ∙ sym (lifted_beyond (n - a) a from by ws (omega (arith, e))) ∙ ap (λ (i : ℕ). lifted i from by ws) all
      | inr h ↦ let same : a ≡ n = omega (arith, e) in u ∙ ap (λ (i : ℕ). lifted i from by ws) same
    ]
