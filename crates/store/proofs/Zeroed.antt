-- What a list holds once some of its words are 0, place by place.
use Rattle.std.proofs.Common.{◌≡◌, ℕ, ◌+◌, ◌-◌, ◌<◌, ◌≤◌, min, List, ◌++◌, length, get_or, take, drop, replicate, sym, ap, ◌∙◌, inl, inr, append_assoc, arith, length-append, length-drop, length-take}
use lib.ListN.{length-replicate}
use Rattle.std.proofs.lemmas.List.{get_or-replicate, get_or_append_left, get_or-append_right, get_or-drop, get_or_past, get_or-take}
use Rattle.std.proofs.lemmas.Bool.{cases_lt}
use Rattle.store.specs.Edits.{zeroed, zeros}

module _ (ws : List ℕ) (from n : ℕ) where
  abbrev m : ℕ
  m = min n (length ws - from)

  parts : zeroed ws from n ≡ take from ws ++ (replicate m 0 ++ drop (from + m) ws)
  unfolding zeros
  parts = append_assoc (take from ws) (replicate m 0) (drop (from + m) ws)

  pub length_zeroed : length (zeroed ws from n) ≡ length ws
  unfolding zeros
  length_zeroed = simp (length-append, length-take, length-replicate, length-drop) (omega arith)

  past : (k : ℕ) → length ws ≤ k → get_or (zeroed ws from n) k 0 ≡ 0
  past k h = get_or_past _ k 0 (omega (arith, length_zeroed))

  pub zeroed_below : (k : ℕ) → k < from → get_or (zeroed ws from n) k 0 ≡ get_or ws k 0
  zeroed_below k h =
      elim (cases_lt k (length ws)) [
        | inl l ↦ ap (λ (l : List ℕ). get_or l k 0) parts ∙ get_or_append_left (take from ws) _ 0 k (simp length-take (omega arith)) ∙ get_or-take from ws k 0 h
        | inr l ↦ past k l ∙ sym (get_or_past ws k 0 l)
      ]

  -- past the words before them
  behind : (k : ℕ) → from ≤ k → k < length ws → get_or (zeroed ws from n) k 0 ≡ get_or (replicate m 0 ++ drop (from + m) ws) (k - from) 0
  behind k h l = ap (λ (l : List ℕ). get_or l k 0) parts ∙ get_or-append_right (take from ws) _ from k 0 (simp length-take (omega arith)) h

  pub zeroed_above : (k : ℕ) → from + n ≤ k → get_or (zeroed ws from n) k 0 ≡ get_or ws k 0
  zeroed_above k h =
      elim (cases_lt k (length ws)) [
        | inl l ↦
            behind k (omega arith) l
            ∙ get_or-append_right (replicate m 0) (drop (from + m) ws) m (k - from) 0 (length-replicate m 0) (omega arith)
            ∙ get_or-drop (from + m) ws (k - from - m) 0
            ∙ ap (λ (i : ℕ). get_or ws i 0) (omega arith)
        | inr l ↦ past k l ∙ sym (get_or_past ws k 0 l)
      ]

  pub zeroed_at : (k : ℕ) → from ≤ k → k < from + n → get_or (zeroed ws from n) k 0 ≡ 0
  zeroed_at k h l =
      elim (cases_lt k (length ws)) [
        | inl b ↦
            behind k h b
            ∙ get_or_append_left (replicate m 0) (drop (from + m) ws) 0 (k - from) (simp length-replicate (omega arith))
            ∙ get_or-replicate m (k - from) 0 0 (omega arith)
        | inr b ↦ past k b
      ]
