-- Loops that write many words: no word yet, one more, and all.
use Rattle.std.proofs.Common.{◌≡◌, ℕ, ◌+◌, ◌-◌, ◌<◌, ◌≤◌, min, List, ◌++◌, map, length, length-take, length-drop, set, take, drop, replicate, sym, ap, ◌∙◌, add-zero, arith}
use lib.ListN.{length-map}
use lib.Seq.{paste}
use Rattle.std.proofs.lemmas.List.Edits.{fill_from_more}
use Rattle.std.proofs.lemmas.List.{append-nil, drop-drop, drop-map, map-append, take-append-drop, take-map, take-replicate}
use Rattle.store.specs.Edits.{laid, over, overlaid, overlaid_from, part, zeros, zeroed}

pub zero_none : (ws : List ℕ) (from k : ℕ) → k ≡ 0 → ws ≡ zeros ws from k
unfolding zeros
zero_none ws from k e = rw (e, add-zero, append-nil, take-append-drop)

pub zero_more : (ws xs : List ℕ) (from at : ℕ) → xs ≡ zeros ws from (at - from) → from ≤ at → at < length ws → set xs at 0 ≡ zeros ws from (at + 1 - from)
unfolding zeros
zero_more ws xs from at e l h =
    let all : (n : ℕ) → paste ws from (replicate n 0) n ≡ zeros ws from n = λ n. rw (take-replicate {X = ℕ} n n 0 (omega arith)) in
    let i : from + (at - from) ≡ at = omega arith in
    let j : (at - from) + 1 ≡ at + 1 - from = omega arith in
    ap (λ zs. set zs at 0) (e ∙ sym (all (at - from))) ∙ ap (λ k. set (paste ws from (replicate (at - from) 0) (at - from)) k 0) (sym i)
    ∙ fill_from_more ws from (at - from) 0 (omega arith) ∙ all (at - from + 1) ∙ ap (zeros ws from) j

pub zero_all : (ws xs : List ℕ) (from n k : ℕ) → xs ≡ zeros ws from k → k ≡ min n (length ws - from) → xs ≡ zeroed ws from n
zero_all ws xs from n k e h = e ∙ ap (zeros ws from) h

-- as many items as there are words from an address on are read, and as many are written; n is how many
module _ {X : Type 0} (f : X → ℕ) (xs : List X) (ws : List ℕ) (from n : ℕ) (l : n ≡ min (length ws - from) (length xs)) where
  pub copied_out : (us : List X) (k : ℕ) → map f us ≡ part from k ws → k ≡ n → map f (us ++ drop n xs) ≡ overlaid (drop from ws) (map f xs)
  unfolding over
  copied_out us k e h =
      let is : n ≡ min (length (drop from ws)) (length (map f xs)) = omega (arith, l, length-drop from ws, length-map xs f) in
      map-append f us (drop n xs)
      ∙ ap (λ vs. vs ++ map f (drop n xs)) (e ∙ ap (λ i. part from i ws) h)
      ∙ ap (λ vs. part from n ws ++ vs) (sym (drop-map f n xs))
      ∙ ap (λ i. take i (drop from ws) ++ drop i (map f xs)) is

  pub copied_in : (us : List ℕ) → us ≡ laid (map f (take n xs)) from ws → us ≡ overlaid_from (map f xs) from ws
  unfolding over
  copied_in us e =
      let is : n ≡ min (length (map f xs)) (length (drop from ws)) = omega (arith, l, length-drop from ws, length-map xs f) in
      let long : length (take n (map f xs)) ≡ n = length-take n (map f xs) ∙ omega (arith, l, length-map xs f) in
      e
      ∙ ap (λ vs. laid vs from ws) (sym (take-map f n xs))
      ∙ ap (λ i. take from ws ++ (take n (map f xs) ++ drop (from + i) ws)) long
      ∙ ap (λ vs. take from ws ++ (take n (map f xs) ++ vs)) (sym (drop-drop n from ws))
      ∙ ap (λ i. take from ws ++ (take i (map f xs) ++ drop i (drop from ws))) is

  pub copied_none : n ≡ 0 → ws ≡ overlaid_from (map f xs) from ws
  copied_none e =
      copied_in ws
      (sym (take-append-drop from ws) ∙ ap (λ k. take from ws ++ drop k ws) (sym (add-zero from)) ∙ ap (λ i. laid (map f (take i xs)) from ws) (sym e))
