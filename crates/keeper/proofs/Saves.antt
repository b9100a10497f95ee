-- Whole stores: every word copied, every word 0.
use Rattle.std.proofs.Common.{◌≡◌, ℕ, ◌+◌, ◌-◌, min, List, ◌++◌, length, take, replicate, ap, ◌∙◌, arith}
use Rattle.std.proofs.lemmas.List.{append-nil, drop_all, take_all}
use Rattle.store.specs.Edits.{over, overlaid, zeroed, zeros}

pub overlaid_all : (xs ys : List ℕ) → length ys ≡ length xs → overlaid xs ys ≡ xs
unfolding over
overlaid_all xs ys e =
    let n : min (length xs) (length ys) ≡ length xs = omega arith in
    ap (λ (m : ℕ). over m xs ys) n
    ∙ ap (λ (zs : List ℕ). take (length xs) xs ++ zs) (drop_all (length xs) ys (omega arith))
    ∙ append-nil (take (length xs) xs)
    ∙ take_all (length xs) xs (omega arith)

pub zeroed_all : (ws : List ℕ) (n : ℕ) → n ≡ length ws → zeroed ws 0 n ≡ replicate n 0
unfolding zeros
zeroed_all ws n e =
    let k : min n (length ws - 0) ≡ n = omega arith in
    ap (zeros ws 0) k
    ∙ ap (λ (zs : List ℕ). replicate n 0 ++ zs) (drop_all (0 + n) ws (omega arith))
    ∙ append-nil (replicate n 0)
