-- Some cells give way to others at the same addresses.
use Rattle.std.proofs.Common.{◌≡◌, ℕ, ◌+◌, ◌<◌, ◌≤◌, List, [], ◌∷◌, ◌++◌, length, get_or, set, sym, refl, ap, ◌∙◌, subst, arith}
use Rattle.layout.specs.Arrangement.{Arrangement, Placed}
use Rattle.layout.specs.Holds.{Displays}
use Rattle.layout.specs.Sound.{Each, Sound}
use Rattle.layout.specs.Words.{Cell, gap_cells, word, written}
use Rattle.layout.proofs.Cells.{Shown}
use Rattle.layout.proofs.Cover.{each-++, each_left, each_right}
use Rattle.layout.proofs.Frame.{live, redisplayed, to_shown}
use Rattle.layout.proofs.Hits.{here_yes, hits, hits-++, one_word_each}
use Rattle.layout.proofs.Written.{written_length, written_other, written_shows}

-- each address is that of at most one cell of the names
pub once_live : (A : Arrangement) → Sound A → (y : ℕ) → hits y (live A.names) ≤ 1
once_live A o y = omega (arith, one_word_each A o y, hits-++ y (gap_cells A.gaps) (live A.names))

pub live_shown : (ws : List ℕ) (A : Arrangement) → Displays ws A → Each (Shown ws) (live A.names)
live_shown ws A s = each_right (Shown ws) (gap_cells A.gaps) (live A.names) (to_shown ws A s).1

-- words that keep what a list of cells speaks of
pub each_kept : (ws vs : List ℕ) (cs : List Cell) → ((z : ℕ) → 1 ≤ hits z cs → get_or vs z 0 ≡ get_or ws z 0) → Each (Shown ws) cs → Each (Shown vs) cs
each_kept ws vs [] k e = tt
each_kept ws vs (c ∷ cs) k e =
    (k c.at (omega (arith, here_yes c.at)) ∙ e.0, each_kept ws vs cs (λ z h. k z (omega arith)) e.1)

pub written-++ : (xs ys : List Cell) (ws : List ℕ) → written (xs ++ ys) ws ≡ written ys (written xs ws)
written-++ [] ys ws = refl
written-++ (x ∷ xs) ys ws = written-++ xs ys (set ws x.at (word x.says))

-- some cells give way to others at the same addresses, which are written
pub rewrote : (ws : List ℕ) (A : Arrangement) → Sound A → Displays ws A → (ns : List (Placed 4)) (xs O D zs : List Cell)
    → ((z : ℕ) → hits z D ≡ hits z O) → Each (λ c. c.at < length ws) D
    → live A.names ≡ xs ++ (O ++ zs) → live ns ≡ xs ++ (D ++ zs)
    → Displays (written D ws) (record { count = A.count; names = ns; gaps = A.gaps })
rewrote ws A o s ns xs O D zs same inside e e' =
    let vs = written D ws in
    let all : Each (Shown ws) (xs ++ (O ++ zs)) = subst (Each (Shown ws)) e (live_shown ws A s) in
    let sum : (z : ℕ) → hits z (live A.names) ≡ hits z xs + (hits z O + hits z zs) =
    λ z. ap (hits z) e ∙ hits-++ z xs (O ++ zs) ∙ ap (λ (k : ℕ). hits z xs + k) (hits-++ z O zs) in
    let once : (z : ℕ) → hits z xs + (hits z D + hits z zs) ≤ 1 = λ z. omega (arith, once_live A o z, sum z, same z) in
    redisplayed ws vs A o s (λ z h. written_other D ws z (omega (arith, sum z, same z))) ns (written_length D ws)
    (subst (Each (Shown vs)) (sym e')
    (each-++ (Shown vs) xs (D ++ zs)
    (each_kept ws vs xs (λ z h. written_other D ws z (omega (arith, once z))) (each_left (Shown ws) xs (O ++ zs) all))
    (each-++ (Shown vs) D zs
    (written_shows D ws (λ z. omega (arith, once z)) inside)
    (each_kept ws vs zs (λ z h. written_other D ws z (omega (arith, once z))) (each_right (Shown ws) O zs (each_right (Shown ws) xs (O ++ zs) all))))))
