-- Some cells give way to others, which take up more addresses.
use Rattle.std.proofs.Common.{◌≡◌, ℕ, ◌+◌, ◌≤◌, List, ◌++◌, length, get_or, sym, ap, ◌∙◌, subst, arith}
use Rattle.layout.specs.Arrangement.{Arrangement, Placed}
use Rattle.layout.specs.Holds.{Displays}
use Rattle.layout.specs.Sound.{Each, Sound}
use Rattle.layout.specs.Words.{Cell, gap_cells}
use Rattle.layout.proofs.Cells.{Shown}
use Rattle.layout.proofs.Cover.{each-++, each_left, each_right}
use Rattle.layout.proofs.Frame.{displays, inner_zero, live, to_shown}
use Rattle.layout.proofs.Hits.{here, here_yes, hits, hits-++, inner, one_word_each}
use Rattle.layout.proofs.Rewritten.{each_kept, live_shown}

module _ (vs us : List ℕ) (A : Arrangement) (s : Displays vs A) (ns : List (Placed 4)) (o : Sound (record { count = A.count; names = ns; gaps = A.gaps }))
    (xs O D zs : List Cell) (old : live A.names ≡ xs ++ (O ++ zs)) (new : live ns ≡ xs ++ (D ++ zs)) where
  pub once : (y : ℕ) → here y 0 + (hits y (gap_cells A.gaps) + (hits y xs + (hits y D + hits y zs))) + inner y A.gaps ≤ 1
  once y =
      omega (
        arith,
        one_word_each (record { count = A.count; names = ns; gaps = A.gaps }) o y,
        hits-++ y (gap_cells A.gaps) (live ns),
        ap (hits y) new,
        hits-++ y xs (D ++ zs),
        hits-++ y D zs,
      )

  pub gave_way : length us ≡ length vs → ((y : ℕ) → hits y D ≡ 0 → get_or us y 0 ≡ get_or vs y 0) → Each (Shown us) D
      → Displays us (record { count = A.count; names = ns; gaps = A.gaps })
  gave_way len kept there =
      let gs = gap_cells A.gaps in
      let all : Each (Shown vs) (xs ++ (O ++ zs)) = subst (Each (Shown vs)) old (live_shown vs A s) in
      let front : Each (Shown us) xs = each_kept vs us xs (λ y h. kept y (omega (arith, once y))) (each_left (Shown vs) xs (O ++ zs) all) in
      let behind : Each (Shown us) zs =
      each_kept vs us zs (λ y h. kept y (omega (arith, once y))) (each_right (Shown vs) O zs (each_right (Shown vs) xs (O ++ zs) all)) in
      displays us (record { count = A.count; names = ns; gaps = A.gaps }) (len ∙ s.count) (
        kept 0 (omega (arith, once 0, here_yes 0)) ∙ s.header,
        each-++ (Shown us) gs (live ns)
            (each_kept vs us gs (λ y h. kept y (omega (arith, once y))) (each_left (Shown vs) gs (live A.names) (to_shown vs A s).1))
            (subst (Each (Shown us)) (sym new) (each-++ (Shown us) xs (D ++ zs) front (each-++ (Shown us) D zs there behind))),
      )
      (λ y k. kept y (omega (arith, once y)) ∙ inner_zero vs A.gaps s.chain y k)
