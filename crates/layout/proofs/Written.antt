-- Words written cell by cell show the cells, where no address is written twice.
use Rattle.std.proofs.Common.{◌≡◌, ℕ, zero, suc, ◌<◌, ◌≤◌, List, [], ◌∷◌, length, get_or, set, replicate, sym, refl, ◌∙◌, subst, arith, length-set, get_or-set_other, get_or-set_same}
use lib.ListN.{length-replicate}
use Rattle.layout.specs.Arrangement.{Arrangement}
use Rattle.layout.specs.Holds.{Displays}
use Rattle.layout.specs.Sound.{Each, Sound}
use Rattle.layout.specs.Words.{Cell, cells_of, word, words_of, written}
use Rattle.layout.proofs.Cells.{Shown}
use Rattle.layout.proofs.Frame.{displays}
use Rattle.layout.proofs.Hits.{hits, here, here_yes, one_word_each, hits_within}

pub not_here : (y a : ℕ) → here y a ≡ 0 → y ≡ a → ⊥
not_here y a h e = omega (arith, h, subst (λ (k : ℕ). here y k ≡ 1) e (here_yes y))

pub written_other : (cs : List Cell) (ws : List ℕ) (y : ℕ) → hits y cs ≡ 0 → get_or (written cs ws) y 0 ≡ get_or ws y 0
written_other [] ws y h = refl
written_other (c ∷ cs) ws y h =
    written_other cs (set ws c.at (word c.says)) y (omega arith)
    ∙ get_or-set_other ws c.at y (word c.says) 0 (not_here y c.at (omega arith))

each_same : (n m : ℕ) → n ≡ m → (cs : List Cell) → Each (λ c. c.at < n) cs → Each (λ c. c.at < m) cs
each_same n m e [] h = tt
each_same n m e (c ∷ cs) h = (omega (arith, h.0), each_same n m e cs h.1)

pub written_shows : (cs : List Cell) (ws : List ℕ) → ((y : ℕ) → hits y cs ≤ 1) → Each (λ c. c.at < length ws) cs
    → Each (Shown (written cs ws)) cs
written_shows [] ws h l = tt
written_shows (c ∷ cs) ws h l =
    let w = word c.says in (
      written_other cs (set ws c.at w) c.at (omega (arith, h c.at, here_yes c.at))
          ∙ get_or-set_same ws c.at w 0 l.0,
      written_shows cs (set ws c.at w) (λ y. omega (arith, h y))
          (each_same (length ws) (length (set ws c.at w)) (sym (length-set ws c.at w)) cs l.1),
    )

pub written_length : (cs : List Cell) (ws : List ℕ) → length (written cs ws) ≡ length ws
written_length [] ws = refl
written_length (c ∷ cs) ws = written_length cs (set ws c.at (word c.says)) ∙ length-set ws c.at (word c.says)

each_at : (n : ℕ) (cs : List Cell) → ((y : ℕ) → 1 ≤ hits y cs → y < n) → Each (λ c. c.at < n) cs
each_at n [] h = tt
each_at n (c ∷ cs) h = (h c.at (omega (arith, here_yes c.at)), each_at n cs (λ y k. h y (omega arith)))

pub zeros : (n y : ℕ) → ◌≡◌ {A = ℕ} (get_or (replicate n 0) y 0) 0
zeros zero y = refl
zeros (suc n) zero = refl
zeros (suc n) (suc y) = zeros n y

-- the words of a sound arrangement show it
pub words_shown : (A : Arrangement) → Sound A → Displays (words_of A) A
words_shown A o =
    let blank : List ℕ = replicate A.count 0 in
    let ws = words_of A in
    let n : length blank ≡ A.count = length-replicate A.count 0 in
    let all : Each (Shown ws) (cells_of A) =
    written_shows (cells_of A) blank (λ y. omega (arith, one_word_each A o y))
    (each_at (length blank) (cells_of A) (λ y k. omega (arith, n, hits_within A o y k))) in
    displays ws A (written_length (cells_of A) blank ∙ n) all
    (λ y k. written_other (cells_of A) blank y (omega (arith, one_word_each A o y)) ∙ zeros A.count y)
