-- The words that making leaves, written one after another.
use Rattle.std.proofs.Common.{◌≡◌, ℕ, zero, suc, ◌+◌, ◌-◌, ◌*◌, ◌^◌, ◌<◌, ◌≤◌, List, length, get_or, set, replicate, sym, refl, ap, ◌∙◌, subst, arith, length-set, get_or-set_other, get_or-set_same}
use lib.ListN.{length-replicate}
use Rattle.std.proofs.lemmas.Bool.{cond-false, cond-true, le-ltb, lt-ltb}
use Rattle.booking.specs.Bookings.{Done, granted, refused}
use Rattle.booking.specs.declared.refusal.Refusal.TheVariants.{WrongCount}
use Rattle.layout.specs.Arrangement.{Piece, Vacant}
use Rattle.layout.specs.Gaps.{a_gap}
use Rattle.layout.specs.Holds.{Along, Chain, Displays, Shows}
use Rattle.layout.specs.Keeping.{made}
use Rattle.layout.specs.Rearranged.{as_made}
use Rattle.layout.specs.Words.{first_of, total, words_of}
use Rattle.layout.proofs.Kept.{made_sound}
use Rattle.layout.proofs.Laws.{determined}
use Rattle.layout.proofs.Written.{zeros}

-- zeros, the header, and the one gap
abbrev pub blank : ℕ → List ℕ
blank n = set (set (replicate n 0) 0 (n - 65 + 2 ^ 18 * 65)) 65 (n - 65)

elsewhere : (n k : ℕ) → (k ≡ 0 → ⊥) → (k ≡ 65 → ⊥) → get_or (blank n) k 0 ≡ 0
elsewhere n k h l =
    get_or-set_other (set (replicate n 0) 0 (n - 65 + 2 ^ 18 * 65)) 65 k (n - 65) 0 l ∙ get_or-set_other (replicate n 0) 0 k (n - 65 + 2 ^ 18 * 65) 0 h ∙ zeros n k

all_vacant : (n a m : ℕ) → 1 ≤ a → a + m ≤ 65 → Along (Shows 4 (blank n)) a (replicate m Vacant)
all_vacant n a zero lo hi = tt
all_vacant n a (suc m) lo hi = (elsewhere n a (λ e. omega arith) (λ e. omega arith), all_vacant n (a + 1) m (omega arith) (omega arith))

one_gap : (n m : ℕ) → n - 65 ≡ suc m → 67 ≤ n
    → (get_or (blank n) 0 0 ≡ total (a_gap 65 (suc m)) + 2 ^ 18 * first_of (a_gap 65 (suc m))) × Chain (blank n) (a_gap 65 (suc m))
one_gap n m e lo =
    let r : List ℕ = replicate n 0 in
    let l : length r ≡ n = length-replicate n 0 in
    let header : ℕ = n - 65 + 2 ^ 18 * 65 in (
      get_or-set_other (set r 0 header) 65 0 (n - 65) 0 (λ z. omega arith) ∙ get_or-set_same r 0 header 0 (omega arith) ∙ omega arith,
      (
        get_or-set_same (set r 0 header) 65 (n - 65) 0 (omega (arith, length-set r 0 header)) ∙ omega arith,
        λ k low high. elsewhere n (65 + k) (λ z. omega arith) (λ z. omega arith),
        tt,
      ),
    )

blank_shows : (n : ℕ) → 67 ≤ n → Displays (blank n) (as_made n)
blank_shows n lo = pick (n - 65) refl
  where
    pick : (g : ℕ) → n - 65 ≡ g → Displays (blank n) (as_made n)
    pick zero e = absurd (omega arith)
    pick (suc m) e =
        let q : ◌≡◌ {A = List Piece} (a_gap 65 (n - 65)) (a_gap 65 (suc m)) = ap (a_gap 65) e in
        let p = one_gap n m e lo in
        record {
          count = length-set (set (replicate n 0) 0 _) 65 _ ∙ length-set (replicate n 0) 0 _ ∙ length-replicate n 0;
          header = subst (λ (gs : List Piece). get_or (blank n) 0 0 ≡ total gs + 2 ^ 18 * first_of gs) (sym q) p.0;
          names = all_vacant n 1 64 (omega arith) (omega arith);
          chain = subst (Chain (blank n)) (sym q) p.1;
        }

pub made_words : (n : ℕ) → 67 ≤ n → n ≤ 2 ^ 18 → blank n ≡ words_of (as_made n)
made_words n lo hi = determined.one_list (as_made n) (made_sound n lo hi) (blank n) (blank_shows n lo)

-- too few words, and enough
pub made_not : (ws : List ℕ) → length ws < 67 → made ws ≡ (refused WrongCount, ws)
unfolding made
made_not ws h = cond-true _ _ _ (lt-ltb (length ws) 67 h)

pub made_so : (ws : List ℕ) → 67 ≤ length ws → length ws ≤ 2 ^ 18 → made ws ≡ (granted Done, blank (length ws))
unfolding made
made_so ws lo hi = cond-false _ _ _ (le-ltb (length ws) 67 lo) ∙ ap (λ (us : List ℕ). (granted Done, us)) (sym (made_words (length ws) lo hi))
