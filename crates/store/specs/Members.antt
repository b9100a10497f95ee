-- What each make shows of its words: how many there are, and that each has 64 bits.
use Rattle.std.specs.Prelude.{◌≡◌, ℕ, zero, suc, ◌+◌, ◌≤◌, min, List, [], ◌∷◌, ◌++◌, map, length, take}
use Rattle.std.proofs.Common.{length-take, ap, ◌∙◌, arith}
use Rattle.std.proofs.lemmas.List.FromFn.{length-map-range_with_len}
use Rattle.std.proofs.lemmas.List.{length-append, length-map}
use Rattle.std.specs.List.{range_with_len}
use Rattle.store.specs.Bytes.{word_at, byte_count, byte_words}
use Rattle.store.specs.Words.{most, front, Fit, wrapped, lent_words, joined_words}

pub length_lent : (ws : List ℕ) → length (lent_words ws) ≡ min most (length ws)
unfolding lent_words
length_lent ws = length-map (front ws) wrapped ∙ length-take most ws

pub lent_counted : (ws : List ℕ) → length (lent_words ws) ≤ most
lent_counted ws = omega (arith, length_lent ws)

pub length_row : (xs ys : List ℕ) → length (joined_words xs ys) ≡ min most (length xs + length ys)
unfolding joined_words
length_row xs ys = length-take most (xs ++ ys) ∙ ap (min most) (length-append xs ys)

pub row_counted : (xs ys : List ℕ) → length (joined_words xs ys) ≤ most
row_counted xs ys = omega (arith, length_row xs ys)

pub length_bytes : (bs : List ℕ) → length (byte_words bs) ≡ byte_count bs
unfolding byte_words
length_bytes bs = length-map-range_with_len (λ k. wrapped (word_at bs k)) 0 (byte_count bs)

pub bytes_counted : (bs : List ℕ) → length (byte_words bs) ≤ most
bytes_counted bs = omega (arith, length_bytes bs)

mapped_fit : {X : Type 0} (f : X → ℕ) (xs : List X) → Fit (map (λ x. wrapped (f x)) xs)
mapped_fit f [] k = omega arith
mapped_fit f (x ∷ xs) zero = omega arith
mapped_fit f (x ∷ xs) (suc k) = mapped_fit f xs k

pub lent_fit : (ws : List ℕ) → Fit (lent_words ws)
unfolding lent_words
lent_fit ws = mapped_fit (λ x. x) (front ws)

pub bytes_fit : (bs : List ℕ) → Fit (byte_words bs)
unfolding byte_words
bytes_fit bs = mapped_fit (word_at bs) (range_with_len 0 (byte_count bs))

both_fit : (xs ys : List ℕ) → Fit xs → Fit ys → Fit (xs ++ ys)
both_fit [] ys p q k = q k
both_fit (x ∷ xs) ys p q zero = p zero
both_fit (x ∷ xs) ys p q (suc k) = both_fit xs ys (λ i. p (suc i)) q k

front_fit : (n : ℕ) (xs : List ℕ) → Fit xs → Fit (take n xs)
front_fit zero xs p k = omega arith
front_fit (suc n) [] p k = omega arith
front_fit (suc n) (x ∷ xs) p zero = p zero
front_fit (suc n) (x ∷ xs) p (suc k) = front_fit n xs (λ i. p (suc i)) k

pub row_fit : (xs ys : List ℕ) → Fit xs → Fit ys → Fit (joined_words xs ys)
unfolding joined_words
row_fit xs ys p q = front_fit most (xs ++ ys) (both_fit xs ys p q)
