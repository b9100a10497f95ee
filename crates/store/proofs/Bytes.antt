-- The words of bytes: a word is read from its eight bytes, and a write of one word leaves all others.
use Rattle.std.proofs.Common.{◌≡◌, ℕ, ◌+◌, ◌-◌, ◌*◌, ◌/◌, ◌%◌, ◌^◌, ◌<◌, ◌≤◌, List, [], ◌∷◌, length, get_or, take, drop, set, sym, refl, ap, ◌∙◌, ⊎_elim, add-zero, arith, rules}
use borrow.Rule.Slice.PartMut.{put_mid}
use lib.Seq.{paste}
use Rattle.std.proofs.lemmas.List.FromFn.{get_or-map-range_with_len}
use Rattle.std.proofs.lemmas.List.Edits.{length-paste}
use Rattle.std.proofs.lemmas.List.{places, same_lists, ext_get_or, get_or-drop, get_or-set_same, get_or-set_other, get_or-take, length-set}
use Rattle.std.proofs.lemmas.Slice.{put_mid-paste}
use Rattle.std.proofs.lemmas.Bool.{cases_eq}
use Rattle.store.specs.Bytes.{word_at, byte_count, byte_words, byte_beyond}
use Rattle.store.specs.Members.{length_bytes}
use Rattle.store.specs.Words.{wrapped}

byte_word : (bs : List ℕ) (k : ℕ) → k < length (byte_words bs) → wrapped (word_at bs k) ≡ get_or (byte_words bs) k 0
unfolding byte_words
byte_word bs k h = sym (get_or-map-range_with_len (λ k. wrapped (word_at bs k)) 0 (byte_count bs) k k 0 (omega (arith, length_bytes bs)) (omega arith))

-- a counted word lies within the bytes
pub room : (bs : List ℕ) (k : ℕ) → k < length (byte_words bs) → 8 * k + 8 ≤ length bs
room bs k h = omega (arith, length_bytes bs)

-- the word k from its eight bytes
pub word_read : (bs xs : List ℕ) (k w : ℕ) → k < length (byte_words bs) → xs ≡ take (8 * k + 8 - 8 * k) (drop (8 * k) bs) → w < 2 ^ 64 → w ≡ word_at xs 0 → w ≡ get_or (byte_words bs) k 0
word_read bs xs k w h e f v =
    let at : (j : ℕ) → j < 8 → get_or xs j 0 ≡ get_or bs (8 * k + j) 0 = λ j l. ap (λ ys. get_or ys j 0) e ∙ get_or-take (8 * k + 8 - 8 * k) (drop (8 * k) bs) j 0 (omega arith) ∙ get_or-drop (8 * k) bs j 0 in
    let same : w ≡ wrapped (word_at bs k) = omega (arith, rw add-zero at (at 0 (omega arith)), at 1 (omega arith), at 2 (omega arith), at 3 (omega arith), at 4 (omega arith), at 5 (omega arith), at 6 (omega arith), at 7 (omega arith)) in
    same ∙ byte_word bs k h

-- the eight bytes of a word
abbrev pub be_bytes : ℕ → List ℕ
be_bytes w =
    (w / 2 ^ 56 % 256) ∷ (w / 2 ^ 48 % 256) ∷ (w / 2 ^ 40 % 256) ∷ (w / 2 ^ 32 % 256)
    ∷ (w / 2 ^ 24 % 256) ∷ (w / 2 ^ 16 % 256) ∷ (w / 2 ^ 8 % 256) ∷ (w % 256) ∷ []

-- bytes with word k replaced
unfoldable pub written : List ℕ → ℕ → ℕ → List ℕ
written bs k w = paste bs (8 * k) (be_bytes w) 8

pub part_written : (bs xs : List ℕ) (k w : ℕ) → xs ≡ be_bytes w → put_mid (8 * k) (8 * k + 8 - 8 * k) bs xs ≡ written bs k w
unfolding written
part_written bs xs k w e = put_mid-paste _ _ bs xs (be_bytes w) 8 e (omega arith) refl

length_written : (bs : List ℕ) (k w : ℕ) → 8 * k + 8 ≤ length bs → length (written bs k w) ≡ length bs
unfolding written
length_written bs k w h = length-paste bs (8 * k) (be_bytes w) 8 h (omega arith)

-- a byte of the written word
within : (bs : List ℕ) (k w j : ℕ) → 8 * k + 8 ≤ length bs → j < 8 → get_or (written bs k w) (8 * k + j) 0 ≡ get_or (be_bytes w) j 0
unfolding written
within bs k w j h l = grind (arith, places)

-- any other byte
without : (bs : List ℕ) (k w i : ℕ) → 8 * k + 8 ≤ length bs → (8 * k ≤ i → 8 * k + 8 ≤ i) → get_or (written bs k w) i 0 ≡ get_or bs i 0
unfolding written
without bs k w i h l = grind (arith, places)

word_within : (bs : List ℕ) (k w : ℕ) → 8 * k + 8 ≤ length bs → w < 2 ^ 64 → word_at (written bs k w) k ≡ w
word_within bs k w h f =
    let at : (j : ℕ) → j < 8 → get_or (written bs k w) (8 * k + j) 0 ≡ get_or (be_bytes w) j 0 = λ j. within bs k w j h in
    omega (arith, rw add-zero at (at 0 (omega arith)), at 1 (omega arith), at 2 (omega arith), at 3 (omega arith), at 4 (omega arith), at 5 (omega arith), at 6 (omega arith), at 7 (omega arith))

word_without : (bs : List ℕ) (k w j : ℕ) → 8 * k + 8 ≤ length bs → (j ≡ k → ⊥) → word_at (written bs k w) j ≡ word_at bs j
word_without bs k w j h n =
    let at : (i : ℕ) → (8 * k ≤ i → 8 * k + 8 ≤ i) → get_or (written bs k w) i 0 ≡ get_or bs i 0 = λ i. without bs k w i h in
    rw (at (8 * j) (λ g. omega arith), at (8 * j + 1) (λ g. omega arith), at (8 * j + 2) (λ g. omega arith), at (8 * j + 3) (λ g. omega arith), at (8 * j + 4) (λ g. omega arith), at (8 * j + 5) (λ g. omega arith), at (8 * j + 6) (λ g. omega arith), at (8 * j + 7) (λ g. omega arith))

-- the words after a write
pub byte_words_written : (bs : List ℕ) (k w : ℕ) → k < length (byte_words bs) → w < 2 ^ 64 → byte_words (written bs k w) ≡ set (byte_words bs) k w
byte_words_written bs k w h f =
    let r = room bs k h in
    let n : length (byte_words (written bs k w)) ≡ length (byte_words bs) = omega (arith, length_bytes (written bs k w), length_bytes bs, length_written bs k w r) in
    let here : wrapped (word_at (written bs k w) k) ≡ get_or (set (byte_words bs) k w) k 0 = omega (arith, word_within bs k w r f, get_or-set_same (byte_words bs) k w 0 h) in
    ext_get_or 0 (byte_words (written bs k w)) (set (byte_words bs) k w) (n ∙ sym (length-set (byte_words bs) k w))
    (λ i l.
    sym (byte_word (written bs k w) i l)
    ∙ ⊎_elim
    (λ e. ap (λ m. wrapped (word_at (written bs k w) m)) e ∙ here ∙ ap (λ m. get_or (set (byte_words bs) k w) m 0) (sym e))
    (λ ne. ap wrapped (word_without bs k w i r ne) ∙ byte_word bs i (omega arith) ∙ sym (get_or-set_other (byte_words bs) k i w 0 ne))
    (cases_eq i k))

-- the bytes past the words after a write
pub byte_beyond_written : (bs : List ℕ) (k w : ℕ) → k < length (byte_words bs) → byte_beyond (written bs k w) ≡ byte_beyond bs
unfolding written
byte_beyond_written bs k w h =
    let r = room bs k h in
    let n = length_written bs k w r in
    let m : 8 * k + 8 ≤ 8 * byte_count bs = omega (arith, length_bytes bs) in
    same_lists _ _ (search (rules, places)) (λ i d l. grind (arith, places))
