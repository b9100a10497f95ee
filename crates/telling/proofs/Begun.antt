-- What the first keeper of the day saves: the words of a keeper that was just made.
use Rattle.std.proofs.Common.{◌≡◌, ℕ, Bool, true, cond, eqb, List, length, replicate, Ok, Err, Result, IsOk, refl, ap, ◌∙◌, arith}
use Rattle.booking.specs.declared.refusal.Refusal.{Refusal}
use Rattle.booking.specs.declared.refusal.Refusal.TheVariants.{WrongCount}
use Rattle.keeper.specs.Saved.{save_reply, saved}
use Rattle.layout.specs.Keeping.{made}
use Rattle.layout.specs.Rearranged.{as_made}
use Rattle.layout.specs.Words.{words_of}
use Rattle.layout.proofs.Made.{blank, made_so, made_words}
use Rattle.store.specs.Bytes.{byte_words}
use Rattle.store.specs.Members.{length_bytes, length_lent, length_row}
use Rattle.store.specs.Words.{joined_words, lent_words}

-- 40 words and 283 bytes are 75 words
joined_count : (w b : ℕ) → length (joined_words (lent_words (replicate 40 w)) (byte_words (replicate 283 b))) ≡ 75
joined_count w b =
    let words : List ℕ = replicate 40 w in
    let bytes : List ℕ = replicate 283 b in
    omega (arith, length_row (lent_words words) (byte_words bytes), length_lent words, length_bytes bytes)

-- a list of 75 words takes the words of a keeper that was made over these
module _ (w b : ℕ) (us list : List ℕ) (new : us ≡ (made (joined_words (lent_words (replicate 40 w)) (byte_words (replicate 283 b)))).1) (long : length list ≡ 75) where
  as_blank : us ≡ blank 75
  as_blank =
      let n : length (joined_words (lent_words (replicate 40 w)) (byte_words (replicate 283 b))) ≡ 75 = joined_count w b in
      new ∙ ap (λ x. x.1) (made_so (joined_words (lent_words (replicate 40 w)) (byte_words (replicate 283 b))) (omega arith) (omega arith)) ∙ ap blank n

  same_count : eqb (length list) (length us) ≡ true
  same_count = ap (λ (k : ℕ). eqb k (length us)) long ∙ ap (λ (l : List ℕ). eqb 75 (length l)) as_blank

  pub granted : (r : Result (Unit {0}) Refusal) → r ≡ save_reply us list → IsOk r
  granted r e =
      let f : r ≡ Ok tt = e ∙ ap (λ (t : Bool). cond t (Ok tt) (Err WrongCount)) same_count in
      rw f refl

  pub saved_new : saved us list ≡ words_of (as_made 75)
  saved_new = ap (λ (t : Bool). cond t us list) same_count ∙ as_blank ∙ made_words 75 (omega arith) (omega arith)
