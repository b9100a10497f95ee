-- The worked figures, as one table of equations over the definitions. But for the first lines the store has 75 words, bases are 1 and
-- rows are of type 1; state A has name 1 with a row of 3 and name 2 with a row of 2.
use Rattle.std.specs.Prelude.{◌≡◌, ℕ, ◌≤◌, true, false, List, [], ◌∷◌, map, replicate, ℤ, pos, negsuc, slice_index, refl}
use Rattle.std.proofs.Common.{lit≤}
use Rattle.codeword.specs.Codeword.{packed, unpacked}
use Rattle.codeword.specs.Heads.{head_word}
use Rattle.booking.specs.Bookings.{Booking, Delete, Done, Free, Insert, Take, granted, on, refused}
use Rattle.booking.specs.declared.refusal.Refusal.TheVariants.{NoRoom, WrongCount}
use Rattle.booking.specs.declared.trace.Trace.{Trace}
use Rattle.layout.specs.Arrangement.{Arrangement}
use Rattle.layout.specs.Keeping.{made}
use Rattle.layout.specs.Rearranged.{as_made, stored}
use Rattle.layout.specs.Words.{labelling, words_of}

-- ── Traces ────────────────────────────────────────────────────────────

abbrev of_name : (n : ℕ) → 1 ≤ n → n ≤ 64 → Trace
of_name n low high = record { name = n; depth = 0; at = pos 0 ∷ pos 0 ∷ pos 0 ∷ []; lawful = (low, high, lit≤ tt, refl, refl) }

abbrev one : Trace
one = of_name 1 (lit≤ tt) (lit≤ tt)

abbrev two : Trace
two = of_name 2 (lit≤ tt) (lit≤ tt)

abbrev three : Trace
three = of_name 3 (lit≤ tt) (lit≤ tt)

-- below name 1
abbrev below : ℤ → Trace
below i = record { name = 1; depth = 1; at = i ∷ pos 0 ∷ pos 0 ∷ []; lawful = (lit≤ tt, lit≤ tt, lit≤ tt, refl, refl) }

-- ── Bookings ──────────────────────────────────────────────────────────

-- a row of n amounts
abbrev take_row : Trace → ℕ → Booking
take_row t n = on t (Take n (pos 1) false 1)

abbrev after : Arrangement → List Booking → Arrangement
after A [] = A
after A (b ∷ bs) = after (stored A b).1 bs

abbrev state_A : Arrangement
state_A = after (as_made 75) (take_row one 3 ∷ take_row two 2 ∷ [])

-- a table under name 1, whose older row must make room for the newer
abbrev nested : Arrangement
nested =
    after (as_made 75)
    (take_row two 1
    ∷ on one (Take 2 (pos 1) true 0)
    ∷ take_row (below (pos 2)) 1
    ∷ on two Free
    ∷ take_row (below (pos 1)) 3
    ∷ [])

-- ── What stands where ─────────────────────────────────────────────────

abbrev word_at : Arrangement → ℕ → ℕ
word_at A a = slice_index (words_of A) a

-- F of the codeword at an address
abbrev first_at : Arrangement → ℕ → ℕ
first_at A a = (unpacked (word_at A a)).first

pub record Figures : Type 0 where
  pub pack_row : packed (labelling 66 3 (pos 1) false 1) ≡ 0x01000010000C0042
  pub pack_table : packed (labelling 66 2 (negsuc 0) true 0) ≡ 0x004FFFF000080042
  pub made_67 : (made (replicate 67 5)).0 ≡ granted Done
  pub made_66 : made (replicate 66 5) ≡ (refused WrongCount, replicate 66 5)
  -- state A: F is 66 and 70, and the one gap at 72 has 3 words
  pub a_names : map (first_at state_A) (1 ∷ 2 ∷ []) ≡ 66 ∷ 70 ∷ []
  pub a_chain : map (word_at state_A) (0 ∷ 72 ∷ []) ≡ head_word 3 72 ∷ head_word 3 0 ∷ []
  -- free 1, then take 3 of 5, of 6, of 7
  pub five : map (first_at (after state_A (on one Free ∷ take_row three 5 ∷ []))) (2 ∷ 3 ∷ []) ≡ 66 ∷ 69 ∷ []
  pub five_chain : map (word_at (after state_A (on one Free ∷ take_row three 5 ∷ []))) (0 ∷ 74 ∷ []) ≡ head_word 1 74 ∷ head_word 1 0 ∷ []
  pub six : word_at (after state_A (on one Free ∷ take_row three 6 ∷ [])) 0 ≡ 0
  pub seven : (stored (after state_A (on one Free ∷ [])) (take_row three 7)).0 ≡ refused NoRoom
  -- take 1 again, of 6 and of 7
  pub again_six : map (first_at (after state_A (take_row one 6 ∷ []))) (1 ∷ 2 ∷ []) ≡ 69 ∷ 66 ∷ []
  pub again_seven : stored state_A (take_row one 7) ≡ (refused NoRoom, state_A)
  -- free 1, free 2, take 3 of 4: the gaps combine
  pub combine : first_at (after state_A (on one Free ∷ on two Free ∷ take_row three 4 ∷ [])) 3 ≡ 66
  pub combine_chain : map (word_at (after state_A (on one Free ∷ on two Free ∷ take_row three 4 ∷ []))) (0 ∷ 70 ∷ []) ≡ head_word 5 70 ∷ head_word 5 0 ∷ []
  -- insert 2 words at subscript 2 of name 1; delete 1 at subscript 1
  pub insert : map (first_at (after state_A (on one (Insert (pos 2) 2) ∷ []))) (1 ∷ 2 ∷ []) ≡ 66 ∷ 72 ∷ []
  pub insert_length : (unpacked (word_at (after state_A (on one (Insert (pos 2) 2) ∷ [])) 1)).length ≡ 5
  pub insert_chain : map (word_at (after state_A (on one (Insert (pos 2) 2) ∷ []))) (0 ∷ 74 ∷ []) ≡ head_word 1 74 ∷ head_word 1 0 ∷ []
  pub delete : map (word_at (after state_A (on one (Delete (pos 1) 1) ∷ []))) (0 ∷ 68 ∷ 72 ∷ []) ≡ head_word 4 68 ∷ head_word 1 72 ∷ head_word 3 0 ∷ []
  -- the table under name 1: its own F, that of the older row and of the newer, their back-references, and the chain
  pub nested_firsts : map (first_at nested) (1 ∷ 67 ∷ 66 ∷ []) ≡ 66 ∷ 69 ∷ 71 ∷ []
  pub nested_backs : map (word_at nested) (65 ∷ 68 ∷ 70 ∷ []) ≡ 1 ∷ 67 ∷ 66 ∷ []
  pub nested_chain : map (word_at nested) (0 ∷ 74 ∷ []) ≡ head_word 1 74 ∷ head_word 1 0 ∷ []
