-- Where a row of elements lies, and what reading answered, as a reply: the words of the items.
use Rattle.std.specs.Prelude.{ℕ, cond, ◌||◌, ◌==◌, nat_lt, List, map, ℤ, Ok, Err, Result}
use Rattle.booking.specs.Bookings.{Reply, Word, Words, granted, refused}
use Rattle.booking.specs.declared.refusal.Refusal.{Refusal}
use Rattle.booking.specs.declared.refusal.Refusal.TheVariants.{BadLength}
use Rattle.booking.specs.declared.trace.Trace.{Trace}
use Rattle.layout.specs.Elements.{row_found}
use Rattle.layout.specs.Walks.{and_then}

-- the address of the first of n data elements, on words
unfoldable pub run_found : List ℕ → Trace → ℕ → ℤ → ℕ → Result ℕ Refusal
run_found ws t kind i n = and_then (row_found ws t kind i) (λ x. cond (n == 0 || nat_lt x.1 n) (Err BadLength) (Ok x.0))

abbrev pub read_of : {X : Type 0} → (X → ℕ) → Result X Refusal → Reply
read_of word (Ok x) = granted (Word (word x))
read_of word (Err r) = refused r

-- of a row, by what the list then holds
abbrev pub row_of : {X : Type 0} → (X → ℕ) → Result (Unit {0}) Refusal → List X → Reply
row_of word (Ok u) xs = granted (Words (map word xs))
row_of word (Err r) xs = refused r

-- refused, a call leaves its list as it was
abbrev pub UnlessGranted : Result (Unit {0}) Refusal → Type 0 → Type 0
UnlessGranted (Ok u) P = Unit {0}
UnlessGranted (Err r) P = P
