-- A row that is read into a list of its own.
use Rattle.std.proofs.Common.{◌≡◌, ℕ, zero, suc, ◌+◌, ◌<◌, List, [], ◌∷◌, ◌++◌, length, get_or, take, drop, ℤ, Ok, Err, Result, refl, ap, ◌∙◌, subst, arith}
use Rattle.std.specs.Result.{IsErr}
use Rattle.std.proofs.lemmas.List.{take_at}
use Rattle.booking.specs.Bookings.{Booking, RowRead, on}
use Rattle.booking.specs.declared.refusal.Refusal.{Refusal}
use Rattle.booking.specs.declared.trace.Trace.{Trace}
use Rattle.elements.specs.Rows.{run_found}
use Rattle.elements.proofs.Runs.{begun}
use Rattle.entries.specs.declared.answer.Answer.{Answer}
use Rattle.layout.specs.Held.{held_trees}
use Rattle.layout.specs.Holds.{Holds}
use Rattle.layout.proofs.Runs.{row_read_done}
use Rattle.ledger.specs.Ledger.{book}
use Rattle.posting.specs.Posted.{GrantsRow, Posted}

-- the words from an address on
words_from : List ℕ → ℕ → ℕ → List ℕ
words_from ws y zero = []
words_from ws y (suc n) = get_or ws y 0 ∷ words_from ws (y + 1) n

from_long : (ws : List ℕ) (y n : ℕ) → length (words_from ws y n) ≡ n
unfolding words_from
from_long ws y zero = refl
from_long ws y (suc n) = ap suc (from_long ws (y + 1) n)

from_each : (ws : List ℕ) (y n k : ℕ) → k < n → get_or (words_from ws y n) k 0 ≡ get_or ws (y + k) 0
unfolding words_from
from_each ws y zero k h = absurd (omega arith)
from_each ws y (suc n) zero h = ap (λ (z : ℕ). get_or ws z 0) (omega arith)
from_each ws y (suc n) (suc k) h = from_each ws (y + 1) n k (omega arith) ∙ ap (λ (z : ℕ). get_or ws z 0) (omega arith)

-- where nothing refuses it, a row is granted
pub row_granted : (ws : List ℕ) → Holds ws → (t : Trace) (kind : ℕ) (i z : ℤ) → z ≡ i → (n y : ℕ) → Ok y ≡ run_found ws t kind z n
    → GrantsRow (book (length ws) (held_trees ws) (on t (RowRead kind i n))).0
row_granted ws h t kind i z q n y e =
    let b = begun ws t kind z n y e in
    let r = row_read_done ws h t kind i z q y b.left b.found n b.some b.fits (words_from ws y n) (from_long ws y n) (from_each ws y n) in
    subst GrantsRow r tt

-- a list written over whole by one as long
pub over_whole : (n : ℕ) (xs ys : List ℕ) → length xs ≡ n → take n (xs ++ drop (length xs) ys) ≡ xs
over_whole n xs ys e = take_at xs (drop (length xs) ys) n e

-- where there is no memory, there is none for a row
pub no_memory : {E : Type 0} (ws : List ℕ) (b : Booking) (r : Result (Result Answer Refusal) E) → IsErr r
    → GrantsRow (book (length ws) (held_trees ws) b).0 → Posted ws b r ws
no_memory ws b (Ok x) e k = absurd (cc)
no_memory ws b (Err x) e k = (k, refl)
