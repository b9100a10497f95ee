-- What is handed on of a list.
use Rattle.std.specs.Prelude.{ℕ, ◌+◌, ◌%◌, Bool, cond, not, ◌&&◌, List, [], ◌∷◌, ◌++◌, Ok, Err, Result, ◌==◌}
use Rattle.booking.specs.declared.refusal.Refusal.{Refusal}
use Rattle.entries.specs.declared.answer.Answer.{Answer}
use Rattle.entries.specs.declared.entry.Entry.{Entry}
use Rattle.entries.specs.declared.entry.Entry.TheVariants.{Book, Tidy}

-- whether a tidy stands behind the n-th booking, where one stands behind every so many, and none for 0
abbrev pub tidy_due : (every n : ℕ) → Bool
tidy_due every n = not (every == 0) && (n % every == 0)

-- the bookings that these replies grant, in order, with their tidies, when n are handed on already
abbrev pub handed_on : (every n : ℕ) → List Entry → List (Result Answer Refusal) → List Entry
handed_on every n [] rs = []
handed_on every n (Tidy ∷ es) rs = handed_on every n es rs
handed_on every n (Book b ∷ es) [] = []
handed_on every n (Book b ∷ es) (Err r ∷ rs) = handed_on every n es rs
handed_on every n (Book b ∷ es) (Ok a ∷ rs) = Book b ∷ cond (tidy_due every (n + 1)) (Tidy ∷ []) [] ++ handed_on every (n + 1) es rs
