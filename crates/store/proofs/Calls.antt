-- What the calls of a store answer.
use Rattle.std.proofs.Common.{◌≡◌, ℕ, ◌<◌, List, length}
use Rattle.std.proofs.lemmas.Bool.{lt-ltb}
use Rattle.store.specs.Answers.{answered}

-- two lists answer alike where the address is within both
pub alike : {X : Type 0} (xs ys : List ℕ) (i j : ℕ) (x y : X) → i < length xs → j < length ys → x ≡ y → answered xs i x ≡ answered ys j y
alike xs ys i j x y h k e = rw (lt-ltb i (length xs) h, lt-ltb j (length ys) k, e)
