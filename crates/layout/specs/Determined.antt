-- The words tell the arrangement, and a sound arrangement leaves no word open.
use Rattle.std.specs.Prelude.{◌≡◌, ℕ, List}
use Rattle.layout.specs.Arrangement.{Arrangement}
use Rattle.layout.specs.Holds.{Displays}
use Rattle.layout.specs.Keeping.{arrangement_of}
use Rattle.layout.specs.Sound.{Sound}
use Rattle.layout.specs.Words.{words_of}

pub record Determined : Type 0 where
  -- a sound arrangement is displayed by its words, and by no others
  pub shown : (A : Arrangement) → Sound A → Displays (words_of A) A
  pub one_list : (A : Arrangement) → Sound A → (ws : List ℕ) → Displays ws A → ws ≡ words_of A
  -- words display no more than one sound arrangement
  pub one_arrangement : (ws : List ℕ) (A : Arrangement) → Sound A → Displays ws A → arrangement_of ws ≡ A
