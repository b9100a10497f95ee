-- Zeros, the header and the one gap, as making writes them.
use Rattle.std.proofs.Common.{◌≡◌, ℕ, ◌+◌, ◌-◌, ◌*◌, List, length, set, ap, ◌∙◌}
use Rattle.store.specs.Edits.{zeroed}
use Rattle.layout.proofs.Made.{blank}
use Rattle.keeper.proofs.Saves.{zeroed_all}

pub made_blank : (ws xs ys zs : List ℕ) (n : ℕ) → n ≡ length ws → xs ≡ zeroed ws 0 n → ys ≡ set xs 0 (n - 65 + 262144 * 65) → zs ≡ set ys 65 (n - 65)
    → zs ≡ blank (length ws)
made_blank ws xs ys zs n e p q r =
    r ∙ ap (λ (l : List ℕ). set l 65 (n - 65)) (q ∙ ap (λ (l : List ℕ). set l 0 (n - 65 + 262144 * 65)) (p ∙ zeroed_all ws n e)) ∙ ap blank e
