-- A refusal that `?` passes on.
use Rattle.std.proofs.Common.{◌≡◌, Err, Result, ap, ◌∙◌}
use Rattle.std.specs.Result.{IsErrAnd}
use Rattle.std.proofs.lemmas.Result.{err_from_is_err_and}
use Rattle.booking.specs.declared.refusal.Refusal.{Refusal}

pub refusal_kept : {X : Type 0} (x : Result X Refusal) (r : Refusal) → IsErrAnd x (λ e. e ≡ r) → x ≡ Err r
refusal_kept x r h = let p = err_from_is_err_and x h in p.1 ∙ ap Err p.2
