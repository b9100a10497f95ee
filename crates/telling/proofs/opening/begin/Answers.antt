use Rattle.std.proofs.Common.{replicate, refl, ◌∙◌}
use Rattle.telling.proofs.Begun.{granted, saved_new}
use Rattle.telling.proofs.opening.begin.Goals as goal

pub unwrap-requires : goal.unwrap-requires
unwrap-requires g c = granted 4294967295 255 _ (replicate 75 0) c.open.ensures.words refl _ c.save-2.ensures.reply

pub returns : goal.returns
returns g c = c.save-2.ensures.list ∙ saved_new 4294967295 255 _ (replicate 75 0) c.open.ensures.words refl
