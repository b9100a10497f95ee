use Rattle.std.proofs.Common.{set, ap, ◌∙◌}
use Rattle.std.proofs.lemmas.List.{set-get_or}
use Rattle.reckoner.proofs.Same.{on_refused, written_back}
use Rattle.reckoner.proofs.tree.+book_below_book_in.Goals as goal

pub book_in-returns : goal.book_in-returns
book_in-returns t c = record {
  refused = on_refused c.book_below.result
      (λ same. written_back c.args.trees.now c.args.k c.book_below.new.self
      (ap (set c.args.trees.now.items c.args.k) (same ∙ c.index_mut.ensures.value) ∙ set-get_or c.args.trees.now.items c.args.k _))
      c.book_below.ensures.refused;
}
