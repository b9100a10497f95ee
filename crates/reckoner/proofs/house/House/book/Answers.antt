-- A refused booking leaves the tree of its name, and so the house.
use Rattle.std.proofs.Common.{set, ap, ◌∙◌, ◌-◌}
use Rattle.std.proofs.lemmas.List.{set-get_or}
use Rattle.reckoner.proofs.Same.{on_refused, with_names, written_back}
use Rattle.reckoner.proofs.house.House.book.Goals as goal

pub returns : goal.returns
returns c = record {
  refused = on_refused c.book_below.result
      (λ same. ap (with_names c.args.self.now)
      (written_back c.args.self.now.names (c.args.trace.now.name - 1) c.book_below.new.self
      (ap (set c.args.self.now.names.items (c.args.trace.now.name - 1)) (same ∙ c.in-Some.ensures.value)
      ∙ set-get_or c.args.self.now.names.items (c.args.trace.now.name - 1) c.in-Some.tree.now)))
      c.book_below.ensures.refused;
}
