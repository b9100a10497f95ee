-- One step along the chain.
use Rattle.std.specs.Prelude.{◌≡◌, ℕ, ◌<◌, ◌≤◌, List, Option, Some, None}
use Rattle.layout.specs.Chains.{next_at}
use Rattle.placement.specs.declared.chain.Link.{Link}

-- from one link on to the next: what is found is that link, or nothing where it leads no further up
abbrev pub Follows : List ℕ → Link → Option Link → Link → Type 0
Follows ws link None link' = (link.next ≤ link.before) × (link'.before ≡ link.before) × (link'.next ≡ link.next)
Follows ws link (Some found) link' =
    (link.before < link.next) × (found.before ≡ link.before) × (found.next ≡ link.next)
    × (link'.before ≡ link.next) × (link'.next ≡ next_at ws link.next)
