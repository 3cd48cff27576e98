-- The children so far are taken apart.
use Rattle.std.proofs.Common.{◌≡◌, map}
use Rattle.clause_core.specs.declared.answers.Child.{Child}
use Rattle.block_links.specs.Links.{without_sides}
use Rattle.block_links.proofs.taking_apart.apart.Given as goal

abbrev pub invariant-loop-child : goal.invariant-loop-child
invariant-loop-child l =
    (l.nodes.items ≡ map (λ (d : Child). d.clause) l.yielded)
    × (l.links.items
    ≡ map (λ (d : Child). record { clause = without_sides; relation = d.relation }) l.yielded)
