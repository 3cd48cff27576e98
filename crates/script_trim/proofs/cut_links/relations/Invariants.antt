use Rattle.std.proofs.Common.{◌≡◌, map, take}
use Rattle.clause_core.specs.declared.answers.Child.{Child}
use Rattle.block_links.specs.Links.{without_sides}
use Rattle.script_trim.proofs.cut_links.relations.Given as goal

abbrev pub invariant-loop-child : goal.invariant-loop-child
invariant-loop-child l =
    l.copies.items
    ≡ map (λ (d : Child). record { clause = without_sides; relation = d.relation })
    (take l.child-index l.children)
