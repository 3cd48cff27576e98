use Rattle.clause_core.specs.declared.answers.Child.{Child}
use Rattle.acceptance.specs.Strict.{ChildIsAllowed}
use Rattle.acceptance.proofs.Flags.{FirstAre}
use Rattle.acceptance.proofs.allowing.children_are_allowed.Given as goal

abbrev pub invariant-loop-child : goal.invariant-loop-child
invariant-loop-child l = FirstAre (λ i (d : Child). ChildIsAllowed l.made d.relation) l.child-items l.child-index
