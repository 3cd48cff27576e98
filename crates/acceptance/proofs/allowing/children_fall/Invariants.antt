use Rattle.std.specs.Prelude.{◌+◌}
use Rattle.clause_core.specs.declared.answers.Child.{Child}
use Rattle.acceptance.specs.AllowedAnswers.{FallsBy}
use Rattle.acceptance.proofs.Flags.{FirstAre}
use Rattle.acceptance.proofs.allowing.children_fall.Given as goal

abbrev pub invariant-loop-place : goal.invariant-loop-place
invariant-loop-place l = FirstAre (λ i (d : Child). FallsBy l.strict l.node (l.first + i) d.relation)
    l.child-items l.place
