use Rattle.clause_core.specs.declared.answers.Reference.{Reference}
use Rattle.acceptance.specs.AllowedAnswers.{FallsBy}
use Rattle.acceptance.proofs.Flags.{FirstAre}
use Rattle.acceptance.proofs.allowing.references_fall.Given as goal

abbrev pub invariant-loop-reference : goal.invariant-loop-reference
invariant-loop-reference l = FirstAre (λ i (d : Reference). FallsBy l.strict l.node d.node d.relation)
    l.reference-items l.reference-index
