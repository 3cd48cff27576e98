use Rattle.std.proofs.Common.{ap, sym, ◌∙◌, subst}
use Rattle.clause_core.specs.ClauseInstances.{clause_instance}
use Rattle.clause_core.specs.Limits.{IsWithin}
use Rattle.inference_rules.proofs.TestableSides.{within_testable}
use Rattle.inference_rules.proofs.replacing.references.Goals as goal

pub reference-requires-clause-node : goal.reference-requires-clause-node
reference-requires-clause-node g c = within_testable c.args.here.now c.requires.here

pub reference-requires-clause-instance : goal.reference-requires-clause-instance
reference-requires-clause-instance g c =
    let is = c.in_ok-instance.ensures ∙ ap (λ ctx. clause_instance c.args.theta.now.terms ctx c.args.clause.now)
    c.as_slice.ensures in
    within_testable c.in_ok-instance.instance (subst IsWithin (sym is) c.requires.instance)
