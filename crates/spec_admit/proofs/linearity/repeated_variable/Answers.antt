use Rattle.overlap_check.specs.declared.answers.Linear.TheVariants.{Repeated}
use Rattle.overlap_check.specs.Repetition.{IsLinearity}
use Rattle.spec_admit.proofs.RepeatedNames.{within, is_repeated}
use Rattle.spec_admit.proofs.linearity.repeated_variable.Goals as goal

pub bounds-vars-var : goal.bounds-vars-var
bounds-vars-var c =
    let h : IsLinearity c.args.spec.now (Repeated c.in-Repeated.rule c.in-Repeated.var) = rw c.in-Repeated.is
    at c.in_ok-linear.ensures in
    rw c.as_slice-vars.ensures (within c.args.spec.now c.in-Repeated.rule c.in-Repeated.var h
    c.as_slice-rules.result.now c.as_slice-rules.ensures _ c.requires)

pub returns-in_ok-name-in-Repeated : goal.returns-in_ok-name-in-Repeated
returns-in_ok-name-in-Repeated c =
    let h : IsLinearity c.args.spec.now (Repeated c.in-Repeated.rule c.in-Repeated.var) = rw c.in-Repeated.is
    at c.in_ok-linear.ensures in
    is_repeated c.args.spec.now c.in-Repeated.rule c.in-Repeated.var h c.as_slice-rules.result.now
    c.as_slice-rules.ensures _ c.requires c.as_slice-vars.result.now c.index-vars-var.result
    c.in_ok-name-in-Repeated.name c.as_slice-vars.ensures c.in_ok-name-in-Repeated.ensures
