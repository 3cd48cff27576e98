use Rattle.std.proofs.Common.{subst}
use Rattle.term_core.specs.Tree.{trees_of}
use Rattle.overlap_check.specs.declared.linearity.Frequency.TheVariants.{Never}
use Rattle.overlap_check.specs.Occurrences.{IsTimes, AreTimes}
use Rattle.overlap_check.proofs.Counting.{not_in_first, not_in_others}
use Rattle.overlap_check.proofs.linearity.+times.Goals as goal

pub times_in_all-returns-in-Never-default : goal.times_in_all-returns-in-Never-default
times_in_all-returns-in-Never-default t c =
    let here : IsTimes c.args.var.0 c.in-Some.first.now Never = subst
    (λ x. IsTimes c.args.var.0 c.in-Some.first.now x) c.in-Never-default.is-0 c.times-here.ensures in
    rw c.in-Some.ensures (not_in_first c.args.var.0 c.in-Some.first.now (trees_of c.in-Some.rest.now)
    c.times_in_all-there.result here c.times_in_all-there.ensures)

pub times_in_all-returns-in_default-Never : goal.times_in_all-returns-in_default-Never
times_in_all-returns-in_default-Never t c =
    let there : AreTimes c.args.var.0 (trees_of c.in-Some.rest.now) Never = subst
    (λ x. AreTimes c.args.var.0 (trees_of c.in-Some.rest.now) x) c.in_default-Never.is-1
    c.times_in_all-there.ensures in
    rw c.in-Some.ensures (not_in_others c.args.var.0 c.in-Some.first.now (trees_of c.in-Some.rest.now)
    c.times-here.result c.times-here.ensures there)
