use Rattle.sort_check.specs.FirstFault.{spec_tests}
use Rattle.sort_check.specs.StandsFor.{IsNumbered}
use Rattle.sort_check.proofs.Elaborates.{answer_exact, stands_where, made_where, well_sorted_where}
use Rattle.sort_check.proofs.elaborating.elaborate.Goals as goal

pub returns-clause-stands : goal.returns-clause-stands
returns-clause-stands c = stands_where c.args.raw.now c.spec_of.result c.spec_of.ensures

pub returns-clause-answered : goal.returns-clause-answered
returns-clause-answered c = made_where c.args.raw.now c.spec_of.result c.spec_of.ensures

pub returns-clause-sorted : goal.returns-clause-sorted
returns-clause-sorted c = well_sorted_where c.args.raw.now c.spec_of.result c.spec_of.ensures

pub returns-clause-exact : goal.returns-clause-exact
returns-clause-exact c = answer_exact (spec_tests c.args.raw.now) (IsNumbered c.args.raw.now) c.spec_of.result
    c.spec_of.ensures
