use Rattle.sort_check.specs.FirstFault.{ground_tests}
use Rattle.sort_check.proofs.Elaborates.{IsGround, answer_exact, term_stands_where, term_made_where}
use Rattle.sort_check.proofs.elaborating.elaborate_term.Goals as goal

pub returns-clause-stands : goal.returns-clause-stands
returns-clause-stands c = term_stands_where c.args.sig.now c.args.raw.now c.ground_term.result c.ground_term.ensures

pub returns-clause-answered : goal.returns-clause-answered
returns-clause-answered c = term_made_where c.args.sig.now c.args.raw.now c.declared.ensures
    c.ground_term.result c.ground_term.ensures

pub returns-clause-exact : goal.returns-clause-exact
returns-clause-exact c = answer_exact (ground_tests c.args.sig.now c.args.raw.now)
    (IsGround c.args.sig.now c.args.raw.now) c.ground_term.result c.ground_term.ensures
