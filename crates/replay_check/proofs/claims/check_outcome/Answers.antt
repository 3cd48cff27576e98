use Rattle.std.proofs.Common.{sym, subst}
use Rattle.clause_core.specs.declared.reports.Outcome.TheVariants.{Refuted}
use Rattle.clause_core.specs.Tidied.{goal_clause}
use Rattle.acceptance.specs.Accepting.{IsShown}
use Rattle.acceptance.specs.Blocks.{Proves}
use Rattle.acceptance.specs.Claims.{ProvedBefore}
use Rattle.acceptance.specs.Refusals.{block_tests, outcome_tests}
use Rattle.replay_check.specs.Finds.{Finds}
use Rattle.replay_check.proofs.claims.check_outcome.Goals as goal

pub returns-in-Proved : goal.returns-in-Proved
returns-in-Proved g c = λ before proved.
    let found = subst (λ ss. Finds {T = Unit {0}} (block_tests (g.O.TermOrder.above c.args.admitted.now.order)
    c.args.admitted.now.spec before c.args.line c.args.goal.now.name ss)
    (λ done. Proves (g.O.TermOrder.above c.args.admitted.now.order) c.args.admitted.now.spec
    (ProvedBefore c.args.admitted.now.spec before) (goal_clause c.args.goal.now) ss) c.check_block.result)
    c.as_slice.ensures (c.check_block.ensures before proved) in
    subst (λ o. Finds {T = Unit {0}} (outcome_tests (g.O.TermOrder.above c.args.admitted.now.order)
    c.args.admitted.now.spec before c.args.line c.args.goal.now.name c.args.steps o)
    (λ done. IsShown (g.O.TermOrder.above c.args.admitted.now.order) c.args.admitted.now.spec c.args.steps
    before c.args.goal.now o) c.check_block.result) (sym c.in-Proved.is) found

pub returns-in-Refuted : goal.returns-in-Refuted
returns-in-Refuted g c = λ before proved.
    let found = subst (λ vs. Finds {T = Unit {0}} (outcome_tests (g.O.TermOrder.above c.args.admitted.now.order)
    c.args.admitted.now.spec before c.args.line c.args.goal.now.name c.args.steps
    (Refuted c.in-Refuted.index vs)) (λ done. IsShown (g.O.TermOrder.above c.args.admitted.now.order)
    c.args.admitted.now.spec c.args.steps before c.args.goal.now (Refuted c.in-Refuted.index vs))
    c.check_values.result) c.as_slice-in-Refuted.ensures (c.check_values.ensures before c.in-Refuted.index) in
    subst (λ o. Finds {T = Unit {0}} (outcome_tests (g.O.TermOrder.above c.args.admitted.now.order)
    c.args.admitted.now.spec before c.args.line c.args.goal.now.name c.args.steps o)
    (λ done. IsShown (g.O.TermOrder.above c.args.admitted.now.order) c.args.admitted.now.spec c.args.steps
    before c.args.goal.now o) c.check_values.result) (sym c.in-Refuted.is) found
