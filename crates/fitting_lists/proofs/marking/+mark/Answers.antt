-- The variables of one term more are marked.
use Rattle.std.proofs.Common.{add-one, arith}
use Rattle.term_core.proofs.Trees.{weight-member}
use Rattle.fitting_lists.proofs.MarkedVariables.{marks_term}
use Rattle.fitting_lists.proofs.marking.+mark.Goals as goal

pub mark_all-mark-requires : goal.mark_all-mark-requires
mark_all-mark-requires t c =
    let index = c.loop-term.term-index in
    let term = c.term-item.result in
    let lighter = weight-member c.args.terms.now index term c.loop-term-test.true c.term-item.is in
    (omega (arith, lighter), tt)

pub mark_all-loop-term-preserved : goal.mark_all-loop-term-preserved
mark_all-loop-term-preserved t c =
    rw add-one (
    marks_term c.args.marks.now c.loop-term.marks c.mark.new.marks c.args.terms.now
    c.loop-term.term-index c.term-item.result c.loop-term-test.true c.term-item.is
    c.loop-term.invariant c.mark.ensures)
