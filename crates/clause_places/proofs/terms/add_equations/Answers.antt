use Rattle.clause_places.proofs.ListedTerms.{equation_added, counts_added}
use Rattle.clause_places.proofs.terms.add_equations.Goals as goal

pub loop-equation-preserved : goal.loop-equation-preserved
loop-equation-preserved c = record {
  terms =
      equation_added c.args.equations.now c.loop-equation.equation-index c.equation-item.result
      c.args.made.now c.loop-equation.made c.add_side.new.made
      c.add_side-in-loop-equation.new.made c.loop-equation-test.true c.equation-item.is
      c.loop-equation.invariant.terms c.in_ok-left.ensures.terms c.in_ok-right.ensures.terms;
  counts =
      counts_added c.args.equations.now c.loop-equation.equation-index c.equation-item.result
      c.loop-equation.counts.items c.push.new.self.items c.in_ok-left.left c.in_ok-right.right
      c.loop-equation-test.true c.equation-item.is c.loop-equation.invariant.counts
      c.in_ok-left.ensures.count c.in_ok-right.ensures.count c.in_ok-push.ensures.items;
}
