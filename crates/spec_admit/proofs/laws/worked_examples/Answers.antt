use Rattle.spec_admit.proofs.AdditionFaults.{order, coverage}
use Rattle.spec_admit.proofs.LeftSideFaults.{linear, overlap, guards}
use Rattle.spec_admit.proofs.laws.worked_examples.Goals as goal

pub returns : goal.returns
returns c =
    let naturals = c.worked_examples.ensures in
    let sums = c.worked_examples-2.ensures in
    record {
      linear = linear sums.repeated;
      order = order;
      overlap = overlap naturals.linear sums.both;
      guards = guards c.worked_examples-3.ensures.no_rules;
      coverage = coverage naturals.linear naturals.small_nat;
    }
