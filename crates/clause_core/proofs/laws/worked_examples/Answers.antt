use Rattle.std.proofs.Common.{refl}
use Rattle.clause_core.specs.Examples.{repeating_rule}
use Rattle.clause_core.proofs.Naturals.{ordered, whole, not_ordered, not_whole}
use Rattle.clause_core.proofs.laws.worked_examples.Goals as goal

pub returns : goal.returns
returns c =
    let e = c.worked_examples.ensures in
    record {
      naturals_are_admitted = record {
        linear = e.linear;
        ordered = ordered;
        apart = e.apart;
        whole = whole;
        covering = e.covering;
      };
      repeating_is_not = λ a. e.not_linear (a.linear 0 repeating_rule refl);
      looping_is_not = λ a. not_ordered a.ordered;
      overlapping_is_not = λ a. e.not_apart a.apart;
      one_sided_is_not = λ a. not_whole a.whole;
      uncovered_is_not = λ a. e.not_covering a.covering;
    }
