use Rattle.std.proofs.Common.{ap}
use Rattle.std.proofs.lemmas.Bool.{eqb-true}
use Rattle.std.specs.Prelude.{[]}
use Rattle.term_core.specs.declared.ids.SortId.{SortId}
use Rattle.spec_core.proofs.OneSort.{sort_unique}
use Rattle.replay_check.proofs.values.is_value.Goals as goal

pub returns-else-found-sort : goal.returns-else-found-sort
returns-else-found-sort c = (
  λ h. absurd (c.if-found-sort.false (eqb-true c.in-Some.found.0 c.args.sort.0 h)),
  λ h. absurd (c.if-found-sort.false
      (ap (λ (s : SortId). s.0) (sort_unique c.args.sig.now [] c.args.term.now c.in-Some.found c.args.sort
      c.in-Some.ensures h.0))),
)
