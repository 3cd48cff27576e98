use Rattle.std.proofs.Common.{sym, subst}
use Rattle.spec_core.specs.declared.records.Spec.{Spec}
use Rattle.spec_core.specs.Small.{sort_of_number}
use Rattle.spec_core.specs.Sorts.{IsValue}
use Rattle.spec_core.proofs.SmallValues.{small_least}
use Rattle.sample_values.proofs.samples.least_values.Goals as goal

pub insert-requires : goal.insert-requires
insert-requires c =
    let sort = sort_of_number c.loop-sort.sort in
    subst (λ (s : Spec). IsValue s.sig sort c.in_ok-small.small) (sym c.loop-sort.invariant.same)
    (small_least c.spec-spec.result.now.sig c.in_ok-small.small sort c.in_ok-small.ensures).0
