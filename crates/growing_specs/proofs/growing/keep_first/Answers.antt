use Rattle.std.proofs.Common.{◌≡◌, List, take, sym, ◌∙◌, ap, subst}
use Rattle.spec_core.specs.WellSorted.{IsWellSorted}
use Rattle.spec_core.specs.declared.records.Goal.{Goal}
use Rattle.clause_core.specs.Admitted.{IsAdmitted}
use Rattle.growing_specs.specs.Growing.{with_goals}
use Rattle.growing_specs.proofs.Kept.{still_admitted, first_sorted}
use Rattle.growing_specs.proofs.growing.keep_first.Goals as goal

pub invariant_of-admitted : goal.invariant_of-admitted
invariant_of-admitted g c =
    let above = g.O.TermOrder.above c.admitted.inside.order in
    let spec = c.admitted.inside.spec in
    let goals : c.from_vec.result ≡ take c.args.count spec.goals =
    c.from_vec.ensures ∙ c.truncate.ensures.items
    ∙ ap (λ (gs : List Goal). take c.args.count gs) (c.into_vec-goals.ensures ∙ c.replace.ensures.value) in
    subst (λ (gs : List Goal). IsWellSorted (with_goals spec gs) × IsAdmitted above (with_goals spec gs)) (sym goals) (
      first_sorted spec c.args.count c.admitted.invariant.0,
      still_admitted above spec (take c.args.count spec.goals) c.admitted.invariant.1,
    )
