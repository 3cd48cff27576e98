use Rattle.std.proofs.Common.{List, sym, subst, length, take}
use Rattle.std.proofs.lemmas.List.{take-map}
use Rattle.term_core.specs.declared.ids.SortId.{SortId}
use Rattle.spec_core.specs.declared.records.VarInfo.{VarInfo}
use Rattle.spec_core.specs.Truth.{AreValuesOf}
use Rattle.spec_core.specs.WellSorted.{sorts_of}
use Rattle.bank_machine.specs.Runs.{StandAt}
use Rattle.search_cases.proofs.cases.is_part.Goals as goal

pub verdict_part-requires-clause-values : goal.verdict_part-requires-clause-values
verdict_part-requires-clause-values c =
    let spec = c.args.spec.now in
    let count = length c.args.values.now in
    let stand = subst (λ ids. StandAt c.placed.new.bank ids c.args.values.now) (sym c.deref.ensures.value)
    c.in_ok-places.ensures.stand in
    let are : AreValuesOf spec (sorts_of (take count c.args.goal.now.vars)) c.args.values.now = subst
    (λ (vs : List VarInfo). AreValuesOf spec (sorts_of (take count vs)) c.args.values.now)
    c.as_slice-vars.ensures c.in_ok-places.ensures.are in
    let first : AreValuesOf spec (take count (sorts_of c.args.goal.now.vars)) c.args.values.now = subst
    (λ (ss : List SortId). AreValuesOf spec ss c.args.values.now)
    (sym (take-map (λ (v : VarInfo). v.sort) count c.args.goal.now.vars)) are in
    (c.args.values.now, stand, first)
