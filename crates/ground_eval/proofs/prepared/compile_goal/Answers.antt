use Rattle.std.proofs.Common.{ap, sym, ◌∙◌, subst, arith}
use Rattle.spec_core.specs.declared.records.Spec.{Spec}
use Rattle.spec_core.specs.WellSorted.{EquationsAreSorted, sorts_of}
use Rattle.ground_eval.specs.Prepared.{HaveCode, sides_length}
use Rattle.ground_eval.proofs.SharedSides.{pairs_kept, sorts_count}
use Rattle.ground_eval.proofs.prepared.compile_goal.Goals as goal

pub compile_sides-requires : goal.compile_sides-requires
compile_sides-requires c =
    let vars = c.args.goal.now.vars in (
      sorts_of vars,
      subst (λ es. EquationsAreSorted c.args.machine.spec.sig (sorts_of vars) es)
          (sym c.as_slice.ensures) c.requires.premises,
      sorts_count vars ∙ sym c.len-variables.ensures,
    )

pub compile_sides-requires-2 : goal.compile_sides-requires-2
compile_sides-requires-2 c =
    let vars = c.args.goal.now.vars in (
      sorts_of vars,
      subst (λ (s : Spec). EquationsAreSorted s.sig (sorts_of vars) c.as_slice-2.result.now)
          (sym c.in_ok-machine.ensures.spec)
          (subst (λ es. EquationsAreSorted c.args.machine.spec.sig (sorts_of vars) es) (sym c.as_slice-2.ensures)
          c.requires.conclusions),
      sorts_count vars ∙ sym c.len-variables.ensures,
    )

pub returns-clause-code : goal.returns-clause-code
returns-clause-code c =
    let all = c.args.goal.now in
    let n = c.len-variables.ensures in
    let last = c.in_ok-machine-2.machine in
    let first = pairs_kept c.in_ok-machine.machine last c.len-variables.result c.as_slice.result.now
    c.in_ok-machine.premises.items c.in_ok-machine-2.ensures.spec c.in_ok-machine-2.ensures.adds
    c.in_ok-machine.ensures.code in
    record {
      of_premises = subst (λ m. HaveCode last m all.premises c.in_ok-machine.premises.items) n
          (subst (λ es. HaveCode last c.len-variables.result es c.in_ok-machine.premises.items)
          c.as_slice.ensures first);
      of_conclusions = subst (λ m. HaveCode last m all.conclusions c.in_ok-machine-2.conclusions.items) n
          (subst (λ es. HaveCode last c.len-variables.result es c.in_ok-machine-2.conclusions.items)
          c.as_slice-2.ensures c.in_ok-machine-2.ensures.code);
    }

pub returns-clause-few : goal.returns-clause-few
returns-clause-few c = omega (
  arith,
  c.in_ok-machine.ensures.few,
  c.in_ok-machine-2.ensures.few,
  ap sides_length c.as_slice.ensures,
  ap sides_length c.as_slice-2.ensures,
)
