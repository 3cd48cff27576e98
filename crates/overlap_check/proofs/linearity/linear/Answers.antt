use Rattle.std.proofs.Common.{◌≡◌, Some, ap, subst, refl, arith, length}
use Rattle.std.specs.Prelude.{slice_get}
use Rattle.std.proofs.lemmas.List.{length-map}
use Rattle.std.proofs.lemmas.Option.{slice_get_read, slice_get_within}
use Rattle.spec_core.specs.declared.records.VarInfo.{VarInfo}
use Rattle.spec_core.specs.WellSorted.{RuleIsSorted}
use Rattle.overlap_check.proofs.Counting.{more_linear}
use Rattle.overlap_check.proofs.linearity.linear.Goals as goal
use Rattle.overlap_check.proofs.linearity.linear.Goals.{After-rule-item}

here : (c : After-rule-item) → slice_get c.args.spec.now.rules c.loop-place.place ≡ Some c.rule-item.result
here c = subst (λ rs. slice_get rs c.loop-place.place ≡ Some c.rule-item.result) c.as_slice-rule-items.ensures
    (slice_get_read c.as_slice-rule-items.result.now _ c.loop-place.place c.rule-item.result refl
    c.loop-place-test.true c.rule-item.is)

sorted : (c : After-rule-item) → RuleIsSorted c.args.spec.now.sig c.rule-item.result
sorted c = c.requires.rules c.loop-place.place c.rule-item.result (here c)

pub overflow_cast-len : goal.overflow_cast-len
overflow_cast-len c =
    let b = (goal.at.overflow_cast-len c).After-rule-item in
    omega (arith, c.len.ensures, (sorted b).few_variables)

pub least_repeated-requires : goal.least_repeated-requires
least_repeated-requires c =
    let b = (goal.at.least_repeated-requires c).After-rule-item in
    (_, (sorted b).numbered, omega (arith, c.len.ensures, length-map c.rule-item.result.vars (λ (v : VarInfo). v.sort)))

pub returns-in-Some : goal.returns-in-Some
returns-in-Some c =
    let b = (goal.at.returns-in-Some c).After-rule-item in (
      c.loop-place.place,
      refl,
      record { rule = c.rule-item.result; at = here b; least = c.in-Some.ensures; before = c.loop-place.invariant },
    )

pub loop-place-preserved : goal.loop-place-preserved
loop-place-preserved c =
    let b = (goal.at.loop-place-preserved c).After-rule-item in
    more_linear c.args.spec.now.rules c.loop-place.place c.rule-item.result (here b) c.loop-place.invariant
    c.in_default.ensures

pub returns : goal.returns
returns c k rule at =
    c.loop-place.invariant k rule
    (omega (
      arith,
      c.loop-place-test.false,
      slice_get_within c.args.spec.now.rules k rule at,
      ap length c.as_slice-rule-items.ensures,
    )) at
