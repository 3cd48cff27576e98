use Rattle.std.proofs.Common.{◌≡◌, ◌+◌, ◌-◌, ◌≤◌, ap, sym, subst, arith, length}
use Rattle.spec_core.specs.WellSorted.{GoalIsSorted, IsWellSorted}
use Rattle.ground_eval.specs.Entries.{SayOfAll}
use Rattle.ground_eval.specs.Looked.{most_evaluated}
use Rattle.ground_eval.specs.Opened.{Partial, AreFirstValues, AllHaveVerdict}
use Rattle.bank_machine.specs.KeptCalls.{AreRight}
use Rattle.ground_eval.proofs.EntryPlaces.{first_entries, no_more_entries}
use Rattle.ground_eval.proofs.EntrySteps.{all_have, open_yet}
use Rattle.ground_eval.proofs.FewCells.{few_evaluated, few_looked, few_over}
use Rattle.ground_eval.proofs.Marking.{marks_kept}
use Rattle.ground_eval.proofs.PartGoals.{places_count, there, whole_ready, whole_part, values_of_all}
use Rattle.ground_eval.proofs.parts.PartialGoal.verdict_part.Goals as goal

pub whole_verdict-requires-clause-kept : goal.whole_verdict-requires-clause-kept
whole_verdict-requires-clause-kept c =
    subst (λ (z : Partial). AreRight z.extended c.args.bank.now c.args.kept.now) (sym c.self.view_is) c.requires.kept

pub whole_verdict-requires-clause-ready : goal.whole_verdict-requires-clause-ready
whole_verdict-requires-clause-ready c =
    let i = c.self.inside in
    let fine : IsWellSorted i.spec.now = subst (λ (z : Partial). IsWellSorted z.spec) (sym c.self.view_is)
    c.requires.fine in
    let q : GoalIsSorted i.spec.now.sig i.goal.now = subst (λ (z : Partial). GoalIsSorted z.spec.sig z.goal)
    (sym c.self.view_is) (c.requires.fine.goals c.requires.listed.0 c.args.self.now.goal c.requires.listed.1) in
    let I = c.self.invariant in
    let terms = c.requires.values.0 in
    let stand = c.requires.values.1 in
    let first0 = c.requires.values.2 in
    let first : AreFirstValues i.spec.now i.goal.now terms = subst
    (λ (z : Partial). AreFirstValues z.spec z.goal terms) (sym c.self.view_is) first0 in
    let long : length c.args.fixed.now ≡ length terms = places_count c.args.bank.now c.args.fixed.now terms stand in
    let all : length terms ≡ length i.goal.now.vars = omega (arith, long, c.if-fixed-count.true, c.len-count.ensures) in
    let w = whole_ready I fine q terms c.args.bank.now c.args.fixed.now stand
    (values_of_all I fine q terms first all) c.as_slice-premises.ensures.value
    c.as_slice-conclusions.ensures.value in
    let g = there I fine q in
    (g, terms, w.0, w.1)

pub returns-then-fixed-count-clause-part : goal.returns-then-fixed-count-clause-part
returns-then-fixed-count-clause-part c terms stand first0 =
    let i = c.self.inside in
    let fine : IsWellSorted i.spec.now = subst (λ (z : Partial). IsWellSorted z.spec) (sym c.self.view_is)
    c.requires.fine in
    let q : GoalIsSorted i.spec.now.sig i.goal.now = subst (λ (z : Partial). GoalIsSorted z.spec.sig z.goal)
    (sym c.self.view_is) (c.requires.fine.goals c.requires.listed.0 c.args.self.now.goal c.requires.listed.1) in
    let I = c.self.invariant in
    let first : AreFirstValues i.spec.now i.goal.now terms = subst
    (λ (z : Partial). AreFirstValues z.spec z.goal terms) (sym c.self.view_is) first0 in
    let long : length c.args.fixed.now ≡ length terms = places_count c.args.bank.now c.args.fixed.now terms stand in
    let all : length terms ≡ length i.goal.now.vars = omega (arith, long, c.if-fixed-count.true, c.len-count.ensures) in
    let w = whole_ready I fine q terms c.args.bank.now c.args.fixed.now stand
    (values_of_all I fine q terms first all) c.as_slice-premises.ensures.value
    c.as_slice-conclusions.ensures.value in
    let g = there I fine q in
    subst (λ (z : Partial). AllHaveVerdict z.spec z.goal terms c.args.budget c.in_ok-verdict.verdict)
    c.self.view_is (whole_part I fine q terms first all c.args.budget c.in_ok-verdict.verdict
    (c.in_ok-verdict.ensures.decided g terms w.0 w.1))

pub returns-then-fixed-count-clause-marks : goal.returns-then-fixed-count-clause-marks
returns-then-fixed-count-clause-marks c =
    marks_kept c.args.self.now.spec.sig.constructors c.args.self.now.extended.sig.constructors c.args.bank.now
    c.whole_verdict.new.bank c.args.marks.now.marks.items c.in_ok-verdict.ensures.adds c.requires.marks

pub returns-in_err-verdict-clause-marks : goal.returns-in_err-verdict-clause-marks
returns-in_err-verdict-clause-marks c =
    marks_kept c.args.self.now.spec.sig.constructors c.args.self.now.extended.sig.constructors c.args.bank.now
    c.whole_verdict.new.bank c.args.marks.now.marks.items c.whole_verdict.ensures.adds c.requires.marks

pub verdict_over-requires-clause-entries : goal.verdict_over-requires-clause-entries
verdict_over-requires-clause-entries c =
    let q = c.requires.values in
    (q.0, first_entries c.args.self.now c.args.bank.now c.args.fixed.now q.0 q.1 q.2)

pub returns-in-Some-clause-part : goal.returns-in-Some-clause-part
returns-in-Some-clause-part c terms stand first =
    let z = c.args.self.now in
    let e = first_entries z c.args.bank.now c.args.fixed.now terms stand first in
    all_have z.spec c.requires.fine z.goal c.args.budget terms e.fit c.in-Some.verdict
    (subst (λ r. SayOfAll z.spec z.goal c.args.budget terms r) c.in-Some.is
    (c.in_ok-verdict-2.ensures.says terms e))

pub overflow_cast-result : goal.overflow_cast-result
overflow_cast-result c =
    let v = c.requires.values in
    let z = c.args.self.now in
    let e = first_entries z c.args.bank.now c.args.fixed.now v.0 v.1 v.2 in
    let few = (c.requires.fine.goals c.requires.listed.0 z.goal c.requires.listed.1).few_variables in
    omega (arith, no_more_entries z c.args.bank.now c.args.fixed.now v.0 e, few)

pub returns-in-None-clause-part : goal.returns-in-None-clause-part
returns-in-None-clause-part c terms stand first =
    let z = c.args.self.now in
    let e = first_entries z c.args.bank.now c.args.fixed.now terms stand first in
    let i = c.self.inside in
    let count : length i.goal.now.vars ≡ length z.goal.vars = ap (λ (p : Partial). length p.goal.vars) c.self.view_is in
    let long = places_count c.args.bank.now c.args.fixed.now terms stand in (
      omega (arith, long),
      omega (
        arith,
        no_more_entries z c.args.bank.now c.args.fixed.now terms e,
        count,
        c.len-count.ensures,
        c.if-fixed-count.false,
      ),
      open_yet z.spec c.requires.fine z.goal c.args.budget terms e.fit
          (subst (λ r. SayOfAll z.spec z.goal c.args.budget terms r) c.in-None.is
          (c.in_ok-verdict-2.ensures.says terms e)),
    )

pub returns-then-fixed-count-clause-few : goal.returns-then-fixed-count-clause-few
returns-then-fixed-count-clause-few c =
    let i = c.self.inside in
    let once = few_evaluated c.self.invariant c.args.budget (length c.args.bank.now)
    (length c.whole_verdict.new.bank) c.as_slice-premises.result.now c.as_slice-conclusions.result.now
    c.as_slice-premises.ensures.value c.as_slice-conclusions.ensures.value c.in_ok-verdict.ensures.few in
    few_looked c.args.self.now c.args.budget (length c.args.bank.now) (length c.whole_verdict.new.bank)
    (subst (λ (z : Partial). length c.whole_verdict.new.bank ≤ length c.args.bank.now + most_evaluated z
    c.args.budget) c.self.view_is once)

pub returns-in-Some-clause-few : goal.returns-in-Some-clause-few
returns-in-Some-clause-few c = few_over c.args.self.now c.args.budget
    (length c.args.self.now.goal.vars - length c.args.fixed.now) (length c.args.bank.now)
    (length c.verdict_over.new.bank) (omega arith) c.in_ok-verdict-2.ensures.few

pub returns-in-None-clause-few : goal.returns-in-None-clause-few
returns-in-None-clause-few c = few_over c.args.self.now c.args.budget
    (length c.args.self.now.goal.vars - length c.args.fixed.now) (length c.args.bank.now)
    (length c.verdict_over.new.bank) (omega arith) c.in_ok-verdict-2.ensures.few
