use Rattle.std.proofs.Common.{refl, sym, ◌∙◌, subst}
use Rattle.term_core.proofs.Items.{if_ok_map}
use Rattle.spec_core.specs.declared.records.Spec.{Spec}
use Rattle.spec_core.specs.WellSorted.{GoalIsSorted}
use Rattle.ground_eval.proofs.GoalSides.{decided_sure, decided_fails, decided_verdict}
use Rattle.ground_eval.proofs.LentBanks.{sides_decide}
use Rattle.ground_eval.proofs.SharedSides.{compiled_ready}
use Rattle.ground_eval.proofs.over_bank.verdict_in.Goals as goal

pub compile_goal-requires : goal.compile_goal-requires
compile_goal-requires c =
    let sorted = c.requires.fine.goals c.requires.listed.0 c.args.goal.now c.requires.listed.1 in
    subst (λ (s : Spec). GoalIsSorted s.sig c.args.goal.now) (sym c.in_ok-machine.ensures.spec) sorted

pub whole_verdict-requires-clause-ready : goal.whole_verdict-requires-clause-ready
whole_verdict-requires-clause-ready c =
    let sorted = c.requires.fine.goals c.requires.listed.0 c.args.goal.now c.requires.listed.1 in
    let v = c.requires.values in
    let same = c.in_ok-machine-2.ensures.spec ∙ c.in_ok-machine.ensures.spec in
    let ready = compiled_ready c.args.spec.now c.args.goal.now sorted c.in_ok-machine-2.machine same
    c.in_ok-machine-2.ensures.code v.0 v.2 v.1 c.deref.ensures.value c.deref-2.ensures.value refl in
    (c.args.goal.now, v.0, ready.0, ready.1)

pub returns-clause-verdict : goal.returns-clause-verdict
returns-clause-verdict c =
    let spec = c.args.spec.now in
    let one = c.args.goal.now in
    let sorted = c.requires.fine.goals c.requires.listed.0 one c.requires.listed.1 in
    let v = c.requires.values in
    let same = c.in_ok-machine-2.ensures.spec ∙ c.in_ok-machine.ensures.spec in
    if_ok_map c.whole_verdict.result _ _
    (λ r decided terms stand.
    decided_verdict spec terms c.args.budget one r
    (sides_decide spec one sorted c.in_ok-machine-2.machine same c.in_ok-machine-2.ensures.code v.0 v.2 v.1
    c.deref.ensures.value c.deref-2.ensures.value c.args.budget r decided terms stand))
    c.whole_verdict.ensures.decided

pub returns-clause-sure : goal.returns-clause-sure
returns-clause-sure c =
    let spec = c.args.spec.now in
    let one = c.args.goal.now in
    let sorted = c.requires.fine.goals c.requires.listed.0 one c.requires.listed.1 in
    let v = c.requires.values in
    let same = c.in_ok-machine-2.ensures.spec ∙ c.in_ok-machine.ensures.spec in
    if_ok_map c.whole_verdict.result _ _
    (λ r decided terms stand.
    decided_sure spec terms c.args.budget one r
    (sides_decide spec one sorted c.in_ok-machine-2.machine same c.in_ok-machine-2.ensures.code v.0 v.2 v.1
    c.deref.ensures.value c.deref-2.ensures.value c.args.budget r decided terms stand))
    c.whole_verdict.ensures.decided

pub returns-clause-fails : goal.returns-clause-fails
returns-clause-fails c =
    let spec = c.args.spec.now in
    let one = c.args.goal.now in
    let sorted = c.requires.fine.goals c.requires.listed.0 one c.requires.listed.1 in
    let v = c.requires.values in
    let same = c.in_ok-machine-2.ensures.spec ∙ c.in_ok-machine.ensures.spec in
    if_ok_map c.whole_verdict.result _ _
    (λ r decided terms stand.
    decided_fails spec terms c.args.budget one r
    (sides_decide spec one sorted c.in_ok-machine-2.machine same c.in_ok-machine-2.ensures.code v.0 v.2 v.1
    c.deref.ensures.value c.deref-2.ensures.value c.args.budget r decided terms stand))
    c.whole_verdict.ensures.decided
