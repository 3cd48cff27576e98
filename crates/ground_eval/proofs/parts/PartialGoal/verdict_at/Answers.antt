use Rattle.std.proofs.Common.{◌≡◌, ◌+◌, ◌≤◌, sym, subst, length}
use Rattle.term_core.proofs.Items.{if_ok_map}
use Rattle.spec_core.specs.WellSorted.{GoalIsSorted, IsWellSorted}
use Rattle.ground_eval.specs.Entries.{AreEntriesAt, SayOfAll}
use Rattle.ground_eval.specs.Looked.{most_evaluated}
use Rattle.ground_eval.specs.Opened.{Partial, partial}
use Rattle.ground_eval.proofs.FewCells.{few_evaluated}
use Rattle.ground_eval.proofs.PartGoals.{here, is_set, open_ready, said, stand_for_all}
use Rattle.ground_eval.proofs.parts.PartialGoal.verdict_at.Goals as goal

pub open_verdict-requires-clause-ready : goal.open_verdict-requires-clause-ready
open_verdict-requires-clause-ready c =
    let i = c.self.inside in
    let fine : IsWellSorted i.spec.now = subst (λ (z : Partial). IsWellSorted z.spec) (sym c.self.view_is)
    c.requires.fine in
    let q : GoalIsSorted i.spec.now.sig i.goal.now = subst (λ (z : Partial). GoalIsSorted z.spec.sig z.goal)
    (sym c.self.view_is) (c.requires.fine.goals c.requires.listed.0 c.args.self.now.goal c.requires.listed.1) in
    let I = c.self.invariant in
    let cells = c.args.bank.now in
    let ids = c.args.entries.now in
    let count : length ids ≡ length i.goal.now.vars = subst (λ (z : Partial). length ids ≡ length z.goal.vars)
    (sym c.self.view_is) c.requires.all in
    let terms = c.requires.entries.0 in
    let e0 = c.requires.entries.1 in
    let e : AreEntriesAt (partial i.spec.now i.goal.now i.machine.spec) cells ids terms = subst
    (λ (z : Partial). AreEntriesAt z cells ids terms) (sym c.self.view_is) e0 in
    let f = stand_for_all I fine q cells ids terms e count in
    let s = here I fine q terms f.fit f.all in
    let o = open_ready I fine q terms f.fit f.all cells ids f.stand c.as_slice.ensures.value
    c.as_slice-2.ensures.value in
    let set = is_set I fine q terms f.fit f.all in
    (s, i.goal.now, set, o.0, o.1)

pub returns-clause-says : goal.returns-clause-says
returns-clause-says c =
    let i = c.self.inside in
    let fine : IsWellSorted i.spec.now = subst (λ (z : Partial). IsWellSorted z.spec) (sym c.self.view_is)
    c.requires.fine in
    let q : GoalIsSorted i.spec.now.sig i.goal.now = subst (λ (z : Partial). GoalIsSorted z.spec.sig z.goal)
    (sym c.self.view_is) (c.requires.fine.goals c.requires.listed.0 c.args.self.now.goal c.requires.listed.1) in
    let I = c.self.invariant in
    let cells = c.args.bank.now in
    let ids = c.args.entries.now in
    let count : length ids ≡ length i.goal.now.vars = subst (λ (z : Partial). length ids ≡ length z.goal.vars)
    (sym c.self.view_is) c.requires.all in
    if_ok_map c.open_verdict.result _ _
    (λ r h terms e0.
    let e : AreEntriesAt (partial i.spec.now i.goal.now i.machine.spec) cells ids terms = subst
    (λ (z : Partial). AreEntriesAt z cells ids terms) (sym c.self.view_is) e0 in
    let f = stand_for_all I fine q cells ids terms e count in
    let s = here I fine q terms f.fit f.all in
    let o = open_ready I fine q terms f.fit f.all cells ids f.stand c.as_slice.ensures.value
    c.as_slice-2.ensures.value in
    let set = is_set I fine q terms f.fit f.all in
    subst (λ (z : Partial). SayOfAll z.spec z.goal c.args.budget terms r) c.self.view_is
    (said I fine q terms f.fit f.all c.args.budget cells ids f.stand r (h s i.goal.now set o.0 o.1)))
    c.open_verdict.ensures.opens

pub returns-clause-few : goal.returns-clause-few
returns-clause-few c =
    let i = c.self.inside in
    if_ok_map c.open_verdict.result _ _
    (λ r h. subst (λ (z : Partial). length c.open_verdict.new.bank ≤ length c.args.bank.now + most_evaluated
    z c.args.budget) c.self.view_is (few_evaluated c.self.invariant c.args.budget (length c.args.bank.now)
    (length c.open_verdict.new.bank) c.as_slice.result.now c.as_slice-2.result.now c.as_slice.ensures.value
    c.as_slice-2.ensures.value h)) c.open_verdict.ensures.few
