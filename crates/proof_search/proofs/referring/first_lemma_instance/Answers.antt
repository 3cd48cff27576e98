use Rattle.std.proofs.Common.{◌≡◌, true, false}
use Rattle.std.specs.Prelude.{is_some}
use Rattle.term_core.proofs.Items.{all_at}
use Rattle.routine_proof.specs.Candidates.{Gives}
use Rattle.proof_search.specs.declared.setting.LemmaGoal.{LemmaGoal}
use Rattle.fitting_lists.specs.Leading.{IsPlace}
use Rattle.proof_search.specs.Taking.{SaysAt}
use Rattle.proof_search.proofs.Walking.{found_at, passed_at, none_found, item_at, past_all}
use Rattle.proof_search.specs.Chosen.{lemma_instances_by}
use Rattle.proof_search.proofs.LemmaClauses.{lemma_sorted}
use Rattle.proof_search.proofs.referring.first_lemma_instance.Goals as goal

pub first_closing-requires-clause-sorted : goal.first_closing-requires-clause-sorted
first_closing-requires-clause-sorted g c =
    lemma_sorted c.args.at.now.setting.now c.tidying_laws.ensures c.requires.setting
    c.loop-goal.goal-index c.goal-item.result
    (item_at c.deref-goal-items.result.now c.args.at.now.setting.now.goals.items
    c.loop-goal.goal-index c.goal-item.result c.deref-goal-items.ensures.value
    c.loop-goal-test.true c.goal-item.is)

pub returns-then-is_some : goal.returns-then-is_some
returns-then-is_some g c =
    let says = SaysAt (g.O.TermOrder.above c.args.order.now) c.args.at.now in
    let k = c.loop-goal.goal-index in
    let found = c.in_ok-found.found in
    let there : is_some found ≡ true = cc (c.is_some.ensures, c.if-is_some.true) in
    found_at (Gives says) c.args.at.now.setting.now.goals.items
    (lemma_instances_by c.args.at.now) k c.goal-item.result found
    (item_at c.deref-goal-items.result.now c.args.at.now.setting.now.goals.items k
    c.goal-item.result c.deref-goal-items.ensures.value c.loop-goal-test.true c.goal-item.is)
    c.loop-goal.invariant there c.in_ok-found.ensures

pub loop-goal-preserved : goal.loop-goal-preserved
loop-goal-preserved g c =
    let says = SaysAt (g.O.TermOrder.above c.args.order.now) c.args.at.now in
    let k = c.loop-goal.goal-index in
    let found = c.in_ok-found.found in
    let there : is_some found ≡ false = cc (c.is_some.ensures, c.if-is_some.false) in
    passed_at (Gives says) c.args.at.now.setting.now.goals.items
    (lemma_instances_by c.args.at.now) k c.goal-item.result found
    (item_at c.deref-goal-items.result.now c.args.at.now.setting.now.goals.items k
    c.goal-item.result c.deref-goal-items.ensures.value c.loop-goal-test.true c.goal-item.is)
    c.loop-goal.invariant there c.in_ok-found.ensures

pub returns : goal.returns
returns g c =
    let says = SaysAt (g.O.TermOrder.above c.args.order.now) c.args.at.now in
    let k = c.loop-goal.goal-index in
    none_found (Gives says) c.args.at.now.setting.now.goals.items
    (lemma_instances_by c.args.at.now) k (past_all c.deref-goal-items.result.now
    c.args.at.now.setting.now.goals.items k c.deref-goal-items.ensures.value
    c.loop-goal-test.false) c.loop-goal.invariant

pub leading_at-first-requires : goal.leading_at-first-requires
leading_at-first-requires g c =
    let goals = c.args.at.now.setting.now.goals.items in
    let k = c.loop-goal.goal-index in
    all_at (λ (m : LemmaGoal). IsPlace m.clause m.leading) goals c.requires.setting.leadings k
    c.goal-item.result
    (item_at c.deref-goal-items.result.now goals k c.goal-item.result
    c.deref-goal-items.ensures.value c.loop-goal-test.true c.goal-item.is)
