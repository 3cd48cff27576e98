use Rattle.std.proofs.Common.{◌≡◌, ℕ, List, true, false, ap, sym}
use Rattle.std.specs.Prelude.{is_some}
use Rattle.clause_core.specs.declared.clauses.Clause.{Clause}
use Rattle.term_core.proofs.Items.{all_at}
use Rattle.proof_search.specs.FallingSides.{AreLemmaSides}
use Rattle.routine_proof.specs.Candidates.{Gives}
use Rattle.proof_search.specs.Taking.{SaysAt}
use Rattle.proof_search.proofs.Walking.{found_at, passed_at, none_found, item_at, past_all}
use Rattle.proof_search.specs.Chosen.{lemma_uses_by}
use Rattle.proof_search.proofs.LemmaClauses.{lemma_sorted, lemma_listed}
use Rattle.proof_search.specs.declared.setting.LemmaGoal.{LemmaGoal}
use Rattle.proof_search.proofs.rewriting.first_lemma_use.Goals as goal

pub first_rewriting-requires-clause-sorted : goal.first_rewriting-requires-clause-sorted
first_rewriting-requires-clause-sorted g c =
    lemma_sorted c.args.at.now.setting.now c.tidying_laws.ensures c.requires.at.setting
    c.loop-goal.goal-index c.goal-item.result
    (item_at c.deref-goal-items.result.now c.args.at.now.setting.now.goals.items
    c.loop-goal.goal-index c.goal-item.result c.deref-goal-items.ensures.value
    c.loop-goal-test.true c.goal-item.is)

pub returns-then-is_some : goal.returns-then-is_some
returns-then-is_some g c =
    let says = SaysAt (g.O.TermOrder.above c.args.order.now) c.args.at.now in
    let k = c.loop-goal.goal-index in
    let found = c.in_ok-found.found in
    let there : is_some found ≡ true = cc (c.is_some.ensures, c.if-is_some.true) in
    found_at (Gives says) c.args.at.now.setting.now.goals.items
    (lemma_uses_by c.args.at.now) k c.goal-item.result found
    (item_at c.deref-goal-items.result.now c.args.at.now.setting.now.goals.items k
    c.goal-item.result c.deref-goal-items.ensures.value c.loop-goal-test.true c.goal-item.is)
    c.loop-goal.invariant there c.in_ok-found.ensures

pub loop-goal-preserved : goal.loop-goal-preserved
loop-goal-preserved g c =
    let says = SaysAt (g.O.TermOrder.above c.args.order.now) c.args.at.now in
    let k = c.loop-goal.goal-index in
    let found = c.in_ok-found.found in
    let there : is_some found ≡ false = cc (c.is_some.ensures, c.if-is_some.false) in
    passed_at (Gives says) c.args.at.now.setting.now.goals.items
    (lemma_uses_by c.args.at.now) k c.goal-item.result found
    (item_at c.deref-goal-items.result.now c.args.at.now.setting.now.goals.items k
    c.goal-item.result c.deref-goal-items.ensures.value c.loop-goal-test.true c.goal-item.is)
    c.loop-goal.invariant there c.in_ok-found.ensures

pub returns : goal.returns
returns g c =
    let says = SaysAt (g.O.TermOrder.above c.args.order.now) c.args.at.now in
    let k = c.loop-goal.goal-index in
    none_found (Gives says) c.args.at.now.setting.now.goals.items (lemma_uses_by c.args.at.now) k
    (past_all c.deref-goal-items.result.now c.args.at.now.setting.now.goals.items k
    c.deref-goal-items.ensures.value c.loop-goal-test.false) c.loop-goal.invariant

pub first_rewriting-requires-clause-referred : goal.first_rewriting-requires-clause-referred
first_rewriting-requires-clause-referred g c =
    let m = c.goal-item.result in
    let listed =
    lemma_listed c.args.at.now.setting.now c.requires.at.setting c.loop-goal.goal-index m
    (item_at c.deref-goal-items.result.now c.args.at.now.setting.now.goals.items
    c.loop-goal.goal-index m c.deref-goal-items.ensures.value
    c.loop-goal-test.true c.goal-item.is) in
    record {
      number = listed.number;
      goal = listed.goal;
      is = listed.is;
      named = sym (ap (λ (x : List ℕ × Clause). x.0) listed.made);
      clause = ap (λ (x : List ℕ × Clause). x.1) listed.made;
    }

pub first_rewriting-requires-clause-falling : goal.first_rewriting-requires-clause-falling
first_rewriting-requires-clause-falling g c =
    let goals = c.args.at.now.setting.now.goals.items in
    let k = c.loop-goal.goal-index in
    all_at (λ (m : LemmaGoal). AreLemmaSides (g.O.TermOrder.above c.args.order.now) m.clause m.sides)
    goals c.requires.sides.lemmas k c.goal-item.result
    (item_at c.deref-goal-items.result.now goals k c.goal-item.result
    c.deref-goal-items.ensures.value c.loop-goal-test.true c.goal-item.is)
