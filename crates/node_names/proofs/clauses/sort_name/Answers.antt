use Rattle.std.proofs.Common.{◌≡◌, ℕ, List, sym, subst}
use Rattle.term_core.proofs.Items.{if_ok_map}
use Rattle.node_names.specs.Names.{IsDerived}
use Rattle.node_names.proofs.GoalNames.{stem_derived, stem_goal}
use Rattle.node_names.proofs.NameLists.{derived_fresh}
use Rattle.node_names.proofs.clauses.sort_name.Goals as goal

pub returns-in-Some-clause-derived : goal.returns-in-Some-clause-derived
returns-in-Some-clause-derived c =
    let spec = c.args.setting.now.spec.now in
    let goal = c.args.setting.now.goal.now in
    let own = c.in-Some.own.now in
    if_ok_map c.copy.result (λ (n : List ℕ). n ≡ own) (IsDerived spec goal)
    (λ n same. subst (IsDerived spec goal) (sym same)
    (stem_derived spec goal own (stem_goal spec goal own c.in-Some.ensures.own)))
    c.copy.ensures

pub returns-clause-derived : goal.returns-clause-derived
returns-clause-derived c =
    derived_fresh c.args.setting.now.spec.now c.args.setting.now.goal.now c.fresh_name.result
    c.goal_stem-stem.result.now c.goal_stem-stem.ensures c.fresh_name.ensures.marked
