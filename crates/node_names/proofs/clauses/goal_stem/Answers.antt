use Rattle.std.proofs.Common.{ℕ, List, subst, sym}
use Rattle.std.specs.Prelude.{Contains}
use Rattle.node_names.specs.Names.{stems_of}
use Rattle.node_names.proofs.GoalNames.{stem_goal}
use Rattle.node_names.proofs.clauses.goal_stem.Goals as goal

pub returns-in-Some : goal.returns-in-Some
returns-in-Some c =
    let spec = c.args.setting.now.spec.now in
    let goal = c.args.setting.now.goal.now in
    subst (λ (n : List ℕ). Contains (stems_of spec goal) n) (sym c.as_bytes.ensures)
    (stem_goal spec goal c.in-Some.name.now c.in-Some.ensures)
