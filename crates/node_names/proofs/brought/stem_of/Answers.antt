use Rattle.std.proofs.Common.{ℕ, List, subst, sym}
use Rattle.std.specs.Prelude.{All, Contains}
use Rattle.std.proofs.lemmas.List.Elements.{All-contains}
use Rattle.node_names.specs.Names.{stems_of}
use Rattle.node_names.proofs.GoalNames.{stem_other}
use Rattle.node_names.proofs.brought.stem_of.Goals as goal

pub returns-in-Some : goal.returns-in-Some
returns-in-Some c =
    let stems = stems_of c.args.setting.now.spec.now c.args.setting.now.goal.now in
    let all : All (Contains stems) c.deref.result.now =
    subst (λ (ns : List (List ℕ)). All (Contains stems) ns) (sym c.deref.ensures.value) c.requires in
    let there : Contains c.deref.result.now c.in-Some.stem.now = c.in-Some.ensures in
    subst (λ (n : List ℕ). Contains stems n) (sym c.as_bytes.ensures)
    (All-contains (Contains stems) c.deref.result.now c.in-Some.stem.now all there)

pub returns-in-None : goal.returns-in-None
returns-in-None c =
    let stems = stems_of c.args.setting.now.spec.now c.args.setting.now.goal.now in
    subst (λ (n : List ℕ). Contains stems n) (sym c.other_stem.ensures)
    (stem_other c.args.setting.now.spec.now c.args.setting.now.goal.now)
