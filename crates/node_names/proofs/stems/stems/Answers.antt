use Rattle.std.proofs.Common.{◌≡◌, List, Some, length, refl, subst, sym}
use Rattle.std.specs.Prelude.{All, Contains, slice_get}
use Rattle.std.proofs.lemmas.Option.{slice_get_read}
use Rattle.spec_core.specs.declared.records.Rule.{Rule}
use Rattle.spec_core.specs.declared.records.VarInfo.{VarInfo}
use Rattle.spec_core.specs.TermText.{variable_names}
use Rattle.node_names.specs.Names.{stems_of}
use Rattle.node_names.proofs.GoalNames.{stem_other, stems_goal, stems_rule}
use Rattle.node_names.proofs.stems.stems.Goals as goal

pub loop-rule-init : goal.loop-rule-init
loop-rule-init c =
    c.in_ok-made.ensures (stems_of c.args.spec.now c.args.goal.now)
    (stem_other c.args.spec.now c.args.goal.now)

pub loop-rule-preserved : goal.loop-rule-preserved
loop-rule-preserved c =
    let spec = c.args.spec.now in
    let stems = stems_of spec c.args.goal.now in
    let rules = c.as_slice-rule-items.result.now in
    let i = c.loop-rule.rule-index in
    let rule = c.rule-item.result in
    let at : slice_get rules i ≡ Some rule =
    slice_get_read rules (length rules) i rule refl c.loop-rule-test.true c.rule-item.is in
    let all : All (Contains stems) (variable_names rule.vars) =
    stems_rule spec c.args.goal.now i rule
    (subst (λ (rs : List Rule). slice_get rs i ≡ Some rule) c.as_slice-rule-items.ensures at) in
    c.in_ok-name_sorts.ensures stems c.loop-rule.invariant
    (subst (λ (vs : List VarInfo). All (Contains stems) (variable_names vs)) (sym c.as_slice.ensures) all)

pub returns : goal.returns
returns c =
    let stems = stems_of c.args.spec.now c.args.goal.now in
    c.in_ok-name_sorts-2.ensures stems c.loop-rule.invariant
    (subst (λ (vs : List VarInfo). All (Contains stems) (variable_names vs)) (sym c.as_slice-2.ensures)
    (stems_goal c.args.spec.now c.args.goal.now))
