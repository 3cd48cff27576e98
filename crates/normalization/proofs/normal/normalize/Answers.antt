use Rattle.std.proofs.Common.{◌≡◌, subst}
use Rattle.spec_core.specs.declared.records.Spec.{Spec}
use Rattle.normalization.specs.Normals.{IsNormalizing}
use Rattle.term_core.proofs.Items.{if_ok_map}
use Rattle.normalization.proofs.normal.normalize.Goals as goal

pub returns : goal.returns
returns c =
    let e : c.in_ok-new.field-0 ≡ c.args.spec.now = c.in_ok-new.ensures in
    if_ok_map c.normalize-2.result _ _
    (λ r h. subst (λ (s : Spec). IsNormalizing s c.args.term.now c.args.budget r) e h) c.normalize-2.ensures
