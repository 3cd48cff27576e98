use Rattle.std.proofs.Common.{◌≡◌, sym, ◌∙◌, ap, subst}
use Rattle.std.specs.Prelude.{[]}
use Rattle.term_core.specs.Tree.{Tree, instance}
use Rattle.term_core.proofs.Items.{if_ok_map}
use Rattle.spec_core.specs.Sorts.{Sorted}
use Rattle.substitutions.specs.Substitution.{apply}
use Rattle.substitutions.proofs.Instances.{apply_values}
use Rattle.acceptance.specs.Accepting.{values_in}
use Rattle.ground_eval.specs.Evals.{IsEval}
use Rattle.report_pages.specs.Differences.{IsNarrow}
use Rattle.report_pages.specs.Settings.{IsReady}
use Rattle.report_pages.specs.declared.evaluating.Setting.{Setting}
use Rattle.report_pages.specs.Refutations.{SideIsEval}
use Rattle.report_pages.proofs.Differences.{eval_narrow}
use Rattle.report_pages.proofs.evaluating.side_value.Goals as goal

-- what the substitution makes is the instance under the values
is_instance : (at : Setting) → IsReady at → (side made : Tree) → made ≡ apply at.theta.now.terms side →
    made ≡ instance (values_in at.values.now) side
is_instance at ready side made is =
    is ∙ ap (λ theta. apply theta side) ready.theta ∙ apply_values (values_in at.values.now) side

pub eval-requires-clause-sorted : goal.eval-requires-clause-sorted
eval-requires-clause-sorted c =
    let at = c.args.at.now in
    let made = is_instance at c.requires.ready c.args.side.now c.in_ok-instance.instance c.in_ok-instance.ensures in
    (c.requires.sorted.0, subst (λ t. Sorted at.spec.now.sig [] t c.requires.sorted.0) (sym made) c.requires.sorted.1)

pub returns-clause-found : goal.returns-clause-found
returns-clause-found c =
    let at = c.args.at.now in
    let made = is_instance at c.requires.ready c.args.side.now c.in_ok-instance.instance c.in_ok-instance.ensures in
    if_ok_map c.eval.result (IsEval at.spec.now c.in_ok-instance.instance at.steps)
    (SideIsEval at.spec.now at.steps at.values.now c.args.side.now)
    (λ found h. subst (λ t. IsEval at.spec.now t at.steps found) made h) c.eval.ensures.found

pub returns-clause-narrow : goal.returns-clause-narrow
returns-clause-narrow c =
    let at = c.args.at.now in
    let made = is_instance at c.requires.ready c.args.side.now c.in_ok-instance.instance c.in_ok-instance.ensures in
    let sorted = subst (λ t. Sorted at.spec.now.sig [] t c.requires.sorted.0) (sym made) c.requires.sorted.1 in
    if_ok_map c.eval.result (IsEval at.spec.now c.in_ok-instance.instance at.steps) IsNarrow
    (λ found h. eval_narrow at.spec.now c.requires.ready.fine c.in_ok-instance.instance c.requires.sorted.0 sorted
    at.steps found h)
    c.eval.ensures.found
