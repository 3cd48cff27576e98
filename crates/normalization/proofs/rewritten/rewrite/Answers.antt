use Rattle.std.proofs.Common.{rules, ◌≡◌, ◌∙◌}
use Rattle.term_core.proofs.Items.{if_ok_map}
use Rattle.spec_core.specs.WellSorted.{sorts_of}
use Rattle.spec_core.proofs.Determined.{occurs_within}
use Rattle.substitutions.specs.Substitution.{apply}
use Rattle.substitutions.proofs.Instances.{apply_same, images_agree}
use Rattle.normalization.proofs.rewritten.rewrite.Goals as goal

-- both make the left side the term, and so agree on the variables of the right one
pub returns : goal.returns
returns c = λ s is.
    let rule = c.args.rule.now in
    let sig = c.requires.sorted.0 in
    let sorted = c.requires.sorted.1 in
    let found = c.in-Some.theta.terms in
    let left : apply found rule.left ≡ apply s rule.left = search rules in
    let agree = apply_same rule.right found s
    (λ n o. images_agree rule.left found s left n (sorted.bound n
    (occurs_within sig (sorts_of rule.vars) rule.right sorted.sides.0 sorted.sides.2 n o))) in
    if_ok_map c.apply.result _ (λ made. made ≡ apply s rule.right) (λ made h. h ∙ agree) c.apply.ensures
