use Rattle.std.proofs.Common.{◌≡◌, true, false, refl, ap, ◌∙◌, subst}
use Rattle.substitutions.specs.Substitution.{apply}
use Rattle.clause_core.specs.Limits.{IsWithin}
use Rattle.clause_core.specs.Places.{holding}
use Rattle.clause_core.specs.Tidied.{tidied}
use Rattle.cond_rewrite.proofs.Answered.{at_none, at_some, if_none_is, if_some_is}
use Rattle.cond_rewrite.proofs.FoundRules.{rule_misfit, guards_missing, rule_limit, rule_made}
use Rattle.cond_rewrite.proofs.Sizes.{held_too_large}
use Rattle.cond_rewrite.proofs.rewriting.rewrite_at.Goals as goal

pub returns-in_default-2-clause-refused : goal.returns-in_default-2-clause-refused
returns-in_default-2-clause-refused c =
    rule_misfit c.args.spec.now c.requires.fine c.args.clause.now c.args.place.now c.args.rule
    c.in-Some.term.now c.in-Some.ensures c.in-Some-rule_at.by_rule.now c.in-Some-rule_at.ensures
    (if_none_is c.in_ok-theta.field-0 _ c.in_default-2.is c.in_ok-theta.ensures.none)

pub returns-then-not-guards_are_among-clause-refused : goal.returns-then-not-guards_are_among-clause-refused
returns-then-not-guards_are_among-clause-refused c =
    guards_missing c.args.spec.now c.requires.fine c.args.clause.now c.args.place.now c.args.rule
    c.in-Some.term.now c.in-Some.ensures c.in-Some-rule_at.by_rule.now c.in-Some-rule_at.ensures
    c.in-Some-2.theta.terms (if_some_is c.in_ok-theta.field-0 _ c.in-Some-2.theta c.in-Some-2.is
    c.in_ok-theta.ensures.matching).0 c.as_slice-guards.result.now c.as_slice.result.now
    c.as_slice-guards.ensures c.as_slice.ensures
    (λ g. let q : false ≡ true = c.if-not-guards_are_among.ensures.1 g in cc)

pub returns-in_default-3-clause-refused : goal.returns-in_default-3-clause-refused
returns-in_default-3-clause-refused c =
    rule_limit c.args.spec.now c.requires.fine c.args.clause.now c.args.place.now c.args.rule c.in-Some.term.now
    c.in-Some.ensures c.in-Some-rule_at.by_rule.now c.in-Some-rule_at.ensures
    c.in-Some-2.theta.terms (if_some_is c.in_ok-theta.field-0 _ c.in-Some-2.theta c.in-Some-2.is
    c.in_ok-theta.ensures.matching).0 c.as_slice-guards.result.now c.as_slice.result.now
    c.as_slice-guards.ensures c.as_slice.ensures
    (c.if-not-guards_are_among.ensures.0 refl)
    (held_too_large c.args.clause.now c.args.place.now c.in-Some.ensures.0
    (apply c.in-Some-2.theta.terms c.in-Some-rule_at.by_rule.now.right)
    (at_none c.in_ok-made.field-0 _ _ c.in_default-3.is (c.in_ok-made.ensures c.in-Some.ensures.0)))

pub returns-in_default-4-clause-refused : goal.returns-in_default-4-clause-refused
returns-in_default-4-clause-refused c =
    let held : c.in-Some-3.made ≡ holding c.in-Some.ensures.0
    (apply c.in-Some-2.theta.terms c.in-Some-rule_at.by_rule.now.right) = at_some c.in_ok-made.field-0 _ _
    c.in-Some-3.made c.in-Some-3.is (c.in_ok-made.ensures c.in-Some.ensures.0) in
    rule_limit c.args.spec.now c.requires.fine c.args.clause.now c.args.place.now c.args.rule c.in-Some.term.now
    c.in-Some.ensures c.in-Some-rule_at.by_rule.now c.in-Some-rule_at.ensures
    c.in-Some-2.theta.terms (if_some_is c.in_ok-theta.field-0 _ c.in-Some-2.theta c.in-Some-2.is
    c.in_ok-theta.ensures.matching).0 c.as_slice-guards.result.now c.as_slice.result.now
    c.as_slice-guards.ensures c.as_slice.ensures
    (c.if-not-guards_are_among.ensures.0 refl)
    (subst (λ d. IsWithin (tidied d) →
    ⊥) held (at_none c.in_ok-child.field-0 _ _ c.in_default-4.is c.in_ok-child.ensures))

pub returns-clause-made : goal.returns-clause-made
returns-clause-made c =
    let held : c.in-Some-3.made ≡ holding c.in-Some.ensures.0
    (apply c.in-Some-2.theta.terms c.in-Some-rule_at.by_rule.now.right) = at_some c.in_ok-made.field-0 _ _
    c.in-Some-3.made c.in-Some-3.is (c.in_ok-made.ensures c.in-Some.ensures.0) in
    let child = at_some c.in_ok-child.field-0 _ _ c.in-Some-4.child c.in-Some-4.is c.in_ok-child.ensures in
    rule_made c.args.spec.now c.requires.fine c.args.clause.now c.args.place.now c.args.rule c.in-Some.term.now
    c.in-Some.ensures c.in-Some-rule_at.by_rule.now c.in-Some-rule_at.ensures
    c.in-Some-2.theta.terms (if_some_is c.in_ok-theta.field-0 _ c.in-Some-2.theta c.in-Some-2.is
    c.in_ok-theta.ensures.matching).0 c.as_slice-guards.result.now c.as_slice.result.now
    c.as_slice-guards.ensures c.as_slice.ensures
    (c.if-not-guards_are_among.ensures.0 refl) c.in-Some-4.child (child.0 ∙ ap tidied held) child.1
