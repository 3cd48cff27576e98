use Rattle.cond_rewrite.proofs.Answered.{at_none, at_some, if_none_is, if_some_is}
use Rattle.cond_rewrite.proofs.FoundRules.{case_misfit, case_limit, case_made}
use Rattle.cond_rewrite.proofs.cases.case_rewrite.Goals as goal

pub returns-in_default-2-clause-refused : goal.returns-in_default-2-clause-refused
returns-in_default-2-clause-refused c =
    case_misfit c.args.spec.now c.requires.fine c.args.clause.now c.args.place.now c.args.rule
    c.in-Some.term.now c.in-Some.ensures c.in-Some-rule_at.by_rule.now c.in-Some-rule_at.ensures
    (if_none_is c.in_ok-theta.field-0 _ c.in_default-2.is c.in_ok-theta.ensures.none)

pub returns-in_default-3-clause-refused : goal.returns-in_default-3-clause-refused
returns-in_default-3-clause-refused c =
    case_limit c.args.spec.now c.requires.fine c.args.clause.now c.args.place.now c.args.rule c.in-Some.term.now
    c.in-Some.ensures c.in-Some-rule_at.by_rule.now c.in-Some-rule_at.ensures
    c.in-Some-2.theta.terms (if_some_is c.in_ok-theta.field-0 _ c.in-Some-2.theta c.in-Some-2.is
    c.in_ok-theta.ensures.matching).0 c.as_slice-rules.result.now c.as_slice-rules.ensures
    (at_none c.in_ok-cases.field-0 _ _ c.in_default-3.is (c.in_ok-cases.ensures c.in-Some.ensures.0))

pub returns-clause-made : goal.returns-clause-made
returns-clause-made c =
    let made = at_some c.in_ok-cases.field-0 _ _ c.in-Some-3.cases c.in-Some-3.is
    (c.in_ok-cases.ensures c.in-Some.ensures.0) in
    case_made c.args.spec.now c.requires.fine c.args.clause.now c.args.place.now c.args.rule c.in-Some.term.now
    c.in-Some.ensures c.in-Some-rule_at.by_rule.now c.in-Some-rule_at.ensures
    c.in-Some-2.theta.terms (if_some_is c.in_ok-theta.field-0 _ c.in-Some-2.theta c.in-Some-2.is
    c.in_ok-theta.ensures.matching).0 c.as_slice-rules.result.now c.as_slice-rules.ensures
    c.in-Some-3.cases.items made.0 made.1
