use Rattle.std.proofs.Common.{◌≡◌, ◌<◌, ◌++◌, List, map, ap, ◌∙◌, subst}
use Rattle.term_core.proofs.Items.{if_ok_map}
use Rattle.spec_core.specs.declared.records.Guard.{Guard}
use Rattle.substitutions.specs.Substitution.{apply}
use Rattle.clause_core.specs.declared.clauses.Clause.{Clause}
use Rattle.clause_core.specs.Places.{TermAt, holding}
use Rattle.clause_core.specs.Tidied.{IsTidiedWithin}
use Rattle.cond_rewrite.specs.Applied.{applied_guard, applied_case}
use Rattle.cond_rewrite.proofs.Answered.{at_none, at_some}
use Rattle.cond_rewrite.proofs.Sizes.{size_of, split_too_large, premises_too_large}
use Rattle.cond_rewrite.proofs.children.case_child.Goals as goal

pub returns-in_default : goal.returns-in_default
returns-in_default c p =
    let s = c.args.theta.now.terms in
    split_too_large c.args.clause.now c.args.place.now p (apply s c.args.rule.now.right)
    (map (applied_guard s) c.args.rule.now.guards)
    (at_none c.in_ok-made.field-0 _ _ c.in_default.is (c.in_ok-made.ensures p))

pub returns-in_default-2 : goal.returns-in_default-2
returns-in_default-2 c p =
    let s = c.args.theta.now.terms in
    premises_too_large (holding p (apply s c.args.rule.now.right)) (map (applied_guard s) c.args.rule.now.guards)
    (subst (λ (gs : List Guard). 4000 < size_of (map (applied_guard s) gs)) c.as_slice.ensures
    (at_none c.in_ok-guards.field-0 _ _ c.in_default-2.is c.in_ok-guards.ensures))

pub returns : goal.returns
returns c =
    let s = c.args.theta.now.terms in
    let made : Clause = c.in-Some.made in
    let split : Clause = record {
      ctx = made.ctx;
      premises = c.in_ok-premises.premises;
      conclusions = made.conclusions;
    } in
    let is : (p : TermAt c.args.clause.now c.args.place.now) → split ≡ applied_case p s c.args.rule.now = λ p.
    let held : made ≡ holding p (apply s c.args.rule.now.right) = at_some c.in_ok-made.field-0 _ _ made
    c.in-Some.is (c.in_ok-made.ensures p) in
    let guards : c.in-Some-2.guards ≡ map (applied_guard s) c.args.rule.now.guards =
    at_some c.in_ok-guards.field-0 _ _ c.in-Some-2.guards c.in-Some-2.is c.in_ok-guards.ensures
    ∙ ap (λ (gs : List Guard). map (applied_guard s) gs) c.as_slice.ensures in
    let premises : c.in_ok-premises.premises ≡ made.premises ++ map (applied_guard s) c.args.rule.now.guards =
    c.in_ok-premises.ensures ∙ ap (λ es. made.premises ++ es) guards in
    (λ i. record { ctx = made.ctx; premises = premises i; conclusions = made.conclusions })
    ∙ (λ i. record {
      ctx = (held i).ctx;
      premises = (held i).premises
          ++ map (applied_guard s) c.args.rule.now.guards;
      conclusions = (held i).conclusions;
    }) in
    if_ok_map c.tidied_within.result (λ answer. IsTidiedWithin split answer)
    (λ answer. (p : TermAt c.args.clause.now c.args.place.now) →
    IsTidiedWithin (applied_case p s c.args.rule.now) answer)
    (λ answer h p. subst (λ d. IsTidiedWithin d answer) (is p) h) c.tidied_within.ensures
