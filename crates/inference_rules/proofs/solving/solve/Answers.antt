use Rattle.std.proofs.Common.{◌≡◌, ℕ, [], Err, true, false, inl, inr, refl, sym, ◌∙◌, ap, subst}
use Rattle.spec_core.specs.declared.records.Equation.{Equation}
use Rattle.substitutions.specs.Updates.{IsSetTo}
use Rattle.clause_core.specs.declared.answers.Why.TheVariants.{Limit}
use Rattle.clause_core.specs.Limits.{IsWithin}
use Rattle.clause_core.specs.ClauseInstances.{clause_instance}
use Rattle.clause_core.specs.Instances.{with_term}
use Rattle.clause_core.specs.NumberedEquations.{exchanged}
use Rattle.clause_core.specs.Solving.{Solves}
use Rattle.clause_core.proofs.OneAnswer.{forth}
use Rattle.inference_rules.specs.declared.nodes.StepError.TheVariants.{Why as because}
use Rattle.inference_rules.proofs.Solved.{past_limits, solved_at, solved_within, other_solved, child_is_exchanged}
use Rattle.inference_rules.proofs.Solved.{solve_answered}
use Rattle.inference_rules.proofs.solving.solve.Goals as goal

pub returns-in_default-solved_for : goal.returns-in_default-solved_for
returns-in_default-solved_for c =
    inl (
      c.in-Some.ensures.0,
      inr (
        λ s. c.in_default-solved_for.ensures s.variable s.term
            (forth (λ (x : Equation). Solves x.left x.right s.variable s.term) c.in-Some.ensures.1 s.solves),
        refl,
      ),
    )

pub returns-then-not-is_pattern_without : goal.returns-then-not-is_pattern_without
returns-then-not-is_pattern_without c =
    inl (
      c.in-Some.ensures.0,
      inr (
        λ s.
            let e : false ≡ true = c.if-not-is_pattern_without.ensures.1
            (other_solved c.args.spec.now.sig c.in-Some.ensures.0.equation c.in-Some.premise.now
            c.in-Some-solved_for.var.0 c.in-Some-solved_for.term.now c.in-Some.ensures.1
            c.in-Some-solved_for.ensures s) in
            cc,
        refl,
      ),
    )

pub returns-then-not-instance_within : goal.returns-then-not-instance_within
returns-then-not-instance_within c =
    let here = c.args.clause.now in
    let at = c.in-Some.ensures.0 in
    let n : ℕ = c.in-Some-solved_for.var.0 in
    let t = c.in-Some-solved_for.term.now in
    let p = c.if-not-is_pattern_without.ensures.0 refl in
    let solved = solved_at c.args.spec.now.sig at.equation c.in-Some.premise.now n t c.in-Some.ensures.1
    c.in-Some-solved_for.ensures p.0 p.1 in
    let made = child_is_exchanged c.set.new.self.terms here c.args.number at n t
    (solved_within c.args.spec.now.sig here c.requires c.args.number at n t solved.solves)
    c.new-theta.result.terms c.new-theta.ensures
    (subst (λ u. IsSetTo c.new-theta.result.terms n u c.set.new.self.terms) c.in_ok-copy.ensures
    c.in_ok-set.ensures.set) c.new.result.items c.new.ensures.items c.in_ok-rest.rest (c.in_ok-rest.ensures at) in
    solve_answered c.args.spec.now here c.args.number at solved
    (with_term here.ctx (exchanged false here at []) n t) refl (Err (because Limit))
    (past_limits here (with_term here.ctx (exchanged false here at []) n t)
    (λ w. let e : false ≡ true = (c.if-not-instance_within.ensures here.ctx).1
    (subst (λ d. IsWithin d) (sym made) w) in cc))

pub returns : goal.returns
returns c =
    let here = c.args.clause.now in
    let at = c.in-Some.ensures.0 in
    let n : ℕ = c.in-Some-solved_for.var.0 in
    let t = c.in-Some-solved_for.term.now in
    let p = c.if-not-is_pattern_without.ensures.0 refl in
    let solved = solved_at c.args.spec.now.sig at.equation c.in-Some.premise.now n t c.in-Some.ensures.1
    c.in-Some-solved_for.ensures p.0 p.1 in
    let made = child_is_exchanged c.set.new.self.terms here c.args.number at n t
    (solved_within c.args.spec.now.sig here c.requires c.args.number at n t solved.solves)
    c.new-theta.result.terms c.new-theta.ensures
    (subst (λ u. IsSetTo c.new-theta.result.terms n u c.set.new.self.terms) c.in_ok-copy.ensures
    c.in_ok-set.ensures.set) c.new.result.items c.new.ensures.items c.in_ok-rest.rest (c.in_ok-rest.ensures at) in
    solve_answered c.args.spec.now here c.args.number at solved c.in_ok-child.child (c.in_ok-child.ensures
    ∙ ap (λ ctx. clause_instance c.set.new.self.terms ctx c.in_ok-rest.rest) c.as_slice.ensures ∙ made)
    c.related_alone.result (c.related_alone.ensures here)
