use Rattle.std.proofs.Common.{◌≡◌, true, false, ap, sym, ◌∙◌, subst, refl}
use Rattle.std.specs.Prelude.{is_some}
use Rattle.routine_proof.specs.Candidates.{Gives}
use Rattle.proof_search.specs.Taking.{SaysAt}
use Rattle.proof_search.proofs.Walking.{found_at, passed_at, none_found}
use Rattle.std.proofs.Common.{List, length}
use Rattle.std.proofs.lemmas.Option.{slice_get_read}
use Rattle.spec_core.specs.declared.records.Equation.{Equation}
use Rattle.fitting_lists.specs.Fitting.{Located}
use Rattle.fitting_lists.proofs.Variables.{leading_variables}
use Rattle.routine_proof.specs.Candidates.{Candidate, each}
use Rattle.routine_proof.specs.First.{IsFirst, NoneIs}
use Rattle.proof_search.specs.Leading.{IsLeading}
use Rattle.proof_search.specs.Referring.{target_of, closing_pair}
use Rattle.proof_search.proofs.FittingSteps.{by_equations, by_none}
use Rattle.proof_search.proofs.referring.first_closing.Goals as goal

pub returns-in_default : goal.returns-in_default
returns-in_default g c =
    let says = SaysAt (g.O.TermOrder.above c.args.order.now) c.args.at.now in
    let none = subst (λ o. IsLeading c.args.clause.now o) c.in_default.is c.requires.leading in
    subst (λ (cs : List Candidate). NoneIs (Gives says) cs)
    (sym (by_none c.args.at.now.here.now c.args.clause.now
    (target_of c.args.referral.now) none)) tt

pub closing_either_way-requires-clause-variables : goal.closing_either_way-requires-clause-variables
closing_either_way-requires-clause-variables g c =
    leading_variables c.args.at.now.setting.now.spec.now.sig c.args.clause.now c.requires.sorted
    (record {
      conclusion = c.in-Some.first.conclusion;
      equation = c.in-Some.first.equation.now;
    }) (subst (λ o. IsLeading c.args.clause.now o) c.in-Some.is c.requires.leading).leads

pub returns-then-is_some : goal.returns-then-is_some
returns-then-is_some g c =
    let says = SaysAt (g.O.TermOrder.above c.args.order.now) c.args.at.now in
    let k = c.loop-index.index in
    let found = c.in_ok-found.found in
    let leads : Located = record {
      conclusion = c.in-Some.first.conclusion;
      equation = c.in-Some.first.equation.now;
    } in
    let given = (subst (λ o. IsLeading c.args.clause.now o) c.in-Some.is c.requires.leading).leads in
    let same_steps = ap (λ (es : List Equation). each es
    (closing_pair (target_of c.args.referral.now) c.args.clause.now
    c.in-Some.first.equation.now)) c.equations-equations.ensures in
    let there : is_some found ≡ true = cc (c.is_some.ensures, c.if-is_some.true) in
    let first = found_at (Gives says) c.equations-equations.result.now
    (closing_pair (target_of c.args.referral.now) c.args.clause.now
    c.in-Some.first.equation.now) k c.index-equations-index.result found
    (slice_get_read c.equations-equations.result.now
    (length c.equations-equations.result.now) k c.index-equations-index.result refl
    c.loop-index-test.true c.index-equations-index.is) c.loop-index.invariant there
    c.in_ok-found.ensures in
    subst (λ (cs : List Candidate). IsFirst (Gives says) cs found)
    (same_steps ∙ sym (by_equations c.args.at.now.here.now c.args.clause.now
    (target_of c.args.referral.now) leads given)) first

pub loop-index-preserved : goal.loop-index-preserved
loop-index-preserved g c =
    let says = SaysAt (g.O.TermOrder.above c.args.order.now) c.args.at.now in
    let k = c.loop-index.index in
    let found = c.in_ok-found.found in
    let leads : Located = record {
      conclusion = c.in-Some.first.conclusion;
      equation = c.in-Some.first.equation.now;
    } in
    let there : is_some found ≡ false = cc (c.is_some.ensures, c.if-is_some.false) in
    passed_at (Gives says) c.equations-equations.result.now
    (closing_pair (target_of c.args.referral.now) c.args.clause.now
    c.in-Some.first.equation.now) k c.index-equations-index.result found
    (slice_get_read c.equations-equations.result.now
    (length c.equations-equations.result.now) k c.index-equations-index.result refl
    c.loop-index-test.true c.index-equations-index.is) c.loop-index.invariant there
    c.in_ok-found.ensures

pub returns : goal.returns
returns g c =
    let says = SaysAt (g.O.TermOrder.above c.args.order.now) c.args.at.now in
    let k = c.loop-index.index in
    let leads : Located = record {
      conclusion = c.in-Some.first.conclusion;
      equation = c.in-Some.first.equation.now;
    } in
    let given = (subst (λ o. IsLeading c.args.clause.now o) c.in-Some.is c.requires.leading).leads in
    let same_steps = ap (λ (es : List Equation). each es
    (closing_pair (target_of c.args.referral.now) c.args.clause.now
    c.in-Some.first.equation.now)) c.equations-equations.ensures in
    let all = none_found (Gives says) c.equations-equations.result.now
    (closing_pair (target_of c.args.referral.now) c.args.clause.now
    c.in-Some.first.equation.now) k c.loop-index-test.false c.loop-index.invariant in
    subst (λ (cs : List Candidate). NoneIs (Gives says) cs)
    (same_steps ∙ sym (by_equations c.args.at.now.here.now c.args.clause.now
    (target_of c.args.referral.now) leads given)) all
