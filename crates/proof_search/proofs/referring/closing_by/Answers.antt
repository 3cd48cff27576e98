use Rattle.std.proofs.Common.{◌≡◌, ℕ, length, List, [], ◌∷◌, Option, Some, None, ap, ◌∙◌, subst}
use Rattle.term_core.specs.Tree.{Tree}
use Rattle.clause_core.specs.declared.steps.Step.{Step}
use Rattle.fitting_lists.specs.Answering.{IsOnlyAnswer}
use Rattle.fitting_lists.specs.Fitting.{both_sides}
use Rattle.fitting_lists.specs.Found.{found_in, answer_of}
use Rattle.fitting_lists.specs.Questions.{Question}
use Rattle.routine_proof.specs.declared.moves.Move.{Move}
use Rattle.routine_proof.specs.Candidates.{Asks}
use Rattle.term_core.proofs.Items.{if_ok_map}
use Rattle.proof_search.specs.Referring.{target_of, closing_step, closing_asks, closing}
use Rattle.proof_search.specs.Taking.{SaysAt, IsTaken, IsFound, asks_of}
use Rattle.proof_search.proofs.TakenSteps.{none_answers, answered_found}
use Rattle.proof_search.proofs.Tests.{not_is}
use Rattle.proof_search.proofs.UnfitSpines.{no_list}
use Rattle.proof_search.proofs.referring.closing_by.Goals as goal

-- do these terms make the patterns those?
abbrev asked : ℕ → List Tree → List Tree → Question
asked count patterns terms = record { variables = count; patterns = patterns; terms = terms }

-- what is known of the question, by the number of variables that was counted
only_answer :
    (count its : ℕ) (patterns terms : List Tree) (o found : Option (List Tree)) → count ≡ its →
    o ≡ found → IsOnlyAnswer (asked count patterns terms) o →
    IsOnlyAnswer (asked its patterns terms) found
only_answer count its patterns terms o found n is only =
    subst (λ (x : ℕ × Option (List Tree)). IsOnlyAnswer (asked x.0 patterns terms) x.1)
    (λ i. (n i, is i)) only

pub returns-then-not-may_become : goal.returns-then-not-may_become
returns-then-not-may_become g c =
    let by = c.args.by.now in
    let target = target_of by.referral.now in
    let e = by.equation.now in
    let left = c.args.sides.now.left.now in
    let right = c.args.sides.now.right.now in
    none_answers (SaysAt (g.O.TermOrder.above c.args.order.now) c.args.at.now)
    (asked (length by.clause.now.ctx) (both_sides e) (left ∷ right ∷ [])) (closing_step target)
    (closing_asks target)
    (no_list c.spines_may_become.ensures (length by.clause.now.ctx) e left right by.spines
    c.args.sides.now.spines c.requires.spines c.requires.own
    (not_is c.may_become.result _ c.if-not-may_become.true c.may_become.ensures))

pub returns-then-not-branch : goal.returns-then-not-branch
returns-then-not-branch g c =
    let by = c.args.by.now in
    let target = target_of by.referral.now in
    let patterns = both_sides by.equation.now in
    let terms = c.args.sides.now.left.now ∷ c.args.sides.now.right.now ∷ [] in
    none_answers (SaysAt (g.O.TermOrder.above c.args.order.now) c.args.at.now)
    (asked (length by.clause.now.ctx) patterns terms) (closing_step target) (closing_asks target)
    (only_answer c.len-count.result (length by.clause.now.ctx) patterns terms _ None
    c.len-count.ensures (ap (λ yes. answer_of yes c.fitting.new.self) c.if-not-branch.true)
    c.in_ok-fitting.ensures)

pub returns : goal.returns
returns g c =
    let at = c.args.at.now in
    let above = g.O.TermOrder.above c.args.order.now in
    let says = SaysAt above at in
    let by = c.args.by.now in
    let target = target_of by.referral.now in
    let patterns = both_sides by.equation.now in
    let terms = c.args.sides.now.left.now ∷ c.args.sides.now.right.now ∷ [] in
    let list = found_in c.fitting.new.self in
    let only =
    only_answer c.len-count.result (length by.clause.now.ctx) patterns terms _ (Some list)
    c.len-count.ensures (ap (λ yes. answer_of yes c.fitting.new.self) c.if-not-branch.false)
    c.in_ok-fitting.ensures in
    let step : c.in_ok-step.step ≡ closing_step target list =
    c.in_ok-step.ensures
    ∙ ap (λ (ts : List Tree). closing_step target ts) (c.in_ok-terms.ensures ∙ c.terms.ensures) in
    if_ok_map c.taken.result (IsTaken says c.in_ok-step.step (asks_of c.closing_asks.result))
    (IsFound above at
    (closing target by.clause.now by.equation.now c.args.sides.now.left.now c.args.sides.now.right.now ∷ []))
    (λ (found : Option Move) taken.
    answered_found says (asked (length by.clause.now.ctx) patterns terms) (closing_step target)
    (closing_asks target) list found only.0 only.1
    (subst (λ (p : Step × Asks). IsTaken says p.0 p.1 found)
    (λ i. (step i, c.closing_asks.ensures i)) taken))
    c.taken.ensures
