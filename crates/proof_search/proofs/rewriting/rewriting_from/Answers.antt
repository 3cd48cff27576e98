use Rattle.std.proofs.Common.{◌≡◌, ℕ, length, List, [], ◌∷◌, Bool, true, false, not, cond, Option, Some, None, ap, sym}
use Rattle.std.proofs.Common.{◌∙◌, subst}
use Rattle.std.specs.Prelude.{IsTrue, ◌≤◌}
use Rattle.term_core.specs.References.{terms_of}
use Rattle.term_core.specs.Tree.{Tree, instance, tree_size}
use Rattle.spec_core.specs.declared.records.Equation.{Equation}
use Rattle.clause_core.specs.Places.{side}
use Rattle.fitting_lists.specs.Answering.{AreVariables, IsOnlyAnswer}
use Rattle.fitting_lists.specs.Found.{found_in, answer_of}
use Rattle.fitting_lists.specs.Questions.{Question}
use Rattle.routine_proof.specs.declared.moves.Move.{Move}
use Rattle.clause_core.specs.declared.answers.Children.{Children}
use Rattle.clause_core.specs.declared.steps.Step.{Step}
use Rattle.routine_proof.specs.Candidates.{Candidate, all_less, Gives}
use Rattle.routine_proof.specs.First.{IsFirst, NoneIs}
use Rattle.proof_search.specs.Falling.{FallsTo}
use Rattle.proof_search.specs.Referring.{target_of, rewriting_step, rewriting_by, falling_rewriting}
use Rattle.proof_search.specs.Taking.{SaysAt, IsTaken, IsFound, place_of, term_of}
use Rattle.term_core.proofs.Items.{if_ok_map}
use Rattle.proof_search.proofs.LessSteps.{none_rising}
use Rattle.proof_search.proofs.PermutedSteps.{variables_by_sides}
use Rattle.proof_search.proofs.TakenSteps.{none_answers, answered_found}
use Rattle.proof_search.proofs.Tests.{not_true}
use Rattle.proof_search.proofs.rewriting.rewriting_from.Goals as goal

-- does the side become the term?
abbrev asked : ℕ → Tree → Tree → Question
asked count side t = record { variables = count; patterns = side ∷ []; terms = t ∷ [] }

-- what is known of the question, by what was computed for it
only_answer :
    (count its : ℕ) (from own t term : Tree) (o found : Option (List Tree)) → count ≡ its →
    from ≡ own → t ≡ term → o ≡ found → IsOnlyAnswer (asked count from t) o →
    IsOnlyAnswer (asked its own term) found
only_answer count its from own t term o found n f u is only =
    subst
    (λ (x : ℕ × Tree × Tree × Option (List Tree)). IsOnlyAnswer (asked x.0 x.1 x.2) x.3)
    (λ i. (n i, f i, u i, is i)) only

-- the steps from a side that may fall are those from the side, and there are none from another one
kept_side :
    (says : Step → Children → Type 0) (mark : Bool) (candidate : Candidate) (found : Option Move) →
    mark ≡ true → IsFirst (Gives says) (candidate ∷ []) found →
    IsFirst (Gives says) (cond mark (candidate ∷ []) []) found
kept_side says true candidate found is first = first
kept_side says false candidate found is first = absurd (let q : false ≡ true = is in cc)

passed_side :
    (says : Step → Children → Type 0) (mark : Bool) (candidate : Candidate) → mark ≡ false →
    NoneIs (Gives says) (cond mark (candidate ∷ []) [])
passed_side says true candidate is = absurd (let q : true ≡ false = is in cc)
passed_side says false candidate is = tt

only_one : (e d : Equation) → (e ∷ []) ≡ (d ∷ []) → e ≡ d
only_one e d is = cc

-- if the test of the instances says no, the term doesn't fall
none_under :
    (above : Tree → Tree → Type 0) (told : Bool) (list by : List Tree)
    (from to own other term : Tree) →
    told ≡ false →
    (tree_size (instance by from) ≤ 4294967295 → tree_size (instance by to) ≤ 4294967295 →
    above (instance by from) (instance by to) → IsTrue told) →
    by ≡ list → from ≡ own → to ≡ other → instance list own ≡ term →
    FallsTo above term (instance list other) → ⊥
none_under above told list by from to own other term refused complete b f o is falls =
    let first : instance by from ≡ term = (λ i. instance (b i) (f i)) ∙ is in
    let second : instance by to ≡ instance list other = λ i. instance (b i) (o i) in
    let there = subst (λ (x : Tree × Tree). FallsTo above x.0 x.1)
    (λ i. (sym first i, sym second i)) falls in
    not_true told refused (complete there.old there.new there.falls)

head_same : (t u : Tree) → (t ∷ []) ≡ (u ∷ []) → t ≡ u
head_same t u e = cc

pub returns-then-not-has : goal.returns-then-not-has
returns-then-not-has g c =
    let at = c.args.at.now in
    let r = c.args.rewriting.now in
    passed_side (SaysAt (g.O.TermOrder.above c.args.order.now) at) _
    (rewriting_by (target_of r.referral.now) r.clause.now (place_of at c.args.index)
    (term_of at c.args.index) c.args.left (side c.args.left r.equation.now))
    (sym c.has.ensures ∙ c.if-not-has.true)

pub rewriting-requires : goal.rewriting-requires
rewriting-requires g c =
    let r = c.args.rewriting.now in
    let sig = c.args.at.now.setting.now.spec.now.sig in
    let able = c.requires.able in
    subst (λ (x : ℕ × Tree). AreVariables x.0 (x.1 ∷ []))
    (λ i. (sym c.len-count.ensures i, sym c.side-from.ensures i))
    (variables_by_sides (g.O.TermOrder.above c.args.order.now) r.clause.now r.sides r.equation.now
    able.alone (target_of r.referral.now) able.falling sig able.sorted c.args.left
    (sym c.has.ensures ∙ c.if-not-has.false))

pub returns-then-not-branch : goal.returns-then-not-branch
returns-then-not-branch g c =
    let at = c.args.at.now in
    let says = SaysAt (g.O.TermOrder.above c.args.order.now) at in
    let r = c.args.rewriting.now in
    let own = side c.args.left r.equation.now in
    let place = place_of at c.args.index in
    let term = term_of at c.args.index in
    let target = target_of r.referral.now in
    kept_side says _ (rewriting_by target r.clause.now place term c.args.left own) None
    (sym c.has.ensures ∙ c.if-not-has.false)
    (none_answers says (asked (length r.clause.now.ctx) own term)
    (λ list. rewriting_step target place list c.args.left) all_less
    (only_answer c.len-count.result (length r.clause.now.ctx) c.side-from.result.now own
    c.term.result.now term _ None c.len-count.ensures c.side-from.ensures c.term.ensures
    (ap (λ yes. answer_of yes c.rewriting.new.self) c.if-not-branch.true)
    c.in_ok-rewriting.ensures))

pub returns-then-not-greater_under : goal.returns-then-not-greater_under
returns-then-not-greater_under g c =
    let at = c.args.at.now in
    let above = g.O.TermOrder.above c.args.order.now in
    let says = SaysAt above at in
    let r = c.args.rewriting.now in
    let e = r.equation.now in
    let left = c.args.left in
    let own = side left e in
    let place = place_of at c.args.index in
    let term = term_of at c.args.index in
    let target = target_of r.referral.now in
    let list = found_in c.rewriting.new.self in
    let able = c.requires.able in
    let only = only_answer c.len-count.result (length r.clause.now.ctx) c.side-from.result.now own
    c.term.result.now term _ (Some list) c.len-count.ensures c.side-from.ensures c.term.ensures
    (ap (λ yes. answer_of yes c.rewriting.new.self) c.if-not-branch.false)
    c.in_ok-rewriting.ensures in
    kept_side says _ (rewriting_by target r.clause.now place term left own) None
    (sym c.has.ensures ∙ c.if-not-has.false)
    (answered_found says (asked (length r.clause.now.ctx) own term)
    (λ list. rewriting_step target place list left) all_less list None only.0 only.1
    (none_rising above c.place_decides.ensures at place list left target r.clause.now term
    c.requires.at able.referred c.requires.there.place c.requires.there.term
    (λ d alone falls.
    let same : side (not left) d ≡ side (not left) e =
    ap (λ x. side (not left) x) (only_one d e (sym alone ∙ able.alone)) in
    none_under above c.greater_under.result list (terms_of c.terms-list.result.now)
    c.side-from.result.now c.side-to.result.now own (side (not left) d) term
    c.if-not-greater_under.true c.greater_under.ensures.complete c.terms-list.ensures
    c.side-from.ensures (c.side-to.ensures ∙ sym same)
    (head_same (instance list own) term only.0.1) falls)))

pub returns : goal.returns
returns g c =
    let at = c.args.at.now in
    let above = g.O.TermOrder.above c.args.order.now in
    let says = SaysAt above at in
    let r = c.args.rewriting.now in
    let left = c.args.left in
    let own = side left r.equation.now in
    let place = place_of at c.args.index in
    let term = term_of at c.args.index in
    let target = target_of r.referral.now in
    let list = found_in c.rewriting.new.self in
    let only = only_answer c.len-count.result (length r.clause.now.ctx) c.side-from.result.now own
    c.term.result.now term _ (Some list) c.len-count.ensures c.side-from.ensures c.term.ensures
    (ap (λ yes. answer_of yes c.rewriting.new.self) c.if-not-branch.false)
    c.in_ok-rewriting.ensures in
    if_ok_map c.rewriting_by_list.result
    (IsTaken says (rewriting_step target place (terms_of c.terms-list.result.now) left) all_less)
    (IsFound above at
    (falling_rewriting target r.clause.now place term r.equation.now r.sides left))
    (λ (found : Option Move) taken.
    kept_side says _ (rewriting_by target r.clause.now place term left own) found
    (sym c.has.ensures ∙ c.if-not-has.false)
    (answered_found says (asked (length r.clause.now.ctx) own term)
    (λ list. rewriting_step target place list left) all_less list found only.0 only.1
    (subst (λ ts. IsTaken says (rewriting_step target place ts left) all_less found)
    c.terms-list.ensures taken)))
    c.rewriting_by_list.ensures
