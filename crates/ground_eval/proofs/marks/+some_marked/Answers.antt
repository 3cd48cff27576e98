use Rattle.std.proofs.Common.{◌≡◌, ◌↔◌, refl, sym, subst, false, true}
use Rattle.std.specs.Prelude.{IsTrue, List, ℕ}
use Rattle.rule_code.proofs.Ranges.{item_listed}
use Rattle.term_core.specs.Tree.{Trees, none}
use Rattle.value_bank.specs.Cells.{AreTerms}
use Rattle.ground_eval.specs.Constants.{SomeHasConstant}
use Rattle.ground_eval.proofs.Marking.{marked_more}
use Rattle.ground_eval.proofs.marks.+some_marked.Goals as goal

pub returns-in-None : goal.returns-in-None
returns-in-None t c d e cells h =
    subst (λ (ps : List ℕ). (ts : Trees) × AreTerms cells ps ts × (IsTrue false ↔ SomeHasConstant d e ts))
    (sym c.in-None.ensures) (none, tt, (λ x. (let q : false ≡ true = x in cc), λ x. absurd x))

pub returns-in_ok-others-in-Some-get : goal.returns-in_ok-others-in-Some-get
returns-in_ok-others-in-Some-get t c d e cells h =
    let r = marked_more d e cells c.args.marks.now c.in-Some.place.now c.in-Some.rest.now c.in-Some-get.mark.now
    c.in_ok-others-in-Some-get.others c.either.result h
    (item_listed c.args.marks.now c.args.marks.now c.in-Some.place.now c.in-Some-get.mark.now refl
    c.in-Some-get.ensures.lookup.3.0 c.in-Some-get.ensures.lookup.1)
    (c.in_ok-others-in-Some-get.ensures d e cells h) c.either.ensures in
    subst (λ (ps : List ℕ). (ts : Trees) × AreTerms cells ps ts
    × (IsTrue c.either.result ↔ SomeHasConstant d e ts)) (sym c.in-Some.ensures) r
