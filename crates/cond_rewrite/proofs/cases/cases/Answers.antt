use Rattle.std.proofs.Common.{◌≡◌, ◌++◌, ◌∷◌, [], List, Option, true, false, map, take, ap, sym, ◌∙◌, subst}
use Rattle.std.specs.Global.{Vec}
use Rattle.std.specs.List.{AllByRecursion}
use Rattle.std.proofs.lemmas.List.{append-nil}
use Rattle.term_core.specs.Tree.{Tree}
use Rattle.term_core.proofs.Items.{all_append}
use Rattle.term_core.specs.Same.{same_tree}
use Rattle.spec_core.specs.declared.records.Rule.{Rule}
use Rattle.clause_core.specs.declared.clauses.Clause.{Clause}
use Rattle.clause_core.specs.Limits.{IsWithin}
use Rattle.clause_core.specs.Tidied.{tidied}
use Rattle.cond_rewrite.specs.Applied.{applied_case, applied_cases}
use Rattle.cond_rewrite.proofs.Answered.{at_none, at_some}
use Rattle.cond_rewrite.proofs.SameTests.{test_is}
use Rattle.cond_rewrite.proofs.GroupChildren.{next_case, case_within}
use Rattle.cond_rewrite.proofs.cases.cases.Goals as goal
use Rattle.cond_rewrite.proofs.cases.cases.Goals.{then-same+in_ok-child+in-Some+in_ok-push, else-same}

pub returns-in_default : goal.returns-in_default
returns-in_default c p all =
    let r : Rule = c.rule-item.result in
    let same : same_tree c.args.left.now r.left ≡ true = test_is c.args.left.now r.left true c.if-same.ensures in
    at_none c.in_ok-child.field-0 _ _ c.in_default.is (c.in_ok-child.ensures p)
    (case_within p c.args.theta.now.terms c.args.left.now c.args.rules.now c.loop-rule.rule-index r
    c.loop-rule-test.true c.rule-item.is same all)

pub loop-rule-preserved : goal.loop-rule-preserved
loop-rule-preserved c p =
    let s : List (Option Tree) = c.args.theta.now.terms in
    let r : Rule = c.rule-item.result in
    let left : Tree = c.args.left.now in
    let before = c.loop-rule.invariant p in
    elim c.if-same.branch [
      | then-same+in_ok-child+in-Some+in_ok-push w ↦ (
          let child : Clause = w.in-Some.child in
          let made = at_some w.in_ok-child.field-0 _ _ child w.in-Some.is (w.in_ok-child.ensures p) in
          let same : same_tree left r.left ≡ true = test_is left r.left true w.if-same.ensures in
          let more : c.if-same.made.items ≡ c.loop-rule.made.items
          ++ child ∷ [] = ap (λ (v : Vec Clause). v.items) w.made-is ∙ w.in_ok-push.ensures.items in
          let both : c.loop-rule.made.items
          ++ child ∷ [] ≡ map tidied (applied_cases p s (take c.loop-rule.rule-index c.args.rules.now) left)
          ++ tidied (applied_case p s r) ∷ [] = λ i. before.0 i ++ made.0 i ∷ [] in (
            more ∙ both ∙ sym (next_case p s left c.args.rules.now c.loop-rule.rule-index r true
                c.loop-rule-test.true c.rule-item.is same),
            subst (λ ds. AllByRecursion IsWithin ds) (sym more)
                (all_append IsWithin c.loop-rule.made.items (child ∷ []) before.1 (made.1, tt)),
          ))
      | else-same w ↦ (
          let other : same_tree left r.left ≡ false = test_is left r.left false w.if-same.ensures in
          let kept : c.if-same.made.items ≡ c.loop-rule.made.items = ap (λ (v : Vec Clause). v.items) w.made-is in (
            kept ∙ before.0 ∙ sym
                (append-nil (map tidied (applied_cases p s (take c.loop-rule.rule-index c.args.rules.now)
                left))) ∙ sym (next_case p s left c.args.rules.now c.loop-rule.rule-index r false
                c.loop-rule-test.true c.rule-item.is other),
            subst (λ ds. AllByRecursion IsWithin ds) (sym kept) before.1,
          ))
    ]
