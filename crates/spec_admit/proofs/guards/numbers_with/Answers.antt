use Rattle.std.proofs.Common.{◌≡◌, ◌∙◌, ◌+◌, ◌++◌, Some, Vec, Global, ℕ, ap, refl, true, false, suc, drop, sym, subst}
use Rattle.std.specs.Prelude.{slice_get}
use Rattle.std.proofs.lemmas.Option.{slice_get_read}
use Rattle.coverage_check.specs.GroupTree.{rules_with}
use Rattle.spec_admit.proofs.GroupNumbers.{numbers_from, one_more, no_more, all_numbers}
use Rattle.spec_admit.proofs.guards.numbers_with.Goals as goal
use Rattle.spec_admit.proofs.guards.numbers_with.Goals.{then-same+in_ok-push, else-same}

pub loop-place-preserved : goal.loop-place-preserved
loop-place-preserved c =
    let rules = c.args.rules.now in
    let left = c.args.left.now in
    let n = c.loop-place.place in
    let rule = c.index-rules-place.result in
    let old = c.loop-place.made.items in
    let at : slice_get rules n ≡ Some rule = slice_get_read rules _ n rule refl c.loop-place-test.true
    c.index-rules-place.is in
    elim c.if-same.branch as (λ x. c.if-same.made.items
    ++ numbers_from left (suc (n + 1)) (drop (n + 1) rules) ≡ rules_with left rules) [
      | then-same+in_ok-push w ↦ one_more left rules n rule at old c.if-same.made.items
          (ap (λ (v : Vec ℕ Global). v.items) w.made-is ∙ w.in_ok-push.ensures.items)
          (c.same.ensures.0 w.if-same.true) c.loop-place.invariant
      | else-same w ↦ subst (λ (made : Vec ℕ Global). made.items
          ++ numbers_from left (suc (n + 1)) (drop (n + 1) rules) ≡ rules_with left rules) (sym w.made-is)
          (no_more left rules n rule at old (λ e. let q : false ≡ true = sym w.if-same.false
          ∙ c.same.ensures.1 e in cc) c.loop-place.invariant)
    ]

pub returns : goal.returns
returns c = all_numbers c.args.left.now c.args.rules.now c.loop-place.place c.loop-place.made.items
    c.loop-place-test.false c.loop-place.invariant
