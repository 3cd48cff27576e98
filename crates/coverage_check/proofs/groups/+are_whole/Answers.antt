use Rattle.std.proofs.Common.{◌≡◌, true, false, refl, ap, subst, sym, ◌∙◌, arith}
use Rattle.coverage_check.specs.GuardLists.{lists_of, rests_wanting, AreWhole}
use Rattle.coverage_check.proofs.Walks.{empty_test}
use Rattle.coverage_check.proofs.GuardLists.{none_not_whole, empty_case, split_case, falls_case, iff_along}
use Rattle.coverage_check.proofs.groups.+are_whole.Goals as goal

pub returns-then-not-all_begin_with : goal.returns-then-not-all_begin_with
returns-then-not-all_begin_with t c =
    let split = split_case c.args.lists.now c.in-Some.list.now c.in-Some.others.now c.in-Some-front.guard.now
    c.in-Some-front.field-0-1.now c.in-Some.ensures c.in-Some-front.ensures in
    (λ h. absurd (let q = h in cc), λ w. c.if-not-all_begin_with.ensures.1 (split.1 w).0)

pub are_whole-requires : goal.are_whole-requires
are_whole-requires t c =
    let made : lists_of c.deref.result.now ≡ rests_wanting true (lists_of c.args.lists.now) = ap
    (λ rs. lists_of rs) c.deref.ensures.value ∙ c.in_ok-wanting_true-in-Some-front.ensures in
    let falls = falls_case c.args.lists.now c.in-Some.list.now c.in-Some.others.now c.in-Some-front.guard.now
    c.in-Some-front.field-0-1.now c.in-Some.ensures c.in-Some-front.ensures true c.deref.result.now made in
    (omega arith, tt)

pub returns-then-not-branch : goal.returns-then-not-branch
returns-then-not-branch t c =
    let made : lists_of c.deref.result.now ≡ rests_wanting true (lists_of c.args.lists.now) = ap
    (λ rs. lists_of rs) c.deref.ensures.value ∙ c.in_ok-wanting_true-in-Some-front.ensures in
    let split = split_case c.args.lists.now c.in-Some.list.now c.in-Some.others.now c.in-Some-front.guard.now
    c.in-Some-front.field-0-1.now c.in-Some.ensures c.in-Some-front.ensures in (
      λ h. absurd (let q = h in cc),
      λ w. let q = c.in_ok-are_whole-in-Some-front.ensures.1
          (subst (λ ls. AreWhole ls) (sym made) (split.1 w).1) in cc,
    )

pub are_whole-requires-in-Some-front : goal.are_whole-requires-in-Some-front
are_whole-requires-in-Some-front t c =
    let made : lists_of c.deref-in-Some-front.result.now ≡ rests_wanting false (lists_of c.args.lists.now) = ap
    (λ rs. lists_of rs) c.deref-in-Some-front.ensures.value ∙ c.in_ok-wanting_false-in-Some-front.ensures in
    let falls = falls_case c.args.lists.now c.in-Some.list.now c.in-Some.others.now c.in-Some-front.guard.now
    c.in-Some-front.field-0-1.now c.in-Some.ensures c.in-Some-front.ensures false
    c.deref-in-Some-front.result.now made in
    (omega arith, tt)

pub returns-in-None : goal.returns-in-None
returns-in-None t c = (
  λ h. absurd (let q = h in cc),
  λ w. absurd (none_not_whole (subst (λ rs. AreWhole (lists_of rs)) c.in-None.ensures w)),
)

pub returns-in-None-front : goal.returns-in-None-front
returns-in-None-front t c =
    let by = empty_case c.args.lists.now c.in-Some.list.now c.in-Some.others.now c.in-Some.ensures
    c.in-None-front.ensures in
    let test = empty_test c.in-Some.others.now c.is_empty.result c.is_empty.ensures in
    (λ h. by.0 (test.0 h), λ w. test.1 (by.1 w))

pub returns-in_ok-wanting_false-in-Some-front : goal.returns-in_ok-wanting_false-in-Some-front
returns-in_ok-wanting_false-in-Some-front t c =
    let yes : lists_of c.deref.result.now ≡ rests_wanting true (lists_of c.args.lists.now) = ap
    (λ rs. lists_of rs) c.deref.ensures.value ∙ c.in_ok-wanting_true-in-Some-front.ensures in
    let no : lists_of c.deref-in-Some-front.result.now ≡ rests_wanting false (lists_of c.args.lists.now) = ap
    (λ rs. lists_of rs) c.deref-in-Some-front.ensures.value ∙ c.in_ok-wanting_false-in-Some-front.ensures in
    let split = split_case c.args.lists.now c.in-Some.list.now c.in-Some.others.now c.in-Some-front.guard.now
    c.in-Some-front.field-0-1.now c.in-Some.ensures c.in-Some-front.ensures in
    iff_along c.are_whole-in-Some-front.result _ _
    (λ w. split.0 (
      c.if-not-all_begin_with.ensures.0 refl,
      subst (λ ls. AreWhole ls) yes (c.in_ok-are_whole-in-Some-front.ensures.0 c.if-not-branch.false),
      subst (λ ls. AreWhole ls) no w,
    ))
    (λ w. subst (λ ls. AreWhole ls) (sym no) (split.1 w).2)
    c.are_whole-in-Some-front.ensures
