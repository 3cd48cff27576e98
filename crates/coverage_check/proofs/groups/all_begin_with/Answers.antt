use Rattle.std.proofs.Common.{refl, sym, subst}
use Rattle.std.specs.List.{AllByRecursion}
use Rattle.spec_core.specs.Groups.{BeginsWith}
use Rattle.coverage_check.specs.GuardLists.{lists_of}
use Rattle.coverage_check.proofs.GuardLists.{begin_at}
use Rattle.coverage_check.proofs.groups.all_begin_with.Goals as goal
use Rattle.term_core.proofs.Items.{drop_past}

pub loop-list-preserved : goal.loop-list-preserved
loop-list-preserved c =
    let test = c.args.test.now in
    let step = begin_at test c.args.lists.now c.loop-list.list-index c.list-item.result c.loop-list-test.true
    c.list-item.is c.loop-list.invariant in
    let begins : BeginsWith test c.list-item.result.now = subst (λ gs. BeginsWith test gs)
    (sym c.in-Some.ensures) (c.if-same.ensures.0 refl) in
    (λ a. (step.0 a).1, λ b. step.1 (begins, b))

pub returns-in_default : goal.returns-in_default
returns-in_default c =
    let test = c.args.test.now in
    let step = begin_at test c.args.lists.now c.loop-list.list-index c.list-item.result c.loop-list-test.true
    c.list-item.is c.loop-list.invariant in (
      λ h. absurd (let q = h in cc),
      λ a. c.if-same.ensures.1 (subst (λ gs. BeginsWith test gs) c.in-Some.ensures (step.0 a).0),
    )

pub returns : goal.returns
returns c = (
  λ h. c.loop-list.invariant.1 (subst (λ rs. AllByRecursion (BeginsWith c.args.test.now) (lists_of rs))
      (sym (drop_past c.args.lists.now c.loop-list.list-index c.loop-list-test.false)) tt),
  λ a. refl,
)
