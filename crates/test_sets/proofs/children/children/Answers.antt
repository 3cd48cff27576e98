use Rattle.std.proofs.Common.{◌≡◌, List, Option, sym, ◌∙◌, subst}
use Rattle.std.specs.Prelude.{MatchOption}
use Rattle.std.specs.List.{AllByRecursion}
use Rattle.clause_core.specs.declared.clauses.Clause.{Clause}
use Rattle.clause_core.specs.Limits.{IsWithin}
use Rattle.test_sets.specs.Children.{child_by}
use Rattle.test_sets.proofs.ChildrenOfPatterns.{mapped_next, mapped_at, all_pushed}
use Rattle.test_sets.proofs.children.children.Goals as goal

pub returns-in-None : goal.returns-in-None
returns-in-None c =
    let f = child_by c.args.sig.now c.args.clause.now c.args.var.0 c.args.sort in
    let p = c.pattern-item.result in
    let past = subst (λ (o : Option Clause). MatchOption o (IsWithin (f p) → ⊥) (λ made. (made ≡ f p)
    × IsWithin made)) c.in-None.is c.in_ok-child.ensures in
    λ all. past (mapped_at IsWithin f c.args.patterns.now c.loop-pattern.pattern-index p
    c.loop-pattern-test.true c.pattern-item.is all)

pub loop-pattern-preserved : goal.loop-pattern-preserved
loop-pattern-preserved c =
    let f = child_by c.args.sig.now c.args.clause.now c.args.var.0 c.args.sort in
    let p = c.pattern-item.result in
    let made = c.loop-pattern.made.items in
    let d = c.in-Some.child in
    let is = subst (λ (o : Option Clause). MatchOption o (IsWithin (f p) → ⊥) (λ made. (made ≡ f p)
    × IsWithin made)) c.in-Some.is c.in_ok-child.ensures in
    let pushed = c.in_ok-push-in-Some.ensures.items in (
      pushed ∙ mapped_next f c.args.patterns.now c.loop-pattern.pattern-index p d made c.loop-pattern-test.true
          c.pattern-item.is c.loop-pattern.invariant.0 is.0,
      subst (λ (ds : List Clause). AllByRecursion IsWithin ds) (sym pushed)
          (all_pushed IsWithin made d c.loop-pattern.invariant.1 is.1),
    )
