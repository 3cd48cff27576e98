use Rattle.std.proofs.Common.{◌≡◌, ap, sym, ◌∙◌, subst, arith}
use Rattle.clause_core.specs.ClauseInstances.{clause_instance}
use Rattle.clause_core.specs.Limits.{IsWithin}
use Rattle.clause_core.specs.Tidied.{tidied}
use Rattle.clause_core.specs.Covering.{covered_by}
use Rattle.clause_core.proofs.TidiedLimits.{tidied_within}
use Rattle.test_sets.specs.Children.{sorts_in, child_by}
use Rattle.test_sets.proofs.Replacements.{covered_by_steps}
use Rattle.test_sets.proofs.children.child.Goals as goal

pub returns-then-not-instance_within : goal.returns-then-not-instance_within
returns-then-not-instance_within c =
    let sig = c.args.sig.now in
    let whole = c.args.clause.now in
    let ctx = c.push_sorts.new.sorts.items in
    let entries = c.set.new.self.terms in
    let made : clause_instance entries ctx whole ≡ covered_by whole c.args.var.0
    (sorts_in sig c.args.sort c.args.pattern.now, c.args.pattern.now) =
    covered_by_steps sig whole c.args.var.0 c.args.sort c.args.pattern.now c.as_slice-taken.result.now
    c.new-ctx.result.items c.extend_from_slice.new.self.items ctx c.len.result c.in_ok-fresh.fresh.terms
    c.new-theta.result.terms entries c.in_ok-apply.field-0
    c.requires c.as_slice-taken.ensures c.new-ctx.ensures.items c.in_ok-extend_from_slice.ensures.items
    c.in_ok-push_sorts.ensures (omega (arith, c.len.ensures)) c.in_ok-fresh.ensures c.in_ok-apply.ensures
    c.new-theta.ensures c.in_ok-set.ensures.set in
    let past = c.instance_within.ensures ctx in
    λ w. (let ok = past.1
    (subst IsWithin (sym made)
    ((tidied_within (covered_by whole c.args.var.0 (
      sorts_in sig c.args.sort c.args.pattern.now,
      c.args.pattern.now,
    ))).0 w)) in let no = c.if-not-instance_within.true in cc)

pub returns : goal.returns
returns c =
    let sig = c.args.sig.now in
    let whole = c.args.clause.now in
    let ctx = c.push_sorts.new.sorts.items in
    let entries = c.set.new.self.terms in
    let made : clause_instance entries ctx whole ≡ covered_by whole c.args.var.0
    (sorts_in sig c.args.sort c.args.pattern.now, c.args.pattern.now) =
    covered_by_steps sig whole c.args.var.0 c.args.sort c.args.pattern.now c.as_slice-taken.result.now
    c.new-ctx.result.items c.extend_from_slice.new.self.items ctx c.len.result c.in_ok-fresh.fresh.terms
    c.new-theta.result.terms entries c.in_ok-apply.field-0
    c.requires c.as_slice-taken.ensures c.new-ctx.ensures.items c.in_ok-extend_from_slice.ensures.items
    c.in_ok-push_sorts.ensures (omega (arith, c.len.ensures)) c.in_ok-fresh.ensures c.in_ok-apply.ensures
    c.new-theta.ensures c.in_ok-set.ensures.set in
    let built : c.in_ok-child.child ≡ clause_instance entries ctx whole = c.in_ok-child.ensures
    ∙ ap (λ ss. clause_instance entries ss whole) c.deref.ensures.value in
    let child : c.in_ok-tidy.field-0 ≡ child_by sig whole c.args.var.0 c.args.sort
    c.args.pattern.now = c.in_ok-tidy.ensures ∙ ap tidied (built ∙ made) in
    let small : IsWithin (clause_instance entries ctx whole) = (c.instance_within.ensures ctx).0
    (let no = c.if-not-instance_within.false in cc) in (
      child,
      subst IsWithin (sym child)
          ((tidied_within (covered_by whole c.args.var.0 (
            sorts_in sig c.args.sort c.args.pattern.now,
            c.args.pattern.now,
          ))).1 (subst IsWithin made small)),
    )
