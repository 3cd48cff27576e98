use Rattle.std.proofs.Common.{List, inl, inr, refl, subst}
use Rattle.term_core.specs.declared.ids.SortId.{SortId}
use Rattle.clause_core.specs.declared.clauses.Relation.TheVariants.{Same}
use Rattle.clause_core.specs.Abstracting.{generalized}
use Rattle.clause_core.specs.Generalizing.{IsGeneral}
use Rattle.inference_rules.proofs.Simplified.{one_child}
use Rattle.inference_rules.proofs.Generalized.{generalize_answered}
use Rattle.inference_rules.proofs.generalizing.generalize.Goals as goal

pub returns-then-not-stands_in : goal.returns-then-not-stands_in
returns-then-not-stands_in c =
    let general = subst (λ (ctx : List SortId). IsGeneral c.args.spec.now.sig ctx c.args.term.now
    c.in-Some.sort) c.as_slice.ensures c.in-Some.ensures in
    inl (
      (c.in-Some.sort, general),
      inr (λ h. (let yes = c.stands_in.ensures.1 h in let no = c.if-not-stands_in.true in cc), refl),
    )

pub returns : goal.returns
returns c =
    let here = c.args.here.now in
    let s = c.in-Some.sort in
    let general = subst (λ (ctx : List SortId). IsGeneral c.args.spec.now.sig ctx c.args.term.now s)
    c.as_slice.ensures c.in-Some.ensures in
    generalize_answered c.args.spec.now here c.args.term.now s general
    (c.stands_in.ensures.0 (let no = c.if-not-stands_in.false in cc)) c.related_alone.result
    (one_child here Same c.in_ok-child.child (generalized here c.args.term.now s) c.related_alone.result
    c.in_ok-child.ensures (c.related_alone.ensures here))
