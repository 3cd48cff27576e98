use Rattle.std.proofs.Common.{inl, inr, subst, arith}
use Rattle.std.specs.List.{AllByRecursion}
use Rattle.coverage_check.specs.Decisions.{BeginsOtherwise, IsOf}
use Rattle.coverage_check.proofs.Deciding.{declared_sort}
use Rattle.coverage_check.proofs.decision.unused.Goals as goal
use Rattle.coverage_check.proofs.decision.unused.Goals.{else-info-sort-via-then-info-sort+else-begin_otherwise}
use Rattle.coverage_check.proofs.decision.unused.Goals.{else-info-sort-via-else-info-sort}
use Rattle.term_core.proofs.Numbers.{below_or_last}

pub loop-number-preserved : goal.loop-number-preserved
loop-number-preserved c = λ d h of free.
    elim (below_or_last d c.loop-number.number h) [
      | inl b ↦ c.loop-number.invariant d b of free
      | inr e ↦
          elim c.else-info-sort.branch [
            | else-info-sort-via-then-info-sort+else-begin_otherwise w ↦
                absurd (let q = w.if-begin_otherwise.ensures.1
                (subst (λ k. AllByRecursion (BeginsOtherwise k) c.args.rows.now) e free) in cc)
            | else-info-sort-via-else-info-sort w ↦
                absurd (w.if-info-sort.false
                (declared_sort c.args.sig.now c.loop-number.number c.info.result.now c.args.sort
                c.info.ensures (subst (λ k. IsOf c.args.sig.now c.args.sort k) e of)))
          ]
    ]

pub returns : goal.returns
returns c = λ d of free. c.loop-number.invariant d
    (omega (arith, of.0, c.constructors-number-end.ensures.count)) of free
