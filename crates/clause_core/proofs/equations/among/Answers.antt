use Rattle.std.proofs.Common.{refl, ◌≡◌, true, false}
use Rattle.clause_core.proofs.AmongEquations.{among_here, among_later, among_none}
use Rattle.clause_core.proofs.equations.among.Goals as goal

pub returns-then-is_either : goal.returns-then-is_either
returns-then-is_either c = (
  λ y. among_here c.args.equation.now c.args.equations.now c.loop-other.other-index c.other-item.result
      c.loop-other-test.true c.other-item.is (c.if-is_either.ensures.0 y),
  λ a. refl,
)

pub loop-other-preserved : goal.loop-other-preserved
loop-other-preserved c =
    λ a. among_later c.args.equation.now c.args.equations.now c.loop-other.other-index c.other-item.result
    c.loop-other-test.true c.other-item.is (λ e. let q : false ≡ true = c.if-is_either.ensures.1 e in
    cc) (c.loop-other.invariant a)

pub returns : goal.returns
returns c = (
  λ y. absurd (let q : false ≡ true = y in cc),
  λ a. absurd (among_none c.args.equation.now c.args.equations.now c.loop-other.other-index
      c.loop-other-test.false (c.loop-other.invariant a)),
)
