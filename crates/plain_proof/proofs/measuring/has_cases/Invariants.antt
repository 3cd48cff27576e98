use Rattle.std.proofs.Common.{◌-◌, ◌≤◌, take}
use Rattle.spec_core.specs.Order.{constructors_of}
use Rattle.plain_proof.specs.PlainProofs.{CasesClose}
use Rattle.plain_proof.proofs.measuring.has_cases.Given as goal

abbrev pub invariant-loop-sym : goal.invariant-loop-sym
invariant-loop-sym l =
    (l.left ≤ l.fn.most)
    × CasesClose l.split.spec.now l.split.ctx.now l.split.equation.now l.split.var.0 (take l.sym-index (constructors_of l.split.spec.now.sig l.fn.sort))
    (l.fn.most - l.left)
