use Rattle.std.proofs.Common.{◌≡◌, map}
use Rattle.std.specs.Borrow.{Bor}
use Rattle.term_core.specs.Tree.{Tree}
use Rattle.spec_core.specs.declared.records.Equation.{Equation}
use Rattle.inference_rules.proofs.simplifying.equated.Given as goal

abbrev pub invariant-loop-left : goal.invariant-loop-left
invariant-loop-left l = l.made.items ≡ map {A = Bor Tree × Bor Tree} {B = Equation}
    (λ p. record { left = p.0.now; right = p.1.now }) l.yielded
