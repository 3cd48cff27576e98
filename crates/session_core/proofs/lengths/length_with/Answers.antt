use Rattle.std.proofs.Common.{arith}
use Rattle.session_core.proofs.StepLengths.{steps_longer}
use Rattle.session_core.proofs.lengths.length_with.Goals as goal

pub returns : goal.returns
returns c = λ steps e. omega (
  arith,
  c.length_so_far-before.ensures c.args.sig.now steps e,
  c.in_ok-line.ensures,
  steps_longer c.args.sig.now steps c.args.step.now,
  c.in-Some.ensures,
)
