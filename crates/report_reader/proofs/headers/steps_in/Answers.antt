use Rattle.std.proofs.Common.{[], codes, arith}
use Rattle.report_reader.proofs.NumberReads.{one_number}
use Rattle.report_reader.proofs.headers.steps_in.Goals as goal
use Rattle.report_reader.proofs.headers.steps_in.Goals.{then-steps-eq0-via-then-steps-eq0}
use Rattle.report_reader.proofs.headers.steps_in.Goals.{then-steps-eq0-via-else-steps-eq0+then-steps-gt-MAX_STEPS}

pub returns-then-steps-eq0 : goal.returns-then-steps-eq0
returns-then-steps-eq0 c =
    λ n k.
    let same = (one_number (codes "steps") c.args.line.now c.in_ok-steps.steps [] n [] c.in_ok-steps.ensures k.is).0 in
    elim c.then-steps-eq0.branch [
      | then-steps-eq0-via-then-steps-eq0 w ↦ omega (arith, same, k.range.0)
      | then-steps-eq0-via-else-steps-eq0+then-steps-gt-MAX_STEPS w ↦ omega (arith, same, k.range.1)
    ]
