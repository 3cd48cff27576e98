use Rattle.std.proofs.Common.{length}
use Rattle.report_reader.specs.Behind.{IsBehind}
use Rattle.report_reader.specs.Stages.{between}
use Rattle.report_reader.proofs.reports.read_report.Given as goal

-- the claims so far were read
abbrev pub invariant-loop-claims : goal.invariant-loop-claims
invariant-loop-claims l = IsBehind l.sig l.fn.bytes l.lines (between (record { steps = l.steps; claims = l.claims }))

abbrev pub decreases-loop-claims : goal.decreases-loop-claims
decreases-loop-claims l = length l.lines.rest.now
