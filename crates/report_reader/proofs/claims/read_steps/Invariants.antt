use Rattle.std.proofs.Common.{◌≡◌, ◌≤◌, ℕ, List, [], length}
use Rattle.clause_core.specs.declared.reports.Report.{Report}
use Rattle.report_reader.specs.Behind.{IsBehind}
use Rattle.report_reader.specs.Stages.{proving, report_size}
use Rattle.report_reader.proofs.claims.read_steps.Given as goal

-- this many steps were read, after the same lines
abbrev pub invariant-loop-node : goal.invariant-loop-node
invariant-loop-node l =
    record {
      within : l.start ≤ l.lines.read;
      many : length l.steps ≡ l._node;
      behind : (text : List ℕ) (report : Report) (goal : List ℕ) → l.start ≡ report_size l.sig report
          → IsBehind l.sig text l.fn.at (proving report goal l.nodes [])
          → IsBehind l.sig text l.lines (proving report goal l.nodes l.steps);
    }
