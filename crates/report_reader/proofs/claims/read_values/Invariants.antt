use Rattle.std.proofs.Common.{◌≡◌, ◌≤◌, ℕ, List, [], length}
use Rattle.clause_core.specs.declared.reports.Report.{Report}
use Rattle.report_reader.specs.Behind.{IsBehind}
use Rattle.report_reader.specs.Stages.{refuting, report_size}
use Rattle.report_reader.proofs.claims.read_values.Given as goal

-- this many values were read, after the same lines
abbrev pub invariant-loop-value : goal.invariant-loop-value
invariant-loop-value l =
    record {
      within : l.start ≤ l.lines.read;
      many : length l.values ≡ l._value;
      behind : (text : List ℕ) (report : Report) (goal : List ℕ) (index : ℕ) → l.start ≡ report_size l.sig report
          → IsBehind l.sig text l.fn.at (refuting report goal index l.count [])
          → IsBehind l.sig text l.lines (refuting report goal index l.count l.values);
    }
