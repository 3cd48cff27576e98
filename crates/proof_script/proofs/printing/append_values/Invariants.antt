use Rattle.std.proofs.Common.{◌≡◌, ◌++◌, drop, map}
use Rattle.std.specs.List.{AllByRecursion}
use Rattle.proof_script.specs.Words.{lines_text}
use Rattle.proof_script.specs.Claims.{value_line}
use Rattle.proof_script.specs.Ranges.{LineIsInRange}
use Rattle.proof_script.proofs.printing.append_values.Given as goal

-- with the values that are left all have been appended
abbrev pub invariant-loop-name : goal.invariant-loop-name
invariant-loop-name l =
    record {
      text : l.text.items ++ lines_text l.sig (map value_line (drop l.name-index l.values)) ≡ l.fn.text.items
          ++ lines_text l.sig (map value_line l.values);
      rest : AllByRecursion (LineIsInRange l.sig) (map value_line (drop l.name-index l.values));
    }
