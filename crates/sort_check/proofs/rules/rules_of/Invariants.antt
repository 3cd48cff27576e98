use Rattle.std.proofs.Common.{◌≡◌, [], length, take}
use Rattle.std.specs.List.{AllZip}
use Rattle.spec_core.specs.Findings.{Clean, each_after}
use Rattle.sort_check.specs.Parts.{AreCounts}
use Rattle.sort_check.specs.RuleTests.{rule_tests}
use Rattle.sort_check.specs.Rules.{RuleStands}
use Rattle.sort_check.proofs.rules.rules_of.Given as goal

abbrev pub invariant-loop-raw : goal.invariant-loop-raw
invariant-loop-raw l =
    record {
      long : length l.counts.items ≡ length l.sig.table;
      counts : AreCounts l.sig (take l.raw-index l.raws) l.counts.items;
      clean : Clean (each_after (rule_tests l.sig l.most) [] (take l.raw-index l.raws));
      made : AllZip (RuleStands l.sig) (take l.raw-index l.raws) l.made;
    }
