use Rattle.std.proofs.Common.{◌≡◌, take}
use Rattle.std.specs.List.{AllZip}
use Rattle.spec_core.specs.Findings.{Clean, each}
use Rattle.sort_check.specs.Over.{IsGuardOver}
use Rattle.sort_check.specs.RuleTests.{guard_tests}
use Rattle.sort_check.proofs.walk.Walk.guards.Given as goal

abbrev pub invariant-loop-raw : goal.invariant-loop-raw
invariant-loop-raw l =
    record {
      same : l.entries.items ≡ l.fn.entries.items;
      clean : Clean (each (guard_tests l.self.sig.now l.fn.entries.items) (take l.raw-index l.raws));
      made : AllZip (IsGuardOver l.self.sig.now l.fn.entries.items) (take l.raw-index l.raws) l.made;
    }
