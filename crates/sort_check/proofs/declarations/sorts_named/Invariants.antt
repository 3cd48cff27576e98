use Rattle.std.proofs.Common.{◌≡◌, map, take}
use Rattle.spec_core.specs.Findings.{Clean, each}
use Rattle.sort_check.specs.DeclarationTests.{sort_test, sort_number}
use Rattle.sort_check.proofs.declarations.sorts_named.Given as goal

abbrev pub invariant-loop-raw : goal.invariant-loop-raw
invariant-loop-raw l =
    record {
      clean : Clean (each (sort_test l.sorts) (take l.raw-index l.raws));
      made : l.found ≡ map (sort_number l.sorts) (take l.raw-index l.raws);
    }
