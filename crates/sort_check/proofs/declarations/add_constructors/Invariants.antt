use Rattle.std.proofs.Common.{◌≡◌, ◌++◌, map, take}
use Rattle.spec_core.specs.Findings.{Clean}
use Rattle.spec_grammar.specs.declared.raw.RawNames.{RawNames}
use Rattle.sort_check.specs.DeclarationTests.{constructors_tests, constructor_of}
use Rattle.sort_check.proofs.declarations.add_constructors.Given as goal

abbrev pub invariant-loop-raw : goal.invariant-loop-raw
invariant-loop-raw l =
    record {
      clean : Clean (constructors_tests l.sorts l.fn.taken (take l.raw-index l.raws));
      made : l.made ≡ l.fn.made ++ map (constructor_of l.sorts l.sort.0) (take l.raw-index l.raws);
      taken : l.taken ≡ l.fn.taken ++ map (λ (c : RawNames). c.name) (take l.raw-index l.raws);
    }
