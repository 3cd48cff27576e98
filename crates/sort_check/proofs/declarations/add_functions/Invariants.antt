use Rattle.std.proofs.Common.{◌≡◌, ◌++◌, map, take}
use Rattle.spec_core.specs.Findings.{Clean}
use Rattle.spec_grammar.specs.declared.raw.RawFun.{RawFun}
use Rattle.sort_check.specs.DeclarationTests.{functions_tests, function_of}
use Rattle.sort_check.proofs.declarations.add_functions.Given as goal

abbrev pub invariant-loop-raw : goal.invariant-loop-raw
invariant-loop-raw l =
    record {
      clean : Clean (functions_tests l.sorts l.fn.taken (take l.raw-index l.raws));
      made : l.made ≡ map (function_of l.sorts) (take l.raw-index l.raws);
      taken : l.taken ≡ l.fn.taken ++ map (λ (f : RawFun). f.head.name) (take l.raw-index l.raws);
    }
