use Rattle.std.proofs.Common.{◌≡◌, ◌++◌, take}
use Rattle.spec_core.specs.Findings.{Clean}
use Rattle.sort_check.specs.DeclarationTests.{all_constructors_tests, constructors_of}
use Rattle.sort_check.proofs.DeclaringLoops.{names_in}
use Rattle.sort_check.proofs.declarations.add_all_constructors.Given as goal

abbrev pub invariant-loop-place : goal.invariant-loop-place
invariant-loop-place l =
    record {
      clean : Clean (all_constructors_tests l.sorts l.fn.taken (take l.place l.raws));
      made : l.made ≡ constructors_of l.sorts 1 (take l.place l.raws);
      taken : l.taken ≡ l.fn.taken ++ names_in (take l.place l.raws);
    }
