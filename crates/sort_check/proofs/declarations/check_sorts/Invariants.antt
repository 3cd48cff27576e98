use Rattle.std.proofs.Common.{◌≡◌, ◌∷◌, [], take}
use Rattle.std.specs.Prelude.{codes}
use Rattle.spec_core.specs.Findings.{Clean}
use Rattle.sort_check.specs.DeclarationTests.{sorts_tests}
use Rattle.sort_check.specs.Signatures.{sort_names}
use Rattle.sort_check.proofs.declarations.check_sorts.Given as goal

abbrev pub invariant-loop-raw : goal.invariant-loop-raw
invariant-loop-raw l =
    record {
      clean : Clean (sorts_tests (codes "Bool" ∷ []) (take l.raw-index l.raws));
      made : l.names ≡ codes "Bool" ∷ sort_names (take l.raw-index l.raws);
    }
