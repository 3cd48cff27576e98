-- Constructor terms with their variables in a row.
use Rattle.std.specs.Prelude.{◌≡◌, ℕ, length}
use Rattle.std.specs.List.{range_with_len}
use Rattle.term_core.specs.Tree.{Tree, Trees}
use Rattle.term_core.specs.Variables.{occurrences, occurrences_all}
use Rattle.spec_core.specs.Sig.{Sig}
use Rattle.spec_core.specs.WellSorted.{IsPattern, ArePatterns}

-- a constructor term whose variables are, from the left, the numbers from this one on
abbrev pub IsNumbered : Sig → ℕ → Tree → Type 0
IsNumbered sig from t =
    IsPattern sig t × (occurrences t ≡ range_with_len from (length (occurrences t)))

-- the same of constructor terms in a row
abbrev pub AreNumbered : Sig → ℕ → Trees → Type 0
AreNumbered sig from ts =
    ArePatterns sig ts × (occurrences_all ts ≡ range_with_len from (length (occurrences_all ts)))
