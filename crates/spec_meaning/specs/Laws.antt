-- What changes nothing of what a raw specification stands for: places, and a later format.
use Rattle.spec_core.specs.declared.records.Spec.{Spec}
use Rattle.spec_grammar.specs.declared.raw.RawSpec.{RawSpec}
use Rattle.spec_printing.specs.SamePlaces.{IsSameButPlaces}
use Rattle.spec_printing.specs.Upgraded.{upgraded}
use Rattle.sort_check.specs.StandsFor.{StandsFor}

-- what is the same apart from places stands for the same
abbrev pub PlacesMeanNothing : Type 0
PlacesMeanNothing =
    (raw other : RawSpec) → IsSameButPlaces raw other
    → (spec : Spec) → StandsFor other spec → StandsFor raw spec

-- the same declarations in format 2 stand for the same
abbrev pub UpgradesStandForTheSame : Type 0
UpgradesStandForTheSame =
    (raw : RawSpec) (spec : Spec) → StandsFor raw spec → StandsFor (upgraded raw) spec
