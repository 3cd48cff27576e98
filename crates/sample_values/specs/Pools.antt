-- Values that have numbers.
use Rattle.std.specs.Prelude.{◌≡◌, ℕ, List, Some, slice_get}
use Rattle.spec_core.specs.WellSorted.{IsWellSorted}
use Rattle.sample_values.specs.declared.known_values.Known.{Known}
use Rattle.sample_values.specs.Evaluators.{Evaluated, HasValue}

-- each number is that of a place at which there is a value of the sort
abbrev pub AreKnown : Evaluated → List Known → Type 0
AreKnown e known = (n : ℕ) (k : Known) → slice_get known n ≡ Some k → HasValue e k.place k.sort

pub record IsPool (e : Evaluated) (items : List Known) : Type 0 where
  pub fine : IsWellSorted e.spec
  pub known : AreKnown e items
