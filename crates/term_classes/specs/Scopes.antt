-- Symbols of which lemmas are made.
use Rattle.std.specs.Prelude.{◌<◌, ℕ, List, All, map, length}
use Rattle.std.specs.List.Sorted.{IsStrictlyIncreasing}
use Rattle.term_core.specs.declared.ids.SymId.{SymId}
use Rattle.spec_core.specs.Sig.{Sig}

abbrev pub numbers_of : List SymId → List ℕ
numbers_of symbols = map (λ (f : SymId). f.0) symbols

-- symbols that are declared, by number and each once
pub record IsScope (sig : Sig) (symbols : List SymId) : Type 0 where
  pub declared : All (λ n. n < length sig.table) (numbers_of symbols)
  pub ordered : IsStrictlyIncreasing (numbers_of symbols)
