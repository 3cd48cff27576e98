-- Which symbols are marked, by number.
use Rattle.std.specs.Prelude.{◌≡◌, ℕ, ◌<◌, List, [], ◌∷◌, Bool, false, Option, Some, None, length, map}
use Rattle.std.specs.List.{AllByRecursion, slice_index_or}
use Rattle.term_core.specs.declared.ids.SymId.{SymId}
use Rattle.spec_core.specs.Sig.{Sig}
use Rattle.spec_grammar.specs.declared.raw.RawName.{RawName}
use Rattle.sort_check.specs.Orders.{is_among}
use Rattle.sort_check.specs.OrderTests.{arity}

-- the marked ones are those of the list
abbrev pub AreMarks : List ℕ → List Bool → Type 0
AreMarks ns marks =
    (f : ℕ) → f < length marks → slice_index_or marks f false ≡ is_among f ns

abbrev pub numbers_of : List SymId → List ℕ
numbers_of fs = map (λ (f : SymId). f.0) fs

-- the numbers of all are below this one
abbrev pub AllAreBelow : ℕ → List SymId → Type 0
AllAreBelow n fs = AllByRecursion (λ (f : SymId). f.0 < n) fs

-- how many arguments each further name of a line has to have
abbrev pub wanted_arity : Sig → List RawName → Option ℕ
wanted_arity sig [] = None
wanted_arity sig (n ∷ ns) = Some (arity sig n)
