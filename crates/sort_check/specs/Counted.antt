-- How many declarations a raw specification has.
use Rattle.std.specs.Prelude.{ℕ, ◌+◌, ◌<◌, length}
use Rattle.std.specs.List.{flat_map}
use Rattle.spec_grammar.specs.declared.raw.RawSort.{RawSort}
use Rattle.spec_grammar.specs.declared.raw.RawSpec.{RawSpec}

-- sorts, constructors, functions, rules and goals
abbrev pub declarations : RawSpec → ℕ
declarations raw = length raw.sorts + length (flat_map (λ (s : RawSort). s.constructors) raw.sorts)
    + length raw.funs + length raw.rules + length raw.goals

-- so few that each number of one fits 32 bits, with the sort and the symbols of Booleans
abbrev pub HasFewDeclarations : RawSpec → Type 0
HasFewDeclarations raw = declarations raw < 4294967290
