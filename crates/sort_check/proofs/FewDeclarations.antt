-- A raw specification within the limits has few declarations.
use Rattle.std.proofs.Common.{arith}
use Rattle.std.proofs.lemmas.List.Concat.{length-flat_map}
use Rattle.spec_grammar.specs.KeepsLimits.{KeepsLimits}
use Rattle.spec_grammar.proofs.KeepsLimits.{few_constructors, few_functions, few_rules}
use Rattle.spec_grammar.specs.declared.raw.RawSort.{RawSort}
use Rattle.spec_grammar.specs.declared.raw.RawSpec.{RawSpec}
use Rattle.sort_check.specs.Counted.{HasFewDeclarations}

pub few_declarations : (raw : RawSpec) → KeepsLimits raw → HasFewDeclarations raw
few_declarations raw k =
    let constructors = few_constructors raw.version in
    let functions = few_functions raw.version in
    let rules = few_rules raw.version in
    omega (
      arith,
      length-flat_map (λ (s : RawSort). s.constructors) raw.sorts,
      k.few_sorts,
      k.few_constructors,
      constructors,
      k.few_functions,
      functions,
      k.few_rules,
      rules,
      k.few_goals,
    )
