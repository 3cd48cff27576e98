use Rattle.std.proofs.Common.{ℕ, List}
use Rattle.std.specs.Prelude.{All, Contains}
use Rattle.spec_core.specs.TermText.{variable_names}
use Rattle.node_names.proofs.stems.name_sorts.Given as goal

abbrev pub invariant-loop-var : goal.invariant-loop-var
invariant-loop-var l =
    (known : List (List ℕ)) → All (Contains known) l.fn.stems.items
    → All (Contains known) (variable_names l.vars) → All (Contains known) l.stems.items
