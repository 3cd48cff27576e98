use Rattle.std.proofs.Common.{ℕ, List}
use Rattle.std.specs.Prelude.{All, Contains, codes}
use Rattle.node_names.proofs.stems.other_stems.Given as goal

abbrev pub invariant-loop : goal.invariant-loop
invariant-loop l =
    (known : List (List ℕ)) → Contains known (codes "v") → All (Contains known) l.made.items
