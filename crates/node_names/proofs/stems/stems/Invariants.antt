use Rattle.std.specs.Prelude.{All, Contains}
use Rattle.node_names.specs.Names.{stems_of}
use Rattle.node_names.proofs.stems.stems.Given as goal

abbrev pub invariant-loop-rule : goal.invariant-loop-rule
invariant-loop-rule l = All (Contains (stems_of l.spec l.goal)) l.made.items
