use Rattle.std.proofs.Common.{◌≡◌}
use Rattle.acceptance.specs.Strict.{first_child}
use Rattle.acceptance.specs.AllowedAnswers.{TellsStrict}
use Rattle.acceptance.proofs.allowing.strict_nodes.Given as goal

abbrev pub invariant-loop-node : goal.invariant-loop-node
invariant-loop-node l = record {
  first : l.first ≡ first_child l.made l.node;
  tells : TellsStrict l.made l.node l.strict.items;
}
