use Rattle.std.proofs.Common.{take}
use Rattle.node_names.specs.Names.{AreDifferent, AreNoSymbols}
use Rattle.node_names.proofs.goals.can_be_names.Given as goal

abbrev pub invariant-loop-place : goal.invariant-loop-place
invariant-loop-place l = record {
  different : AreDifferent (take l.place l.names);
  no_symbols : AreNoSymbols l.sig (take l.place l.names);
}
