use Rattle.std.proofs.Common.{take}
use Rattle.spec_core.specs.Declarations.{IsNewName}
use Rattle.spec_core.proofs.building.has_name.Given as goal

abbrev pub invariant-loop-other : goal.invariant-loop-other
invariant-loop-other l = IsNewName l.name (take l.other-index l.names)
