use Rattle.std.proofs.Common.{◌≡◌, take}
use Rattle.proof_search.specs.SideSpines.{listed_spines}
use Rattle.proof_search.proofs.side_spines.listed.Given as goal

abbrev pub invariant-loop-equation : goal.invariant-loop-equation
invariant-loop-equation l = l.made.items ≡ listed_spines (take l.equation-index l.equations)
