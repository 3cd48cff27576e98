use Rattle.std.proofs.Common.{◌≡◌, map, take}
use Rattle.script_trim.specs.Keys.{equation_key}
use Rattle.script_trim.proofs.keys.conclusion_keys.Given as goal

abbrev pub invariant-loop-equation : goal.invariant-loop-equation
invariant-loop-equation l = l.keys.items ≡ map equation_key (take l.equation-index l.conclusions)
