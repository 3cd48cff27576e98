use Rattle.std.proofs.Common.{◌≡◌, take}
use Rattle.growing_specs.proofs.copying.copy_vars.Given as goal

abbrev pub invariant-loop-var : goal.invariant-loop-var
invariant-loop-var l = l.made ≡ take l.var-index l.vars
