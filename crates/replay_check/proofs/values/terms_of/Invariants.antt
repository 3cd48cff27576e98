use Rattle.std.proofs.Common.{◌≡◌, take}
use Rattle.acceptance.specs.Accepting.{values_in}
use Rattle.replay_check.proofs.values.terms_of.Given as goal

abbrev pub invariant-loop-value : goal.invariant-loop-value
invariant-loop-value l = l.terms.items ≡ values_in (take l.value-index l.values)
