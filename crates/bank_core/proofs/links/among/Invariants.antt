use Rattle.bank_core.specs.Chains.{hashes_of}
use Rattle.bank_core.proofs.Chaining.{IsPast}
use Rattle.bank_core.proofs.links.among.Given as goal

abbrev pub invariant-loop-here : goal.invariant-loop-here
invariant-loop-here l = IsPast l.first (hashes_of l.links) l.hash l.at l.here

abbrev pub decreases-loop-here : goal.decreases-loop-here
decreases-loop-here l = l.here
