use Rattle.std.proofs.Common.{◌≡◌, take}
use Rattle.bank_core.specs.Chains.{hashes_of}
use Rattle.bank_core.proofs.links.Links.widen.Given as goal

abbrev pub invariant-loop-link : goal.invariant-loop-link
invariant-loop-link l = l.wide ≡ hashes_of (take l.link-index l.link-items)
