use Rattle.std.proofs.Common.{◌≡◌, [], take}
use Rattle.search_claims.specs.Claims.{AreClaims}
use Rattle.spike_cli.specs.Claims.{IsNextClaim, proved_goals}
use Rattle.spike_cli.proofs.claiming.claims_of.Given as goal

-- the claims so far are on the goals so far
abbrev pub invariant-loop-number : goal.invariant-loop-number
invariant-loop-number l = record {
  claims : AreClaims (IsNextClaim l.fn.bounds l.admitted.spec) [] (take l.number l.admitted.spec.goals) l.made.items;
  proved : l.proved.items ≡ proved_goals l.made.items;
}
