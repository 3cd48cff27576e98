use Rattle.std.proofs.Common.{◌≡◌, ◌≤◌, List, [], take}
use Rattle.io_core.specs.Piece.{Appended}
use Rattle.clause_core.specs.declared.reports.Claim.{Claim}
use Rattle.search_claims.specs.Claims.{AreClaims}
use Rattle.spike_cli.specs.Claims.{IsNextClaim, IsStatusOfClaims, proved_goals}
use Rattle.spike_cli.specs.Reports.{begun_text}
use Rattle.spike_cli.proofs.reporting.write_report.Given as goal

-- the claims so far are on the goals so far, and their report was begun
abbrev pub invariant-loop-number : goal.invariant-loop-number
invariant-loop-number g l =
    (claims : List Claim) × AreClaims (IsNextClaim l.fn.bounds l.admitted.spec) []
    (take l.number l.admitted.spec.goals) claims × Appended (g.S.Sink.written l.fn.out)
    (g.S.Sink.written l.out) (begun_text l.fn.bounds.search.steps l.admitted.spec.sig claims)
    × IsStatusOfClaims claims l.status × (g.S.Sink.faults l.fn.out ≤ g.S.Sink.faults l.out)
    × (l.proved.items ≡ proved_goals claims)
