use Rattle.std.proofs.Common.{◌≡◌, ◌++◌, drop}
use Rattle.std.specs.List.{AllByRecursion}
use Rattle.proof_script.specs.Claims.{claims_text}
use Rattle.proof_script.specs.Ranges.{ClaimIsInRange}
use Rattle.proof_script.proofs.printing.append_claims.Given as goal

-- with the claims that are left all have been appended
abbrev pub invariant-loop-claim : goal.invariant-loop-claim
invariant-loop-claim l =
    record {
      text : l.text.items ++ claims_text l.sig (drop l.claim-index l.claims) ≡ l.fn.text.items
          ++ claims_text l.sig l.claims;
      rest : AllByRecursion (ClaimIsInRange l.sig) (drop l.claim-index l.claims);
    }
