use Rattle.proof_search.proofs.UnfitRules.{UnfitBefore}
use Rattle.proof_search.proofs.ruling.some_rule_fits.Given as goal

abbrev pub invariant-loop-place : goal.invariant-loop-place
invariant-loop-place l = UnfitBefore l.setting.spec.now l.term l.place-items l.place-index
