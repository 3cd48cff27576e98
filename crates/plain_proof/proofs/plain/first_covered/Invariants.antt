use Rattle.std.proofs.Common.{ℕ, ◌<◌}
use Rattle.plain_proof.specs.CaseAnswers.{IsCovered}
use Rattle.plain_proof.proofs.plain.first_covered.Given as goal

abbrev pub invariant-loop-index : goal.invariant-loop-index
invariant-loop-index l = (y : ℕ) → y < l.index → IsCovered l.spec l.ctx l.equation l.fn.length y → ⊥
