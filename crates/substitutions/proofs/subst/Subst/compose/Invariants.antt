use Rattle.std.proofs.Common.{◌≡◌, ℕ, ◌<◌, length}
use Rattle.substitutions.specs.Substitution.{entry}
use Rattle.substitutions.proofs.Compositions.{composed_entry}
use Rattle.substitutions.proofs.subst.Subst.compose.Given as goal

abbrev pub invariant-loop-place : goal.invariant-loop-place
invariant-loop-place l = (length l.terms.items ≡ l.place)
    × ((n : ℕ) → n < l.place → entry l.terms.items n ≡ composed_entry l.self.terms l.then.terms n)
