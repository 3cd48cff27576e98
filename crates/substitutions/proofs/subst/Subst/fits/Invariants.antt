use Rattle.std.proofs.Common.{◌≡◌, ℕ, ◌<◌, Some}
use Rattle.std.specs.Prelude.{slice_get}
use Rattle.term_core.specs.Tree.{Tree}
use Rattle.term_core.specs.declared.ids.SortId.{SortId}
use Rattle.spec_core.specs.Sorts.{Sorted}
use Rattle.substitutions.specs.Substitution.{entry}
use Rattle.substitutions.proofs.subst.Subst.fits.Given as goal

abbrev pub invariant-loop-place : goal.invariant-loop-place
invariant-loop-place l = (n : ℕ) (s : SortId) → n < l.place → slice_get l.from n ≡ Some s →
    (t : Tree) × (entry l.self.terms n ≡ Some t) × Sorted l.sig l.to t s
