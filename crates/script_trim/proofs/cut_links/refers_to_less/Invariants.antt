use Rattle.std.proofs.Common.{◌≡◌, ◌<◌, ℕ, Some}
use Rattle.std.specs.Prelude.{slice_get}
use Rattle.clause_core.specs.declared.answers.Reference.{Reference}
use Rattle.clause_core.specs.declared.clauses.Relation.TheVariants.{Less}
use Rattle.script_trim.proofs.cut_links.refers_to_less.Given as goal

abbrev pub invariant-loop-reference : goal.invariant-loop-reference
invariant-loop-reference l =
    (a : ℕ) (r : Reference) → a < l.reference-index → slice_get l.reference-items a ≡ Some r → r.relation ≡ Less
