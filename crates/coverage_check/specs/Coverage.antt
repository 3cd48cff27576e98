-- What is answered of rows of patterns.
use Rattle.std.specs.Prelude.{List}
use Rattle.term_core.specs.Tree.{Tree}
use Rattle.term_core.specs.declared.ids.SortId.{SortId}
use Rattle.spec_core.specs.Sig.{Sig}
use Rattle.coverage_check.specs.declared.answers.Coverage.{Coverage}
use Rattle.coverage_check.specs.declared.answers.Coverage.TheVariants.{Covered, Missing}
use Rattle.coverage_check.specs.Values.{IsMissing, AreCovered}
use Rattle.coverage_check.specs.Named.{IsNamed}

-- all values of the sorts match some row; or these values are missing, and are those that are named
abbrev pub IsCoverage : Sig → List (List Tree) → List SortId → Coverage → Type 0
IsCoverage sig rows sorts Covered = AreCovered sig rows sorts
IsCoverage sig rows sorts (Missing vs) = IsMissing sig rows sorts vs × IsNamed sig rows sorts vs
