-- Laws of substitutions.
use Rattle.std.specs.Prelude.{List, Option}
use Rattle.term_core.specs.Tree.{Tree}
use Rattle.term_core.specs.declared.ids.SortId.{SortId}
use Rattle.spec_core.specs.Sig.{Sig}
use Rattle.spec_core.specs.Sorts.{Sorted}
use Rattle.substitutions.specs.Substitution.{apply}
use Rattle.substitutions.specs.Fitting.{Fits}

-- a term over the variables `from` has its sort over `to`, once entries that fit are put in
abbrev pub InstancesKeepSorts : Type 0
InstancesKeepSorts =
    (sig : Sig) (from to : List SortId) (entries : List (Option Tree)) (t : Tree) (s : SortId) →
    Fits sig from to entries → Sorted sig from t s → Sorted sig to (apply entries t) s
