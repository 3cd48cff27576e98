-- A value with the name of a variable.
use Rattle.std.specs.Prelude.{◌≡◌, ℕ, List}
use Rattle.term_core.specs.Tree.{Tree}
use Rattle.spec_core.specs.declared.records.VarInfo.{VarInfo}
use Rattle.spec_core.specs.Sig.{Sig}
use Rattle.spec_core.specs.Sorts.{IsValue}

-- it has the variable's name, and is a value of its sort
abbrev pub IsNamedValue : Sig → VarInfo → List ℕ × Tree → Type 0
IsNamedValue sig var named = (named.0 ≡ var.name) × IsValue sig var.sort named.1
