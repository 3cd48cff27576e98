-- The line of a value.
use Rattle.std.specs.Prelude.{ℕ, List}
use Rattle.term_core.specs.Tree.{Tree}
use Rattle.spec_core.specs.Sig.{Sig}
use Rattle.proof_script.specs.Claims.{value_line}
use Rattle.proof_script.specs.Reports.{ValueStands}
use Rattle.report_reader.specs.Lines.{IsLine}

-- the line says that the variable of this name has this value, which may appear
pub record IsValueLine (sig : Sig) (line name : List ℕ) (value : Tree) : Type 0 where
  pub stands : ValueStands sig (name, value)
  pub is : IsLine sig line (value_line (name, value))
