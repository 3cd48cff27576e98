-- What an error says of the bytes.
use Rattle.std.specs.Prelude.{ℕ, List}
use Rattle.spec_core.specs.Sig.{Sig}
use Rattle.proof_script.specs.Faults.{IsFaultyLine}
use Rattle.report_reader.specs.declared.errors.ReportError.{ReportError}
use Rattle.report_reader.specs.declared.errors.ReportError.TheVariants.{Line, OutOfMemory}

-- the line with this number is the first that can't continue
abbrev pub TellsFault : Sig → List ℕ → ReportError → Type 0
TellsFault sig bytes (Line n) = IsFaultyLine sig bytes n
TellsFault sig bytes OutOfMemory = Unit {0}
