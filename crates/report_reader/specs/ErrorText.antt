-- The text of an error.
use Rattle.std.specs.Prelude.{ℕ, List, ◌++◌, codes}
use Rattle.std.specs.Fmt.{decimal}
use Rattle.report_reader.specs.declared.errors.ReportError.{ReportError}
use Rattle.report_reader.specs.declared.errors.ReportError.TheVariants.{Line, OutOfMemory}

abbrev pub error_text : ReportError → List ℕ
error_text (Line n) = codes "line " ++ decimal n
error_text OutOfMemory = codes "out of memory"
