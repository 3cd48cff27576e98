-- What each reply to an accepted report is.
use Rattle.std.specs.Prelude.{ℕ, List}
use Rattle.spec_core.specs.declared.records.Spec.{Spec}
use Rattle.clause_core.specs.declared.reports.Report.{Report}
use Rattle.spike_cli.specs.declared.replying.Yes.{Yes}
use Rattle.spike_cli.specs.declared.replying.Yes.TheVariants.{Counts, Trimmed}
use Rattle.spike_cli.specs.Replays.{IsYesLine}
use Rattle.spike_cli.specs.Trims.{IsTrimmedText}

abbrev pub IsYesText : Yes → Spec → Report → List ℕ → Type 0
IsYesText Counts = IsYesLine
IsYesText Trimmed = IsTrimmedText
