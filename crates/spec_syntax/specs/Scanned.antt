-- What a fault of the tokens is for a reader.
use Rattle.spec_text.specs.declared.tokens.ScanError.{ScanError}
use Rattle.spec_text.specs.declared.tokens.ScanError.TheVariants as scan
use Rattle.spec_syntax.specs.declared.fault.SyntaxFault.{SyntaxFault}
use Rattle.spec_syntax.specs.declared.fault.SyntaxFault.TheVariants as fault

abbrev pub fault_of_scan : ScanError → SyntaxFault
fault_of_scan (scan.Text at) = fault.Text at
fault_of_scan scan.OutOfMemory = fault.OutOfMemory
