-- Faults whose values have symbols of the signature.
use Rattle.std.specs.Prelude.{◌<◌, length}
use Rattle.std.specs.List.{AllByRecursion}
use Rattle.spec_core.specs.Sig.{Sig}
use Rattle.spec_core.specs.TermText.{SymbolsAreInRange}
use Rattle.spec_admit.specs.declared.faults.AdmitFault.{AdmitFault}
use Rattle.spec_admit.specs.declared.faults.AdmitFault.TheVariants.{Overlap, Coverage}

abbrev pub IsPrintableFault : Sig → AdmitFault → Type 0
IsPrintableFault sig (Overlap first second values) = AllByRecursion (SymbolsAreInRange sig) values
IsPrintableFault sig (Coverage f values) =
    (f.0 < length sig.table) × AllByRecursion (SymbolsAreInRange sig) values
IsPrintableFault sig _ = Unit {0}
