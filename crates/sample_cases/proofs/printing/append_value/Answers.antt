use Rattle.std.proofs.Common.{sym, subst}
use Rattle.std.specs.Prelude.{IfSome}
use Rattle.term_core.specs.Tree.{Tree}
use Rattle.term_core.specs.declared.ids.SortId.{SortId}
use Rattle.spec_core.specs.declared.records.Spec.{Spec}
use Rattle.spec_core.specs.Sorts.{IsValue}
use Rattle.spec_core.specs.TermText.{SymbolsAreInRange}
use Rattle.sample_values.proofs.Symbols.{value_symbols}
use Rattle.sample_cases.proofs.printing.append_value.Goals as goal

pub print-requires : goal.print-requires
print-requires c =
    let sig = c.args.samples.now.spec.sig in
    let v = subst (λ r. IfSome r (λ (t : Tree). (sort : SortId) × IsValue sig sort t)) c.in-Some.is
    c.in_ok-term.ensures in
    let symbols = value_symbols sig v.0 c.in-Some.term v.1 in
    record {
      in_range = subst (λ (s : Spec). SymbolsAreInRange s.sig c.in-Some.term) (sym c.spec.ensures.spec) symbols;
    }
