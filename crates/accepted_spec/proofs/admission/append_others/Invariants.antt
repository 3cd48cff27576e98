use Rattle.std.proofs.Common.{◌≡◌, ◌++◌, drop}
use Rattle.std.specs.List.{AllByRecursion, flat_map}
use Rattle.spec_core.specs.TermText.{SymbolsAreInRange}
use Rattle.accepted_spec.specs.AdmitLines.{other_text}
use Rattle.accepted_spec.proofs.admission.append_others.Given as goal

abbrev pub invariant-loop-value : goal.invariant-loop-value
invariant-loop-value l =
    record {
      text : l.text.items ++ flat_map (other_text l.sig) (drop l.value-index l.values) ≡ l.fn.text.items
          ++ flat_map (other_text l.sig) l.values;
      rest : AllByRecursion (SymbolsAreInRange l.sig) (drop l.value-index l.values);
    }
