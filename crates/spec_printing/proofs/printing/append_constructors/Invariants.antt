use Rattle.std.proofs.Common.{◌≡◌, ◌++◌, take}
use Rattle.std.specs.Prelude.{codes}
use Rattle.std.specs.List.{flat_map}
use Rattle.spec_grammar.specs.declared.raw.RawNames.{RawNames}
use Rattle.spec_printing.specs.Printed.{names_printed}
use Rattle.spec_printing.proofs.printing.append_constructors.Given as goal

abbrev pub invariant-loop-other : goal.invariant-loop-other
invariant-loop-other l = l.text.items ≡ l.initial.text.items
    ++ flat_map (λ (c : RawNames). codes " | " ++ names_printed c) (take l.other-index l.others)
