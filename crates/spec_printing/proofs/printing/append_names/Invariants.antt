use Rattle.std.proofs.Common.{◌≡◌, ◌++◌, take}
use Rattle.std.specs.Prelude.{codes}
use Rattle.std.specs.List.{flat_map}
use Rattle.spec_grammar.specs.declared.raw.RawName.{RawName}
use Rattle.spec_printing.proofs.printing.append_names.Given as goal

abbrev pub invariant-loop-other : goal.invariant-loop-other
invariant-loop-other l = l.text.items ≡ l.initial.text.items ++ flat_map (λ (n : RawName). codes ", " ++ n.name)
    (take l.other-index l.others)
