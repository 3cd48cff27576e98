use Rattle.std.proofs.Common.{◌≡◌, ◌++◌, take}
use Rattle.std.specs.List.{flat_map}
use Rattle.spec_grammar.specs.declared.raw.RawEq.{RawEq}
use Rattle.spec_printing.specs.Printed.{equation_printed}
use Rattle.spec_printing.proofs.printing.append_equations.Given as goal

abbrev pub invariant-loop-other : goal.invariant-loop-other
invariant-loop-other l = l.text.items ≡ l.initial.text.items
    ++ flat_map (λ (e : RawEq). l.between ++ equation_printed e) (take l.other-index l.others)
