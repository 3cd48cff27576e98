use Rattle.std.proofs.Common.{◌≡◌, ◌++◌, map}
use Rattle.spec_core.specs.Order.{symbol_number, constructor_numbers}
use Rattle.spec_core.proofs.Constructors.{numbers_from}
use Rattle.spec_core.proofs.symbols.Signature.constructors_of.Given as goal

abbrev pub invariant-loop-number : goal.invariant-loop-number
invariant-loop-number l = map symbol_number l.made ++ numbers_from l.self l.number l.sort ≡ constructor_numbers
    l.self l.sort
