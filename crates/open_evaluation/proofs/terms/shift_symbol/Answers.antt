use Rattle.std.proofs.Common.{sym, arith}
use Rattle.open_evaluation.proofs.Numbers.{number_kept, number_moved}
use Rattle.open_evaluation.proofs.terms.shift_symbol.Goals as goal

pub returns-then-sym-constructors-clause-number : goal.returns-then-sym-constructors-clause-number
returns-then-sym-constructors-clause-number c = sym
    (number_kept c.args.constructors c.args.constants c.args.sym.0 c.if-sym-constructors.true)

pub returns-in-Some-clause-number : goal.returns-in-Some-clause-number
returns-in-Some-clause-number c = omega (
  arith,
  number_moved c.args.constructors c.args.constants c.args.sym.0 (omega arith),
)
