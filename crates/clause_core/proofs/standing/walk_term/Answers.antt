use Rattle.std.proofs.Common.{arith, refl}
use Rattle.clause_core.proofs.standing.walk_term.Goals as goal

pub returns-clause-fits : goal.returns-clause-fits
returns-clause-fits c = (
  λ _. (
    omega (arith, c.requires, c.size-size.ensures, c.if-size-walk.false),
    omega (arith, c.depth.ensures, c.if-depth-gt-MOST_LEVELS.false),
  ),
  λ _. refl,
)

pub returns-clause-room : goal.returns-clause-room
returns-clause-room c = λ _. omega (arith, c.requires, c.size-size.ensures, c.if-size-walk.false)
