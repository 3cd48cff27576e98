use Rattle.std.proofs.Common.{arith}
use Rattle.term_core.proofs.Paths.{no_argument}
use Rattle.term_core.proofs.places.numbered.Goals as goal

pub returns-in_err-checked_sub : goal.returns-in_err-checked_sub
returns-in_err-checked_sub c =
    rw c.from_residual.ensures (λ t a. c.in_err-checked_sub.ensures (omega (arith, a.1)))

pub returns-in_err-get : goal.returns-in_err-get
returns-in_err-get c =
    rw c.from_residual-in_err-get.ensures (no_argument c.args.args.now c.from-index.result c.args.number
    c.in_err-get.ensures (omega (arith, c.in_ok-checked_sub.ensures, c.from-index.ensures)))
