use Rattle.std.proofs.Common.{arith}
use Rattle.matching.proofs.Larger.{larger_never_becomes, deeper_never_becomes}
use Rattle.matching.proofs.binding.is_larger.Goals as goal

pub returns-then-size : goal.returns-then-size
returns-then-size c = λ _ s e.
    larger_never_becomes s c.args.pattern.now c.args.term.now
    (omega (arith, c.size.ensures, c.size-2.ensures, c.if-size.true)) e

pub returns-then-depth : goal.returns-then-depth
returns-then-depth c = λ _ s e.
    deeper_never_becomes s c.args.pattern.now c.args.term.now
    (omega (arith, c.depth.ensures, c.depth-2.ensures, c.if-depth.true)) e
