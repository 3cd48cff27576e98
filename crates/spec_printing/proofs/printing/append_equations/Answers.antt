use Rattle.std.proofs.Common.{◌++◌, ◌∙◌, ap}
use Rattle.spec_printing.specs.Printed.{equation_printed}
use Rattle.spec_printing.proofs.Texts.{spaced_text}
use Rattle.spec_printing.proofs.printing.append_equations.Goals as goal

pub returns : goal.returns
returns c = spaced_text equation_printed _ _ _ _ c.args.between.now _ _ _ c.in-Some.ensures
    c.loop-other-test.false (c.in_ok-append_sides.ensures ∙ ap (λ t. t ++ equation_printed c.in-Some.first.now)
    c.in_ok-push.ensures.items) c.loop-other.invariant
