use Rattle.std.proofs.Common.{◌++◌, ◌∙◌, ap}
use Rattle.std.specs.Prelude.{codes}
use Rattle.spec_printing.specs.Printed.{names_printed}
use Rattle.spec_printing.proofs.Texts.{spaced_text}
use Rattle.spec_printing.proofs.printing.append_constructors.Goals as goal

pub returns : goal.returns
returns c = spaced_text names_printed _ _ _ _ (codes " | ") _ _ _ c.in-Some.ensures c.loop-other-test.false
    (c.in_ok-append_with_names.ensures ∙ ap (λ t. t ++ names_printed c.in-Some.first.now)
    c.in_ok-push.ensures.items) c.loop-other.invariant
