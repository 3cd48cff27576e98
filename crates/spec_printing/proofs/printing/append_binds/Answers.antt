use Rattle.std.proofs.Common.{◌++◌, ◌∙◌, ap}
use Rattle.spec_printing.specs.Printed.{bind_printed}
use Rattle.spec_printing.proofs.Texts.{listed_text}
use Rattle.spec_printing.proofs.printing.append_binds.Goals as goal

pub returns : goal.returns
returns c = listed_text bind_printed _ _ _ _ _ _ _ _ c.in-Some.ensures c.loop-other-test.false
    (c.in_ok-append_bind.ensures ∙ ap (λ t. t ++ bind_printed c.in-Some.first.now) c.in_ok-push.ensures.items)
    c.loop-other.invariant c.in_ok-push-2.ensures.items
