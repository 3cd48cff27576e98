use Rattle.std.proofs.Common.{◌++◌, ◌∙◌, ap}
use Rattle.std.specs.Fmt.{decimal}
use Rattle.spec_printing.proofs.Texts.{listed_text}
use Rattle.spec_printing.proofs.printing.append_numbers.Goals as goal

pub returns : goal.returns
returns c =
    listed_text decimal _ _ _ _ _ _ _ _ c.in-Some.ensures c.loop-other-test.false
    (c.in_ok-append_number.ensures ∙ ap (λ t. t ++ decimal c.in-Some.first.now) c.in_ok-push.ensures.items)
    c.loop-other.invariant c.in_ok-push-2.ensures.items
