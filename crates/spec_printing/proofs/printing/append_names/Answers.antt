use Rattle.std.proofs.Common.{◌++◌, ◌∙◌, ap}
use Rattle.std.specs.Prelude.{codes}
use Rattle.spec_grammar.specs.declared.raw.RawName.{RawName}
use Rattle.spec_printing.proofs.Texts.{listed_text}
use Rattle.spec_printing.proofs.printing.append_names.Goals as goal

pub returns : goal.returns
returns c = listed_text (λ (n : RawName). n.name) _ _ _ _ _ _ _ _ c.in-Some.ensures c.loop-other-test.false
    (c.in_ok-extend_from_slice.ensures.items ∙ ap (λ t. t ++ c.as_bytes.result.now) c.in_ok-push.ensures.items
    ∙ ap (λ t. (c.args.text.now.items ++ codes "(") ++ t) c.as_bytes.ensures) c.loop-other.invariant
    c.in_ok-push-2.ensures.items
