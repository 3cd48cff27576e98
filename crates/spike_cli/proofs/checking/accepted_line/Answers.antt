use Rattle.std.proofs.Common.{◌∙◌, ap, arith}
use Rattle.spec_grammar.proofs.KeepsLimits.{few_constructors}
use Rattle.spike_cli.specs.Checks.{constructor_count}
use Rattle.spike_cli.proofs.CheckLines.{line_made, line_of}
use Rattle.spike_cli.proofs.checking.accepted_line.Goals as goal

pub constructors_of-constructors-requires : goal.constructors_of-constructors-requires
constructors_of-constructors-requires c =
    let count = ap (λ ss. constructor_count ss) c.as_slice.ensures in
    omega (arith, count, c.requires.few_constructors, few_constructors c.args.raw.now.version)

pub returns : goal.returns
returns c =
    let count = c.constructors_of-constructors.ensures ∙ ap (λ ss. constructor_count ss) c.as_slice.ensures in
    line_made _ _ _ _ _ _ _ _ _ _ _ _ c.in_ok-text.ensures.items c.in_ok-append_count.ensures
    c.in_ok-append_count-2.ensures c.in_ok-append_count-3.ensures c.in_ok-append_count-4.ensures
    c.in_ok-append_count-5.ensures c.in_ok-push.ensures.items
    ∙ line_of c.args.raw.now _ _ _ _ _ c.len.ensures count c.len-2.ensures c.len-3.ensures c.len-4.ensures
