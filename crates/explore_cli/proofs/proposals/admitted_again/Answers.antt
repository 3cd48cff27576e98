use Rattle.std.proofs.Common.{subst}
use Rattle.accepted_spec.specs.Refusals.{IsRefusalOf}
use Rattle.accepted_spec.specs.Tellings.{Tells}
use Rattle.accepted_spec.specs.declared.refusals.Refusal.{Refusal}
use Rattle.explore_cli.proofs.proposals.admitted_again.Goals as goal

pub unreachable-requires : goal.unreachable-requires
unreachable-requires c =
    let bytes = c.args.bytes.now in
    let accepted = c.requires.accepted in
    let told =
    subst (λ (r : Refusal). Tells (IsRefusalOf bytes) r) c.in-Err-Line.field-0-is
    c.in-Err-Line.ensures.refused in
    c.one_ending.ensures.no_refusal bytes c.in-Err-Line.field-0-0.items accepted.0 accepted.1 accepted.2
    told
