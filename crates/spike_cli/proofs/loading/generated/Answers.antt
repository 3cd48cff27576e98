use Rattle.std.proofs.Common.{◌≤◌, ◌∙◌, List, ℕ, sym, subst, length}
use Rattle.load_text.specs.Accepted.{IsAcceptedAs}
use Rattle.load_text.specs.LoadSpec.{load_spec}
use Rattle.accepted_spec.specs.Refusals.{IsRefusalOf}
use Rattle.accepted_spec.specs.Tellings.{Tells}
use Rattle.accepted_spec.specs.declared.refusals.Refusal.{Refusal}
use Rattle.spike_cli.proofs.LoadLengths.{load_short}
use Rattle.spike_cli.proofs.LoadedGoals.{not_refused, same_spec}
use Rattle.file_replies.proofs.Reported.{has_reports}
use Rattle.spike_cli.proofs.loading.generated.Goals as goal

pub specification-requires : goal.specification-requires
specification-requires c =
    subst (λ (t : List ℕ). length t ≤ 4194304)
    (sym (c.deref.ensures.value ∙ c.in_ok-text.ensures.text))
    (load_short c.args.goals c.requires.few)

pub returns-in-Ok-clause-is : goal.returns-in-Ok-clause-is
returns-in-Ok-clause-is c =
    let bytes = c.deref.result.now in
    let is : IsAcceptedAs bytes (load_spec c.args.goals) =
    subst (λ (t : List ℕ). IsAcceptedAs t (load_spec c.args.goals)) (sym c.deref.ensures.value)
    c.in_ok-text.ensures.accepted in
    same_spec c.one_ending.ensures bytes (load_spec c.args.goals) is c.in-Ok.accepted.raw
    c.in-Ok.accepted.admitted.spec c.in-Ok.ensures.accepted

pub returns-in-Ok-clause-reported : goal.returns-in-Ok-clause-reported
returns-in-Ok-clause-reported c =
    has_reports c.deref.result.now c.in-Ok.accepted.raw c.in-Ok.accepted.admitted.spec
    c.in-Ok.ensures.accepted

pub unreachable-requires : goal.unreachable-requires
unreachable-requires c =
    let bytes = c.deref.result.now in
    let is : IsAcceptedAs bytes (load_spec c.args.goals) =
    subst (λ (t : List ℕ). IsAcceptedAs t (load_spec c.args.goals)) (sym c.deref.ensures.value)
    c.in_ok-text.ensures.accepted in
    let told =
    subst (λ (r : Refusal). Tells (IsRefusalOf bytes) r) c.in-Err-Line.field-0-is
    c.in-Err-Line.ensures.refused in
    not_refused c.one_ending.ensures bytes (load_spec c.args.goals) is
    c.in-Err-Line.field-0-0.items told
