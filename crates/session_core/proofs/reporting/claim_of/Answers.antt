use Rattle.std.proofs.Common.{◌≡◌, ◌∙◌, ◌++◌, [], List, ap, arith, length, length-append, sym}
use Rattle.std.proofs.lemmas.List.{length-map}
use Rattle.clause_core.specs.declared.steps.Step.{Step}
use Rattle.session_core.specs.declared.commands.Command.{Command}
use Rattle.session_core.specs.declared.commands.Command.TheVariants.{Goal, Step as of_step}
use Rattle.session_core.specs.States.{proves_named}
use Rattle.session_core.specs.Written.{goal_commands}
use Rattle.session_core.proofs.ReportedClaims.{first_command, same_steps}
use Rattle.session_core.proofs.reporting.claim_of.Goals as goal

pub unreachable-requires : goal.unreachable-requires
unreachable-requires c =
    let b = c.requires in
    let e = sym c.in_default.ensures ∙ b.is in
    let n : length {A = Command} [] ≡ length (goal_commands b.name b.steps ++ b.others) = ap (λ cs. length cs) e in
    omega (arith, n, length-append (goal_commands b.name b.steps) b.others)

pub unreachable-requires-in_default-first : goal.unreachable-requires-in_default-first
unreachable-requires-in_default-first c =
    let b = c.requires in
    c.in_default-first.not-Goal b.name (first_command c.args.commands.now c.args.count b c.in-Some.first.now
    c.in-Some.others.now c.in-Some.ensures).0

pub slice_bounds-steps_of-end : goal.slice_bounds-steps_of-end
slice_bounds-steps_of-end c =
    let b = c.requires in
    let f = first_command c.args.commands.now c.args.count b c.in-Some.first.now c.in-Some.others.now
    c.in-Some.ensures in
    omega (arith, ap (λ (cs : List Command). length cs) f.1, length-map b.steps (λ (s : Step). of_step s), b.counted)

pub steps_of-requires : goal.steps_of-requires
steps_of-requires c =
    let b = c.requires in (
      b.steps,
      (first_command c.args.commands.now c.args.count b c.in-Some.first.now c.in-Some.others.now
          c.in-Some.ensures).1,
    )

pub returns : goal.returns
returns c = λ b.
    let f = first_command c.args.commands.now c.args.count b c.in-Some.first.now c.in-Some.others.now
    c.in-Some.ensures in
    let goal_is : Goal c.in-Goal.name ≡ Goal b.name = sym c.in-Goal.is ∙ f.0 in
    let named : c.in-Goal.name ≡ b.name = cc in
    let name : c.in_ok-copy.field-0 ≡ b.name = c.in_ok-copy.ensures ∙ named in
    let steps : c.in_ok-steps.steps ≡ b.steps = same_steps c.in_ok-steps.steps b.steps (sym c.in_ok-steps.ensures ∙
    f.1) in
    λ i. proves_named (name i) (steps i)
