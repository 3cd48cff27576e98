use Rattle.std.proofs.Common.{◌≡◌, ◌∙◌, ◌++◌, ◌∷◌, [], List, ap, sym}
use Rattle.std.proofs.lemmas.List.{map-append, take_all}
use Rattle.term_core.proofs.Items.{taken_next}
use Rattle.clause_core.specs.declared.steps.Step.{Step}
use Rattle.session_core.specs.declared.commands.Command.{Command}
use Rattle.session_core.specs.declared.commands.Command.TheVariants.{Step as of_step}
use Rattle.session_core.specs.Written.{step_commands}
use Rattle.session_core.proofs.ReportedClaims.{step_at}
use Rattle.session_core.proofs.reporting.steps_of.Goals as goal

pub unreachable-requires : goal.unreachable-requires
unreachable-requires c =
    let s = step_at c.requires.0 c.args.commands.now c.requires.1 c.loop-command.command-index c.command-item.result
    c.loop-command-test.true c.command-item.is in
    c.in_default.not-Step s.0 s.1

pub loop-command-preserved : goal.loop-command-preserved
loop-command-preserved c =
    let next = taken_next c.args.commands.now c.loop-command.command-index c.command-item.result
    c.loop-command-test.true c.command-item.is in
    let pushed : c.push.new.self ≡ c.loop-command.steps ++ c.in-Step.step ∷ [] = c.in_ok-push.ensures.pushed ∙
    ap (λ (s : Step). c.loop-command.steps ++ s ∷ []) c.in_ok-copy_step.ensures in
    next ∙ ap (λ cs. cs ++ c.command-item.result ∷ []) c.loop-command.invariant
    ∙ ap (λ (x : Command). step_commands c.loop-command.steps ++ x ∷ []) c.in-Step.is
    ∙ sym (map-append (λ (s : Step). of_step s) c.loop-command.steps (c.in-Step.step ∷ []))
    ∙ ap (λ (ss : List Step). step_commands ss) (sym pushed)

pub returns : goal.returns
returns c = sym (take_all c.loop-command.command-index c.args.commands.now c.loop-command-test.false) ∙
    c.loop-command.invariant
