use Rattle.std.proofs.Common.{ap, codes}
use Rattle.std.proofs.lemmas.Result.{IfOk-equal}
use Rattle.page_core.specs.Pages.{after}
use Rattle.proof_words.specs.StepEvents.{said}
use Rattle.proof_words.proofs.steps.draw_step.Goals as goal

pub returns-in-Drop : goal.returns-in-Drop
returns-in-Drop c =
    rw c.in-Drop.is
    (IfOk-equal c.draw_said-in-Drop.result _ _ _ c.draw_said-in-Drop.ensures
    (ap (λ text. after c.args.page.now (said text c.in-Drop.number (codes " is left out"))) c.equation_name.ensures))

pub returns-in-Context : goal.returns-in-Context
returns-in-Context c =
    rw c.in-Context.is
    (IfOk-equal c.draw_said-in-Context.result _ _ _ c.draw_said-in-Context.ensures
    (ap (λ text. after c.args.page.now (said (codes "by premise ") c.in-Context.number text)) c.direction.ensures))
