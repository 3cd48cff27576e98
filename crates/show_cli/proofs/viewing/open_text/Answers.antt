use Rattle.std.proofs.Common.{subst, sym}
use Rattle.term_core.proofs.Items.{if_ok_map}
use Rattle.report_pages.specs.Claims.{HaveGoals}
use Rattle.show_words.specs.Requests.{task_of}
use Rattle.open_pages.specs.OpenPages.{IsOpenPage}
use Rattle.show_cli.specs.OpenTexts.{IsOpenText}
use Rattle.show_cli.proofs.ClaimedGoals.{have_goals}
use Rattle.show_cli.proofs.viewing.open_text.Goals as goal

pub open_page-requires-clause-goals : goal.open_page-requires-clause-goals
open_page-requires-clause-goals c =
    let spec = c.args.admitted.now.spec in
    subst (λ cs. HaveGoals spec cs) (sym c.deref.ensures.value)
    (have_goals c.args.bounds spec c.in_ok-claims.claims.items c.in_ok-claims.ensures)

pub returns : goal.returns
returns c =
    let spec = c.args.admitted.now.spec in
    let task = task_of c.args.command.now in
    let bounds = c.args.bounds in
    if_ok_map c.open_page.result _ (λ text. IsOpenText spec task.file task.goal bounds text.items)
    (λ text is. (
      c.in_ok-claims.claims.items,
      c.in_ok-claims.ensures,
      subst (λ cs. IsOpenPage spec task.file task.goal bounds.search cs text.items) c.deref.ensures.value is,
    ))
    c.open_page.ensures
