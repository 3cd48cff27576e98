use Rattle.std.proofs.Common.{ℕ, Vec, Global, IfOk, subst, sym}
use Rattle.spike_cli.specs.declared.replying.Yes.{Yes}
use Rattle.spike_cli.specs.Replies.{IsYesText}
use Rattle.spike_cli.proofs.replying.YesYesText.text.Goals as goal

pub returns-in-Trimmed : goal.returns-in-Trimmed
returns-in-Trimmed c =
    subst (λ (y : Yes). IfOk c.trimmed_text.result
    (λ (text : Vec ℕ Global). IsYesText y c.args.admitted.now.spec c.args.report.now text.items))
    (sym c.in-Trimmed.is) c.trimmed_text.ensures
