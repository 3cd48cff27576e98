use Rattle.proof_script.proofs.StepsByName.{no_drop}
use Rattle.proof_script.proofs.equation_steps.leave_out.Goals as goal

pub returns-in_err-conclusion : goal.returns-in_err-conclusion
returns-in_err-conclusion c = rw c.from_residual.ensures
    (λ sig d step h. no_drop sig c.args.words.now (λ b n l. c.in_err-conclusion.ensures sig d b n l) step h)
