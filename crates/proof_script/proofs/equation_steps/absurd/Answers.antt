use Rattle.proof_script.proofs.StepsByName.{no_absurd}
use Rattle.proof_script.proofs.equation_steps.absurd.Goals as goal

pub returns-in_err-only_number : goal.returns-in_err-only_number
returns-in_err-only_number c = rw c.from_residual.ensures
    (λ sig d step h. no_absurd sig c.args.words.now (λ n l. c.in_err-only_number.ensures sig d n l) step h)
