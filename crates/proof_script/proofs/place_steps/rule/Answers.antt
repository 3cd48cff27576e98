use Rattle.std.proofs.Common.{refl}
use Rattle.proof_script.proofs.StepsByName.{no_rule}
use Rattle.proof_script.proofs.place_steps.rule.Goals as goal

pub returns-in-Some : goal.returns-in-Some
returns-in-Some c = λ sig. record { named = refl; stand = (rw c.in-Some.is at c.in_ok-place.ensures) sig }

pub returns-in-None : goal.returns-in-None
returns-in-None c = λ sig q step h. no_rule sig c.args.words.now
    ((rw c.in-None.is at c.in_ok-place.ensures) sig q) step h
