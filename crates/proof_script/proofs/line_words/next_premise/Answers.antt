use Rattle.std.proofs.Common.{Bool, false, subst}
use Rattle.proof_script.specs.Words.{equation}
use Rattle.proof_script.specs.LineWords.{IsWordAt}
use Rattle.proof_script.proofs.NextWords.{other_kind}
use Rattle.proof_script.proofs.line_words.next_premise.Goals as goal

pub returns-in_err-conclusion : goal.returns-in_err-conclusion
returns-in_err-conclusion c = rw c.from_residual.ensures (λ sig n rest h. c.in_err-conclusion.ensures sig false
    n rest h)

pub returns-then-conclusion : goal.returns-then-conclusion
returns-then-conclusion c =
    let w = c.in_ok-conclusion in
    λ sig n rest h. other_kind sig c.args.bytes.now w.number w.rest.now n rest
    (subst (λ (b : Bool). IsWordAt sig c.args.bytes.now (equation b w.number) w.rest.now)
    c.if-conclusion.true (w.ensures sig)) h

pub returns-else-conclusion : goal.returns-else-conclusion
returns-else-conclusion c =
    let w = c.in_ok-conclusion in
    λ sig. subst (λ (b : Bool). IsWordAt sig c.args.bytes.now (equation b w.number) w.rest.now)
    c.if-conclusion.false (w.ensures sig)
