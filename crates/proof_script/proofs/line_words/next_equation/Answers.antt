use Rattle.proof_script.specs.Words.{equation, equation_text}
use Rattle.proof_script.proofs.NextWords.{as_plain, same_plain}
use Rattle.proof_script.proofs.line_words.next_equation.Goals as goal

pub returns-in_err-word : goal.returns-in_err-word
returns-in_err-word c = rw c.from_residual.ensures (λ sig b n rest h. c.in_err-word.ensures (equation_text b n)
    rest (as_plain sig c.args.bytes.now (equation b n) rest tt h))

pub returns-in_err-conclusion : goal.returns-in_err-conclusion
returns-in_err-conclusion c =
    let w = c.in_ok-word in
    rw c.from_residual-in_err-conclusion.ensures
    (λ sig b n rest h. c.in_err-conclusion.ensures b n
    (record {
      between = h.stands;
      is = same_plain sig c.args.bytes.now w.word.now w.rest.now (equation b n)
          rest w.ensures tt h;
    }))
