use Rattle.std.proofs.Common.{◌++◌, codes, sym, ◌∙◌}
use Rattle.std.specs.Fmt.{decimal}
use Rattle.proof_script.specs.Words.{variable}
use Rattle.proof_script.proofs.Lists.{same_tail}
use Rattle.proof_script.proofs.NextWords.{as_plain, same_plain}
use Rattle.proof_script.proofs.line_words.next_variable.Goals as goal

pub returns-in_err-word : goal.returns-in_err-word
returns-in_err-word c = rw c.from_residual.ensures
    (λ sig n rest h. c.in_err-word.ensures (codes "?" ++ decimal n) rest
    (as_plain sig c.args.bytes.now (variable n) rest tt h))

pub returns-in_err-digits : goal.returns-in_err-digits
returns-in_err-digits c =
    let w = c.in_ok-word in
    rw c.from_residual-in_err-digits.ensures
    (λ sig n rest h. c.in_err-digits.ensures (decimal n)
    (same_plain sig c.args.bytes.now w.word.now w.rest.now (variable n) rest w.ensures tt h))

pub returns-in_err-read_number : goal.returns-in_err-read_number
returns-in_err-read_number c =
    let w = c.in_ok-word in
    rw c.from_residual-in_err-read_number.ensures
    (λ sig n rest h. c.in_err-read_number.ensures n
    (record {
      short = h.stands;
      is = sym
          (same_tail (sym c.in_ok-digits.ensures ∙ same_plain sig c.args.bytes.now w.word.now w.rest.now
          (variable n) rest w.ensures tt h));
    }))
