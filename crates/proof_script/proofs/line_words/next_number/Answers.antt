use Rattle.std.proofs.Common.{sym}
use Rattle.std.specs.Fmt.{decimal}
use Rattle.proof_script.specs.Words.{number}
use Rattle.proof_script.proofs.NextWords.{as_plain, same_plain}
use Rattle.proof_script.proofs.line_words.next_number.Goals as goal

pub returns-in_err-word : goal.returns-in_err-word
returns-in_err-word c = rw c.from_residual.ensures (λ sig n rest h. c.in_err-word.ensures (decimal n) rest
    (as_plain sig c.args.bytes.now (number n) rest tt h))

pub returns-in_err-read_number : goal.returns-in_err-read_number
returns-in_err-read_number c =
    let w = c.in_ok-word in
    rw c.from_residual-in_err-read_number.ensures
    (λ sig n rest h. c.in_err-read_number.ensures n
    (record {
      short = h.stands;
      is = sym (same_plain sig c.args.bytes.now w.word.now w.rest.now (number n)
          rest w.ensures tt h);
    }))
