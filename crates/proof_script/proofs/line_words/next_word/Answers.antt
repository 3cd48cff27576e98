use Rattle.std.proofs.Common.{sym, ◌∙◌}
use Rattle.proof_script.proofs.Runs.{true_false}
use Rattle.proof_script.proofs.NextWords.{not_plain}
use Rattle.proof_script.proofs.line_words.next_word.Goals as goal

pub returns-else-ends : goal.returns-else-ends
returns-else-ends c =
    not_plain c.args.bytes.now c.in_ok-after.field-0.now c.split_word.result.0.now c.split_word.result.1.now
    c.in_ok-after.ensures c.split_word.ensures
    (λ e. true_false (sym (c.ends.ensures.1 e) ∙ c.if-ends.false))
