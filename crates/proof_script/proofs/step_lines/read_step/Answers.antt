use Rattle.proof_script.specs.Verbs.{verb_text}
use Rattle.proof_script.proofs.StepLines.{step_behind, line_by_words, no_line_by_words}
use Rattle.proof_script.proofs.step_lines.read_step.Goals as goal

pub returns-in-Some-2-clause-ok : goal.returns-in-Some-2-clause-ok
returns-in-Some-2-clause-ok c =
    let found = rw c.in-Some-2.is at c.in_ok-step.ensures in
    line_by_words c.args.sig.now c.args.line.now c.split_word.result.0.now c.split_word.result.1.now
    c.split_word.ensures (verb_text c.in-Some.verb) c.in-Some.ensures c.in-Some-2.step found

pub returns-in-None-clause-no_step : goal.returns-in-None-clause-no_step
returns-in-None-clause-no_step c =
    let none = rw c.in-None.is at c.in_ok-step.ensures in
    λ _. no_line_by_words c.args.sig.now c.args.line.now c.split_word.result.0.now c.split_word.result.1.now
    c.split_word.ensures (verb_text c.in-Some.verb) c.in-Some.ensures none

pub returns-in_default-clause-no_step : goal.returns-in_default-clause-no_step
returns-in_default-clause-no_step c =
    λ _ step h. c.in_default.ensures step
    (step_behind c.args.sig.now c.args.line.now c.split_word.result.0.now c.split_word.result.1.now
    c.split_word.ensures step h).named
