use Rattle.std.proofs.Common.{◌∙◌, ap₂}
use Rattle.clap.specs.Words.{with_rule}
use Rattle.show_words.proofs.arguments.open_app.Goals as goal

-- one argument after the other
pub returns : goal.returns
returns c =
    let file =
    c.in_ok-arg.ensures.shape c.word.ensures.local ∙ ap₂ with_rule c.new.ensures.app c.word.ensures.rule in
    let and_goal =
    c.in_ok-arg-2.ensures.shape c.option.ensures.local ∙ ap₂ with_rule file c.option.ensures.rule in
    let and_depth =
    c.in_ok-arg-3.ensures.shape c.number.ensures.local ∙ ap₂ with_rule and_goal c.number.ensures.rule in
    let and_tries =
    c.in_ok-arg-4.ensures.shape c.number-2.ensures.local
    ∙ ap₂ with_rule and_depth c.number-2.ensures.rule in
    let and_steps =
    c.in_ok-arg-5.ensures.shape c.number-3.ensures.local
    ∙ ap₂ with_rule and_tries c.number-3.ensures.rule in
    let and_plain =
    c.in_ok-arg-6.ensures.shape c.number-4.ensures.local
    ∙ ap₂ with_rule and_steps c.number-4.ensures.rule in
    c.in_ok-app.ensures.shape c.number-5.ensures.local ∙ ap₂ with_rule and_plain c.number-5.ensures.rule
