use Rattle.std.proofs.Common.{◌∙◌, ap₂}
use Rattle.clap.specs.Words.{with_rule}
use Rattle.explore_words.proofs.arguments.app.Goals as goal

-- one argument after the other
pub returns : goal.returns
returns c =
    let file =
    c.in_ok-arg.ensures.shape c.word.ensures.local ∙ ap₂ with_rule c.new.ensures.app c.word.ensures.rule in
    let and_goal =
    c.in_ok-arg-2.ensures.shape c.option.ensures.local ∙ ap₂ with_rule file c.option.ensures.rule in
    let and_work =
    c.in_ok-arg-3.ensures.shape c.number.ensures.local ∙ ap₂ with_rule and_goal c.number.ensures.rule in
    let and_size =
    c.in_ok-arg-4.ensures.shape c.number-2.ensures.local
    ∙ ap₂ with_rule and_work c.number-2.ensures.rule in
    let and_samples =
    c.in_ok-arg-5.ensures.shape c.number-3.ensures.local
    ∙ ap₂ with_rule and_size c.number-3.ensures.rule in
    let and_no_lemmas =
    c.in_ok-arg-6.ensures.shape c.flag.ensures.local ∙ ap₂ with_rule and_samples c.flag.ensures.rule in
    c.in_ok-app.ensures.shape c.flag-2.ensures.local ∙ ap₂ with_rule and_no_lemmas c.flag-2.ensures.rule
