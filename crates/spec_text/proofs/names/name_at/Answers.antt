use Rattle.std.proofs.Common.{◌≡◌, ◌<◌, ap, sym, subst, ◌∙◌}
use Rattle.std.proofs.Common.{drop, ℕ}
use Rattle.std.specs.Str.{chars}
use Rattle.spec_text.specs.Names.{LongestName}
use Rattle.spec_text.specs.Scanner.{name_of}
use Rattle.spec_text.proofs.NameLemmas.{longest_name, no_name}
use Rattle.spec_text.proofs.names.name_at.Goals as goal

pub returns-clause-none : goal.returns-clause-none
returns-clause-none c e =
    let cs = chars (drop c.args.at c.args.text.now) in
    let same : c.name_len.result ≡ name_of cs = c.name_len.ensures.value
    ∙ ap (λ bs. name_of (chars bs)) c.range_from.ensures.value in
    no_name cs (sym same ∙ e)

pub returns-clause-longest : goal.returns-clause-longest
returns-clause-longest c lt =
    let cs = chars (drop c.args.at c.args.text.now) in
    let same : c.name_len.result ≡ name_of cs = c.name_len.ensures.value
    ∙ ap (λ bs. name_of (chars bs)) c.range_from.ensures.value in
    subst (λ (n : ℕ). LongestName cs n) (sym same) (longest_name cs (subst (λ (n : ℕ). 0 < n) same lt))
