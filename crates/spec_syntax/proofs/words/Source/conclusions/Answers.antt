use Rattle.std.proofs.Common.{[], ◌∷◌, None}
use Rattle.std.proofs.lemmas.Result.{err_from_is_err_and}
use Rattle.spec_grammar.specs.Items.{items_of}
use Rattle.spec_grammar.specs.Symbols.{bars, conclusions, sides_then}
use Rattle.spec_syntax.proofs.ClauseSteps.{conclusions_run, conclusions_read}
use Rattle.spec_syntax.proofs.Steps.{stop_at}
use Rattle.spec_syntax.proofs.words.Source.conclusions.Goals as goal

pub returns-in_err-first : goal.returns-in_err-first
returns-in_err-first c =
    let items = items_of c.args.self.now.bytes.now c.args.tokens.now in
    let p = err_from_is_err_and c.from_residual.result c.from_residual.ensures.1 in
    rw (p.1, p.2) (stop_at (conclusions ∷ []) (sides_then None []) (bars 1 ∷ []) items items
    c.in_err-first.field-0.0 (λ st. conclusions_run items st c.if-not-begins_word.ensures) c.in_err-first.ensures)

pub returns : goal.returns
returns c =
    let bytes = c.args.self.now.bytes.now in
    let h = c.in_ok-first.ensures in
    conclusions_read (λ x. x.0) (λ x. items_of bytes x.1.now) (items_of bytes c.args.tokens.now)
    (items_of bytes c.in_ok-first.rest.now) c.in_ok-first.first c.more_conclusions.result
    c.if-not-begins_word.ensures h.0 h.1 h.2 c.more_conclusions.ensures
