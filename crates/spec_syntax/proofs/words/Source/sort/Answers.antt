use Rattle.std.proofs.Common.{[], ◌∷◌, ◌++◌, ◌∙◌}
use Rattle.std.proofs.lemmas.Result.{err_from_is_err_and}
use Rattle.spec_grammar.specs.declared.keys.Key.TheVariants.{Equals}
use Rattle.spec_grammar.specs.Items.{items_of}
use Rattle.spec_grammar.specs.Symbols.{key}
use Rattle.spec_syntax.specs.ReadingSorts.{first_constructor, sort_symbols}
use Rattle.spec_syntax.proofs.Steps.{stop_at}
use Rattle.spec_syntax.proofs.words.Source.sort.Goals as goal

pub returns-in_err-constructors : goal.returns-in_err-constructors
returns-in_err-constructors c =
    let version = c.args.version in
    let bytes = c.args.self.now.bytes.now in
    let t = c.args.total in
    let p = err_from_is_err_and c.from_residual-in_err-constructors.result
    c.from_residual-in_err-constructors.ensures.1 in
    let name = c.in_ok-head.ensures.reads in
    let equals = c.in_ok-rest.ensures in
    rw (p.1, p.2) (λ n. stop_at (sort_symbols version n t) (first_constructor version n t) []
    (items_of bytes c.args.tokens.now) (items_of bytes c.in_ok-rest.rest.now)
    c.in_err-constructors.field-0.0 (λ st. name.1 (key Equals ∷ (first_constructor version n t ++ st))
    ∙ equals.1 (first_constructor version n t ++ st)) (c.in_err-constructors.ensures n))
