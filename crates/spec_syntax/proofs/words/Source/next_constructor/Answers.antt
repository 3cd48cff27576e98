use Rattle.std.proofs.Common.{◌≡◌, ◌+◌, [], ◌∷◌, None, length, ap, ◌∙◌, arith}
use Rattle.std.proofs.lemmas.Result.{err_from_is_err_and}
use Rattle.spec_grammar.specs.Derives.{clean}
use Rattle.spec_grammar.specs.Grammar.{Marked, sign}
use Rattle.std.proofs.Common.{List}
use Rattle.spec_grammar.specs.declared.keys.Key.TheVariants.{Bar}
use Rattle.spec_grammar.specs.Items.{items_of}
use Rattle.spec_grammar.specs.Limits.{constructor_mark}
use Rattle.spec_grammar.specs.Symbols.{name, names, sorts}
use Rattle.spec_syntax.proofs.SortSteps.{bar_takes}
use Rattle.spec_grammar.proofs.KeepsLimits.{constructor_none}
use Rattle.spec_syntax.proofs.Steps.{stop_at}
use Rattle.spec_syntax.proofs.words.Source.next_constructor.Goals as goal

pub returns-in_err-constructor : goal.returns-in_err-constructor
returns-in_err-constructor c =
    let version = c.args.version in
    let bytes = c.args.self.now.bytes.now in
    let k = c.args.k in
    let t = c.args.total + k in
    let items = items_of bytes c.args.tokens.now in
    let next = items_of bytes c.in-Some.next.now in
    let p = err_from_is_err_and c.from_residual.result c.from_residual.ensures.1 in
    let h = rw c.constructor_over.ensures at c.in_err-constructor.ensures.reads in
    rw (p.1, p.2) (λ n some. stop_at (sorts version n k t ∷ [])
    (name (constructor_mark version k t) ∷ names ∷ []) (sorts version n (k + 1) (t + 1) ∷ []) items next
    c.in_err-constructor.field-0.0 (λ st. bar_takes version n k t items next st some c.in-Some.ensures) h)

pub returns : goal.returns
returns c =
    let version = c.args.version in
    let bytes = c.args.self.now.bytes.now in
    let k = c.args.k in
    let t = c.args.total + k in
    let items = items_of bytes c.args.tokens.now in
    let next = items_of bytes c.in-Some.next.now in
    let h = rw c.constructor_over.ensures at c.in_ok-constructor.ensures.reads in
    let free : constructor_mark version k t ≡ None = rw c.constructor_over.ensures
    at c.in_ok-constructor.ensures.within in (
      ap clean c.in-Some.ensures ∙ ap (λ (w : List Marked). sign Bar ∷ w) h.0,
      λ n st some. bar_takes version n k t items next st some c.in-Some.ensures
          ∙ h.1 (sorts version n (k + 1) (t + 1) ∷ st),
      omega (arith, ap length c.in-Some.ensures, h.2),
      (constructor_none version k t free).1,
    )
