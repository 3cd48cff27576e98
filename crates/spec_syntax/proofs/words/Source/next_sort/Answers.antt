use Rattle.std.proofs.Common.{◌≡◌, ◌+◌, [], ◌∷◌, List, None, Option, length, refl, ap, sym, ◌∙◌, arith}
use Rattle.std.proofs.lemmas.Result.{err_from_is_err_and}
use Rattle.spec_grammar.specs.declared.keys.Key.TheVariants.{Sort}
use Rattle.spec_grammar.specs.declared.limits.LimitKind.{LimitKind}
use Rattle.spec_grammar.specs.Grammar.{Marked}
use Rattle.spec_grammar.specs.Derives.{clean}
use Rattle.spec_grammar.specs.Items.{Sign, items_of}
use Rattle.spec_grammar.specs.Limits.{sort_mark}
use Rattle.spec_grammar.specs.Symbols.{sorts}
use Rattle.spec_syntax.specs.ReadingSorts.{sort_symbols}
use Rattle.spec_syntax.proofs.SortSteps.{sort_takes}
use Rattle.spec_syntax.proofs.Steps.{stop_at, limit_stops}
use Rattle.spec_syntax.proofs.words.Source.next_sort.Goals as goal

pub returns-in_err-within : goal.returns-in_err-within
returns-in_err-within c =
    let version = c.args.version in
    let bytes = c.args.self.now.bytes.now in
    let n = c.args.n in
    let t = c.args.total in
    let items = items_of bytes c.args.tokens.now in
    let next = items_of bytes c.in-Some.next.now in
    let p = err_from_is_err_and c.from_residual.result c.from_residual.ensures.1 in
    let h = rw c.over.ensures at c.in_err-within.ensures in
    rw (p.1, p.2) (λ j. limit_stops (sorts version n j t) (Sign Sort) items next (sort_mark n) _
    c.in_err-within.field-0.0 c.in-Some.ensures refl h)

pub returns-in_err-sort : goal.returns-in_err-sort
returns-in_err-sort c =
    let version = c.args.version in
    let bytes = c.args.self.now.bytes.now in
    let n = c.args.n in
    let t = c.args.total in
    let items = items_of bytes c.args.tokens.now in
    let next = items_of bytes c.in-Some.next.now in
    let p = err_from_is_err_and c.from_residual-in_err-sort.result c.from_residual-in_err-sort.ensures.1 in
    let free : sort_mark n ≡ None = rw c.over.ensures at c.in_ok-within.ensures in
    rw (p.1, p.2) (λ j. stop_at (sorts version n j t ∷ []) (sort_symbols version (n + 1) t) [] items next
    c.in_err-sort.field-0.0 (λ st. sort_takes version n j t items next st c.in-Some.ensures free)
    (c.in_err-sort.ensures (n + 1)))

pub returns : goal.returns
returns c =
    let version = c.args.version in
    let bytes = c.args.self.now.bytes.now in
    let n = c.args.n in
    let t = c.args.total in
    let items = items_of bytes c.args.tokens.now in
    let next = items_of bytes c.in-Some.next.now in
    let e = c.in-Some.ensures in
    let h = c.in_ok-sort.ensures in
    let free : sort_mark n ≡ None = rw c.over.ensures at c.in_ok-within.ensures in (
      h.0,
      ap clean e ∙ ap (λ (m : Option LimitKind). (Sign Sort, m) ∷ clean next) (sym free)
          ∙ ap (λ (w : List Marked). (Sign Sort, sort_mark n) ∷ w) h.1,
      λ j st. sort_takes version n j t items next st e free ∙ h.2 (n + 1) st,
      omega (arith, ap length e, h.3),
      h.4,
      h.5,
    )
