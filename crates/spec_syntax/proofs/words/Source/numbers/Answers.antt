use Rattle.std.proofs.Common.{◌≡◌, ◌+◌, [], ◌∷◌, ◌++◌, length, refl, ap, ◌∙◌, arith}
use Rattle.std.proofs.lemmas.Result.{err_from_is_err_and}
use Rattle.std.proofs.lemmas.List.{length_push}
use Rattle.spec_grammar.specs.declared.keys.Key.TheVariants.{Comma}
use Rattle.spec_grammar.specs.Grammar.{sign, numeral_text}
use Rattle.spec_grammar.specs.Items.{items_of}
use Rattle.spec_grammar.specs.Limits.{arity_mark}
use Rattle.spec_grammar.specs.Symbols.{numeral, more_numbers}
use Rattle.spec_syntax.specs.ReadingOrders.{number_symbols}
use Rattle.spec_syntax.proofs.OrderSteps.{numbers_grow}
use Rattle.spec_syntax.proofs.Steps.{stop_at, at_next}
use Rattle.spec_syntax.proofs.words.Source.numbers.Goals as goal

pub returns-in_err-first : goal.returns-in_err-first
returns-in_err-first c =
    let items = items_of c.args.self.now.bytes.now c.args.tokens.now in
    let p = err_from_is_err_and c.from_residual.result c.from_residual.ensures.1 in
    let h = rw c.over.ensures at c.in_err-first.ensures in
    rw (p.1, p.2) (stop_at number_symbols (numeral (arity_mark 0) ∷ []) (more_numbers 1 ∷ []) items items
    c.in_err-first.field-0.0 (λ st. refl) h)

pub loop-made-init : goal.loop-made-init
loop-made-init c =
    let first = c.in_ok-first.first in
    let made : c.push.new.self ≡ first ∷ [] =
    c.in_ok-push.ensures.pushed ∙ ap (λ xs. xs ++ first ∷ []) c.new-made.ensures in
    let h = rw c.over.ensures at c.in_ok-first.ensures in
    rw made (record {
      some = omega arith;
      reads = record { same = λ st. h.1 (more_numbers 1 ∷ st); text = h.0; less = h.2 };
    })

pub loop-made-preserved : goal.loop-made-preserved
loop-made-preserved c =
    let xs = c.loop-made.made in
    let n = length xs in
    let x = c.in-Some.number in
    let i = c.loop-made.invariant in
    let made : c.push-in-Some.new.self ≡ xs ++ x ∷ [] = c.in_ok-push-2.ensures.pushed in
    let o = rw c.in-Some.is at c.in_ok-number.ensures in
    let h = rw c.len.ensures at o in
    rw (made, length_push) (record {
      some = omega arith;
      reads = at_next (more_numbers n) (more_numbers (n + 1)) []
          (λ v. sign Comma ∷ numeral_text (arity_mark n) x v) _ i.reads h.0 h.1 h.2
          (λ v. numbers_grow xs x v i.some);
    })
