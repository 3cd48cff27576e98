use Rattle.std.proofs.Common.{◌≡◌, [], ◌∷◌, ◌++◌, None, refl, ap, ◌∙◌, arith}
use Rattle.std.proofs.lemmas.Result.{err_from_is_err_and}
use Rattle.std.proofs.lemmas.List.{length_push}
use Rattle.spec_grammar.specs.declared.keys.Key.TheVariants.{Colon, Comma}
use Rattle.spec_grammar.specs.Derives.{clean}
use Rattle.spec_grammar.specs.Grammar.{sign, weight_text}
use Rattle.spec_grammar.specs.Items.{Sign, items_of}
use Rattle.spec_grammar.specs.Symbols.{weights, more_weights, weight_then}
use Rattle.spec_syntax.specs.Reading.{IsPassedOver}
use Rattle.spec_syntax.proofs.OrderSteps.{opened_weights_grow, opened_weights_are}
use Rattle.spec_syntax.proofs.Steps.{stop_then, at_then, at_take, at_next}
use Rattle.spec_syntax.proofs.words.Source.weights.Goals as goal

pub returns-in_err-first : goal.returns-in_err-first
returns-in_err-first c =
    let bytes = c.args.self.now.bytes.now in
    let items = items_of bytes c.args.tokens.now in
    let next = items_of bytes c.in-Some.next.now in
    let p = err_from_is_err_and c.from_residual.result c.from_residual.ensures.1 in
    let taken = at_take weights (Sign Colon) items next None _ c.in-Some.ensures refl refl in
    rw (p.1, p.2) (stop_then (weight_then []) (more_weights ∷ []) c.in_err-first.field-0.0 taken c.in_err-first.ensures)

pub loop-made-init : goal.loop-made-init
loop-made-init c =
    let bytes = c.args.self.now.bytes.now in
    let items = items_of bytes c.args.tokens.now in
    let next = items_of bytes c.in-Some.next.now in
    let first = c.in_ok-first.first in
    let made : c.push.new.self ≡ first ∷ [] =
    c.in_ok-push.ensures.pushed ∙ ap (λ xs. xs ++ first ∷ []) c.new-made.ensures in
    let h = c.in_ok-first.ensures in
    let taken = at_take weights (Sign Colon) items next None _ c.in-Some.ensures refl refl in
    rw made (record {
      some = omega arith;
      reads = at_then {left = []} (weight_then []) (more_weights ∷ []) taken
          (record { same = h.1; text = h.0; less = h.2 });
    })

pub loop-made-preserved : goal.loop-made-preserved
loop-made-preserved c =
    let xs = c.loop-made.made in
    let x = c.in-Some-2.weight in
    let i = c.loop-made.invariant in
    let made : c.push-in-Some-2.new.self ≡ xs ++ x ∷ [] = c.in_ok-push-2.ensures.pushed in
    let h = rw c.in-Some-2.is at c.in_ok-weight.ensures in
    rw (made, length_push) (record {
      some = omega arith;
      reads = at_next more_weights more_weights [] (λ v. sign Comma ∷ weight_text x v) _ i.reads h.0 h.1 h.2
          (λ v. opened_weights_grow xs x v i.some);
    })

pub returns : goal.returns
returns c =
    let bytes = c.args.self.now.bytes.now in
    let rest = items_of bytes c.loop-made.rest.now in
    let i = c.loop-made.invariant in
    let passed : IsPassedOver more_weights rest = rw c.in_default-2.is at c.in_ok-weight.ensures in (
      i.reads.text ∙ opened_weights_are c.loop-made.made (clean rest) i.some,
      λ st. i.reads.same st ∙ passed st,
      i.reads.less,
    )
