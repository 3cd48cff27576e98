use Rattle.std.proofs.Common.{◌≡◌, ◌+◌, ℕ, [], ◌∷◌, ◌++◌, None, length, refl, ap, sym, ◌∙◌, arith}
use Rattle.std.proofs.lemmas.Result.{err_from_is_err_and}
use Rattle.std.proofs.lemmas.List.{length_push}
use Rattle.spec_grammar.specs.Derives.{clean}
use Rattle.spec_grammar.specs.Items.{items_of}
use Rattle.spec_grammar.specs.Limits.{constructor_mark}
use Rattle.spec_grammar.specs.Symbols.{name, names, sorts, run}
use Rattle.spec_syntax.specs.ReadingSorts.{begun_text, first_constructor}
use Rattle.spec_syntax.proofs.SortSteps.{begun_grows}
use Rattle.spec_grammar.proofs.KeepsLimits.{constructor_none}
use Rattle.spec_syntax.proofs.Steps.{stop_at}
use Rattle.spec_syntax.proofs.words.Source.constructors.Goals as goal

pub returns-in_err-first : goal.returns-in_err-first
returns-in_err-first c =
    let version = c.args.version in
    let t = c.args.total in
    let items = items_of c.args.self.now.bytes.now c.args.tokens.now in
    let p = err_from_is_err_and c.from_residual.result c.from_residual.ensures.1 in
    let h = rw c.constructor_over.ensures at c.in_err-first.ensures.reads in
    rw (p.1, p.2) (λ n. stop_at (first_constructor version n t)
    (name (constructor_mark version 0 t) ∷ names ∷ []) (sorts version n 1 (t + 1) ∷ []) items items
    c.in_err-first.field-0.0 (λ st. refl) h)

pub loop-made-init : goal.loop-made-init
loop-made-init c =
    let version = c.args.version in
    let t = c.args.total in
    let first = c.in_ok-first.first in
    let made : c.push.new.self ≡ first ∷ [] = c.in_ok-push.ensures.pushed
    ∙ ap (λ cs. cs ++ first ∷ []) c.new-made.ensures in
    let h = rw c.constructor_over.ensures at c.in_ok-first.ensures.reads in
    let free : constructor_mark version 0 t ≡ None = rw c.constructor_over.ensures at c.in_ok-first.ensures.within in
    let few = (constructor_none version 0 t free).1 in
    rw made (record {
      some = omega arith;
      few = omega (arith, few);
      text = h.0;
      same = λ n st. h.1 (sorts version n 1 (t + 1) ∷ st);
      less = h.2;
    })

pub loop-made-preserved : goal.loop-made-preserved
loop-made-preserved c =
    let version = c.args.version in
    let bytes = c.args.self.now.bytes.now in
    let t = c.args.total in
    let cs = c.loop-made.made in
    let k = length cs in
    let x = c.in-Some.constructor in
    let i = c.loop-made.invariant in
    let made : c.push-in-Some.new.self ≡ cs ++ x ∷ [] = c.in_ok-push-2.ensures.pushed in
    let o = rw c.in-Some.is at c.in_ok-constructor.ensures in
    let h = rw c.len.ensures at o in
    let after = items_of bytes c.in-Some.after.now in
    let total : t + k + 1 ≡ t + (k + 1) = omega arith in
    rw (made, length_push) (record {
      some = omega arith;
      few = omega (arith, h.3);
      text = i.text ∙ ap (begun_text version t cs) h.0 ∙ sym (begun_grows version t cs x (clean after) i.some);
      same = λ n st. i.same n st ∙ h.1 n st i.some ∙ ap (λ (j : ℕ). run (sorts version n (k + 1) j ∷ st) after) total;
      less = omega (arith, i.less, h.2);
    })

pub returns-in_err-constructor : goal.returns-in_err-constructor
returns-in_err-constructor c =
    let version = c.args.version in
    let bytes = c.args.self.now.bytes.now in
    let t = c.args.total in
    let k = length c.loop-made.made in
    let i = c.loop-made.invariant in
    let p = err_from_is_err_and c.from_residual-in_err-constructor.result
    c.from_residual-in_err-constructor.ensures.1 in
    let h = rw c.len.ensures at c.in_err-constructor.ensures in
    rw (p.1, p.2) (λ n. stop_at (first_constructor version n t) (sorts version n k (t + k) ∷ []) []
    (items_of bytes c.args.tokens.now) (items_of bytes c.loop-made.rest.now) c.in_err-constructor.field-0.0
    (λ st. i.same n st) (h n i.some))
