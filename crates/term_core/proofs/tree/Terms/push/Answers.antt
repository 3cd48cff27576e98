use Rattle.std.proofs.Common.{◌≡◌, List, [], ◌∷◌, ◌++◌, ap, sym, ◌∙◌, rules}
use Rattle.term_core.specs.Tree.{Tree, trees_of}
use Rattle.term_core.specs.Measures.{measures_of, measure_of, followed}
use Rattle.term_core.specs.declared.measures.Measure.{Measure}
use Rattle.term_core.specs.declared.tree.Measured.{Measured}
use Rattle.term_core.proofs.Measured.{measures-append}
use Rattle.term_core.proofs.tree.Terms.push.Goals as goal

-- the measure of the terms with one more
measured :
    (old new : List Tree) (t : Tree) (m n k : Measure) → m ≡ measures_of (trees_of old) →
    n ≡ measure_of t → k ≡ followed m n → new ≡ old ++ t ∷ [] → k ≡ measures_of (trees_of new)
measured old new t m n k p q r e =
    r ∙ ap (λ (x : Measure). followed x n) p ∙ ap (followed (measures_of (trees_of old))) q
    ∙ sym (measures-append old t) ∙ ap (λ ts. measures_of (trees_of ts)) (sym e)

pub invariant_of-self-in-Some-get_mut : goal.invariant_of-self-in-Some-get_mut
invariant_of-self-in-Some-get_mut c =
    measured c.args.self.now c.push.new.self.items c.args.term c.measure.result c.measure-own.result
    c.and-measure.result c.measure.ensures c.measure-own.ensures c.and-measure.ensures (search rules)

pub invariant_of-self-3 : goal.invariant_of-self-3
invariant_of-self-3 c =
    let kept : c.in_ok-new.field-0.value.measure ≡ c.and-measure.result =
    ap (λ (m : Measured). m.measure) c.in_ok-new.ensures.ok in
    let items : c.in_ok-new.field-0.value.items.items ≡ c.push-2.new.self.items =
    ap (λ (m : Measured). m.items.items) c.in_ok-new.ensures.ok in
    kept
    ∙ measured c.args.self.now c.in_ok-new.field-0.value.items.items c.args.term c.measure.result
    c.measure-own.result c.and-measure.result c.measure.ensures c.measure-own.ensures
    c.and-measure.ensures (search rules)
