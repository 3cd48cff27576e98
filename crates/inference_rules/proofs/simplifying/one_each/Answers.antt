use Rattle.std.proofs.Common.{◌≡◌, ℕ, List, [], ◌∷◌, ◌++◌, true, map, ap, sym, ◌∙◌}
use Rattle.std.proofs.lemmas.Iterator.Adapters.{YieldsList-from_vec}
use Rattle.std.proofs.lemmas.Iterator.Consumers.{YieldsList-end}
use Rattle.std.proofs.lemmas.List.{map-append, map-id}
use Rattle.spec_core.specs.declared.records.Equation.{Equation}
use Rattle.clause_core.specs.declared.clauses.Clause.{Clause}
use Rattle.clause_core.specs.NumberedEquations.{EquationAt, equations, exchanged}
use Rattle.inference_rules.proofs.simplifying.one_each.Goals as goal

module _ (c : Clause) {number : ℕ} (at : EquationAt (equations true c) number) where
  abbrev alone : Equation → Clause
  alone e = exchanged true c at (e ∷ [])

  one_more : (es : List Equation) (e : Equation) (made news : List Clause) (parts : List Equation)
      (d : Clause) → made ≡ map alone es → parts ≡ [] ++ e ∷ [] → d ≡ exchanged true c at parts →
      news ≡ made ++ d ∷ [] → news ≡ map alone (es ++ e ∷ [])
  one_more es e made news parts d m p x n = n ∙ (λ i. m i ++ (x ∙ ap (λ ps. exchanged true c at ps) p) i ∷ [])
      ∙ sym (map-append alone es (e ∷ []))

pub loop-part-preserved : goal.loop-part-preserved
loop-part-preserved c = λ at. one_more c.args.clause.now at c.loop-part.yielded c.in-Some.part _ _ _ _
    (c.loop-part.invariant at) (c.in_ok-push.ensures.items
    ∙ ap (λ es. es ++ c.in-Some.part ∷ []) c.new-alone.ensures.items) (c.in_ok-exchanged.ensures at)
    c.in_ok-push-2.ensures.items

pub returns : goal.returns
returns c = λ at.
    let g = c.into_iter-part-iterator.ensures.into_iter_gives in
    let t = YieldsList-end (YieldsList-from_vec c.args.parts.items g.0 (g.1 ∙ c.args.parts.ok.0))
    c.loop-part.yielded c.loop-part.part-iterator c.loop-part.yielded_by c.next.result c.next.new.self
    c.in-None.is c.next.ensures.steps in
    c.loop-part.invariant at ∙ ap (λ es. map (alone c.args.clause.now at) es) (sym (map-id c.loop-part.yielded) ∙ t.0)
