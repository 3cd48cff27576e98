use Rattle.std.proofs.Common.{◌≡◌, ap, sym, ◌∙◌, List, ℕ, map}
use Rattle.std.proofs.lemmas.Iterator.Adapters.{YieldsList-from_vec}
use Rattle.std.proofs.lemmas.Iterator.Consumers.{YieldsList-end}
use Rattle.std.proofs.lemmas.List.{map-id}
use Rattle.term_core.specs.Tree.{trees_of}
use Rattle.term_core.specs.Variables.{occurrences, occurrences_all}
use Rattle.term_core.specs.Gathered.{gathered}
use Rattle.spec_core.specs.declared.records.Equation.{Equation}
use Rattle.clause_core.specs.Clauses.{sides_of}
use Rattle.clause_core.specs.Tidied.{renumbered_equation}
use Rattle.clause_core.proofs.RenumberedEquations.{equations_next, gathered_next}
use Rattle.clause_core.proofs.tidying.renumber_equations.Goals as goal

pub loop-equation-preserved : goal.loop-equation-preserved
loop-equation-preserved c =
    let e = c.in-Some.equation in
    let es = c.loop-equation.yielded in
    let left = c.in_ok-left.ensures.olds in
    let right = c.in_ok-right.ensures.olds in
    let old = c.loop-equation.invariant.met in
    record {
      met = right ∙ ap (λ (os : List ℕ). gathered os (occurrences e.right))
          (left ∙ ap (λ (os : List ℕ). gathered os (occurrences e.left)) old)
          ∙ sym (gathered_next c.args.olds.now.items es e);
      renumbered = equations_next c.args.olds.now.items es e c.loop-equation.olds.items
          c.renumber.new.olds.items c.renumber-in-loop-equation.new.olds.items c.loop-equation.made.items
          c.push.new.self.items c.in_ok-left.left c.in_ok-right.right old left right
          c.loop-equation.invariant.renumbered c.in_ok-left.ensures.made c.in_ok-right.ensures.made
          c.in_ok-push.ensures.items;
    }

pub returns : goal.returns
returns c =
    let given : c.into_vec-items.result.items ≡ c.args.equations = c.into_vec-items.ensures in
    let g = c.into_iter-equation-iterator.ensures.into_iter_gives in
    let t = YieldsList-end (YieldsList-from_vec c.into_vec-items.result.items g.0
    (g.1 ∙ c.into_vec-items.result.ok.0)) c.loop-equation.yielded c.loop-equation.equation-iterator
    c.loop-equation.yielded_by c.next.result c.next.new.self c.in-None.is c.next.ensures.steps in
    let all : c.loop-equation.yielded ≡ c.args.equations = sym (map-id c.loop-equation.yielded) ∙ t.0 ∙ given in
    record {
      olds = c.loop-equation.invariant.met
          ∙ ap (λ (es : List Equation). gathered c.args.olds.now.items (occurrences_all (trees_of (sides_of es)))) all;
      made = c.from_vec.ensures ∙ c.loop-equation.invariant.renumbered
          ∙ ap (λ (es : List Equation). map (renumbered_equation c.loop-equation.olds.items) es) all;
    }
