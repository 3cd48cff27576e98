use Rattle.std.specs.List.{AllZip}
use Rattle.std.proofs.Common.{◌≡◌, List, map, refl, sym, ◌∙◌, subst}
use Rattle.std.proofs.lemmas.Iterator.Adapters.{YieldsList-from_vec}
use Rattle.std.proofs.lemmas.Iterator.Consumers.{YieldsList-end}
use Rattle.std.proofs.lemmas.List.{map-id}
use Rattle.clause_core.specs.declared.clauses.Clause.{Clause}
use Rattle.clause_core.specs.declared.answers.Child.{Child}
use Rattle.clause_core.specs.Rows.{child}
use Rattle.clause_core.specs.Says.{IsChild}
use Rattle.inference_rules.proofs.Ends.{child_more}
use Rattle.inference_rules.proofs.making.tidied_all.Goals as goal

pub loop-clause-preserved : goal.loop-clause-preserved
loop-clause-preserved c = λ d. child_more (λ t s. ⊥) d c.args.relation c.loop-clause.yielded c.in-Some.clause
    c.loop-clause.made.items _ _ (c.loop-clause.invariant d) c.in_ok-clause.ensures refl c.in_ok-push.ensures.items

pub returns : goal.returns
returns c = λ d.
    let g = c.into_iter-clause-iterator.ensures.into_iter_gives in
    let t = YieldsList-end (YieldsList-from_vec c.args.clauses.items g.0 (g.1 ∙ c.args.clauses.ok.0))
    c.loop-clause.yielded c.loop-clause.clause-iterator c.loop-clause.yielded_by c.next.result
    c.next.new.self c.in-None.is c.next.ensures.steps in
    let all : c.loop-clause.yielded ≡ c.args.clauses.items = sym (map-id c.loop-clause.yielded) ∙ t.0 in
    subst (λ (xs : List Child). AllZip (IsChild (λ t s. ⊥) d) (map (child c.args.relation) c.args.clauses.items)
    xs) (sym c.from_vec.ensures)
    (subst (λ (ds : List Clause). AllZip (IsChild (λ t s. ⊥) d) (map (child c.args.relation) ds)
    c.loop-clause.made.items) all (c.loop-clause.invariant d))
