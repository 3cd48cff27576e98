use Rattle.std.proofs.Common.{◌≡◌, List, [], ◌∷◌, ◌++◌, true, false, ap, sym, ◌∙◌}
use Rattle.clause_core.specs.declared.clauses.Clause.{Clause}
use Rattle.clause_core.specs.declared.answers.Child.{Child}
use Rattle.clause_core.specs.Places.{holding}
use Rattle.clause_core.specs.Tidied.{tidied}
use Rattle.clause_core.proofs.OnePlace.{term_one}
use Rattle.inference_rules.proofs.HeldChildren.{past_limits, child_held}
use Rattle.inference_rules.proofs.TestableSides.{place_testable}
use Rattle.inference_rules.proofs.making.child_holding.Goals as goal

pub relation_at-relation-requires-clause-old : goal.relation_at-relation-requires-clause-old
relation_at-relation-requires-clause-old g c =
    place_testable c.args.here.now c.args.old.now.place.now c.requires.there.0 c.args.old.now.term.now c.requires.there.1 c.requires.here

pub returns-then-not-within_at : goal.returns-then-not-within_at
returns-then-not-within_at g c = λ at referred are.
    let is = (term_one c.args.here.now c.args.old.now.place.now at c.requires.there.0).0 ∙ c.requires.there.1 in
    past_limits (g.O.TermOrder.above c.args.order.now) c.args.here.now (holding at c.args.new)
    c.relation_at-relation.result
    (c.relation_at-relation.ensures c.args.here.now c.args.old.now.place.now at is) referred c.args.refs are
    (λ w. let k : c.within_at.result ≡ true = (c.within_at.ensures at).1 w in
    let r : false ≡ true = sym c.if-not-within_at.true ∙ k in cc)

pub returns : goal.returns
returns g c = λ at referred are.
    let is = (term_one c.args.here.now c.args.old.now.place.now at c.requires.there.0).0 ∙ c.requires.there.1 in
    let relation = c.relation_at-relation.result in
    let child : c.in_ok-clause.clause ≡ tidied (holding at c.args.new) = c.in_ok-clause.ensures
    ∙ ap tidied (c.in_ok-child.ensures at) in
    let item : Child = record { clause = c.in_ok-clause.clause; relation = relation } in
    let clauses : c.push.new.self ≡ record { clause = tidied (holding at c.args.new); relation = relation } ∷ [] =
    c.in_ok-push.ensures.pushed ∙ ap (λ (ds : List Child). ds ++ item ∷ []) c.new-clauses.ensures
    ∙ ap (λ (d : Clause). record { clause = d; relation = relation } ∷ []) child in
    child_held (g.O.TermOrder.above c.args.order.now) c.args.here.now (holding at c.args.new) relation
    (c.relation_at-relation.ensures c.args.here.now c.args.old.now.place.now at is) referred c.args.refs are
    ((c.within_at.ensures at).0 c.if-not-within_at.false) _ (λ i. record { clauses = clauses i; refs = c.args.refs })
