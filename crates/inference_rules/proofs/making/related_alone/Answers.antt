use Rattle.std.proofs.Common.{◌≡◌, List, [], ◌∷◌, ◌++◌, Option, inl, inr, refl, ap, ◌∙◌, subst, arith}
use Rattle.std.specs.Prelude.{Ok}
use Rattle.clause_core.specs.declared.clauses.Clause.{Clause}
use Rattle.clause_core.specs.declared.answers.Child.{Child}
use Rattle.clause_core.specs.declared.answers.Children.{Children}
use Rattle.clause_core.specs.Tidied.{tidied, IsTidiedWithin}
use Rattle.inference_rules.proofs.making.related_alone.Goals as goal

pub returns-in_default : goal.returns-in_default
returns-in_default c = λ d.
    let past = subst (λ (o : Option Clause). IsTidiedWithin c.args.clause o) c.in_default.is c.in_ok-clause.ensures in
    let made : Children = record {
      clauses = record {
        clause = tidied c.args.clause;
        relation = c.args.relation;
      } ∷ [];
      refs = [];
    } in
    (made, ((refl, refl), tt), tt, inr (λ w. past w.0.0, refl))

pub returns : goal.returns
returns c = λ d.
    let within = subst (λ (o : Option Clause). IsTidiedWithin c.args.clause o) c.in-Some.is c.in_ok-clause.ensures in
    let one : Child = record { clause = c.in-Some.clause; relation = c.args.relation } in
    let clauses : c.push.new.self ≡ one ∷ [] = c.in_ok-push.ensures.pushed
    ∙ ap (λ (ds : List Child). ds ++ one ∷ []) c.new-clauses.ensures in
    let made : Children = record { clauses = one ∷ []; refs = [] } in (
      made,
      ((within.0, refl), tt),
      tt,
      inl (((within.1, tt), omega arith), λ i. Ok (record { clauses = clauses i; refs = c.new.ensures i })),
    )
