use Rattle.std.proofs.Common.{sym, ◌∙◌, subst}
use Rattle.std.proofs.lemmas.Option.{IfSome_then}
use Rattle.term_core.proofs.Items.{if_ok_map}
use Rattle.spec_core.specs.Sorts.{IsValue}
use Rattle.sample_values.specs.Evaluators.{Evaluated}
use Rattle.sample_values.proofs.Keeping.{value_there}
use Rattle.sample_values.proofs.pool.ValuePool.term.Goals as goal

pub term-requires : goal.term-requires
term-requires c =
    let v = c.self.invariant.known c.args.value.0 c.in-Some.known (sym c.get.ensures ∙ c.in-Some.is) in
    (v.0, v.1)

pub returns-in-Some : goal.returns-in-Some
returns-in-Some c =
    let known = c.in-Some.known in
    let v = c.self.invariant.known c.args.value.0 known (sym c.get.ensures ∙ c.in-Some.is) in
    if_ok_map c.term.result _ _ (λ r h. IfSome_then r h (λ t there. (
      known.sort,
      subst (λ (e : Evaluated). IsValue e.spec.sig known.sort t) c.self.view_is
          (value_there c.self.inside.evaluator known.place known.sort t v there),
    ))) c.term.ensures
