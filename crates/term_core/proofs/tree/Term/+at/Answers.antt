use Rattle.std.proofs.Common.{◌≡◌, ap, sym, ◌∙◌, MatchOption, Some, None}
use Rattle.term_core.specs.View.{tree_of}
use Rattle.term_core.specs.Tree.{app, trees_of}
use Rattle.term_core.specs.Places.{HasNoPlace, IsAt}
use Rattle.term_core.proofs.Paths.{argument_of, no_place_without, no_place_below, at_argument, of_application}
use Rattle.term_core.proofs.tree.Term.+at.Goals as goal

pub returns-in_default-numbered : goal.returns-in_default-numbered
returns-in_default-numbered t c =
    of_application (λ path u. HasNoPlace path u) _ _ c.in-Some.number.now c.in-App.field-0.0
    (trees_of c.in-App.args) _ c.in-Some.ensures (ap tree_of (sym c.in-App.is) ∙ c.self.view_is)
    (no_place_without c.in-App.field-0.0 _ _ _ c.in_default-numbered.ensures)

pub returns : goal.returns
returns t c =
    let term : app c.in-App.field-0.0 (trees_of c.in-App.args) ≡ c.args.self.now = ap tree_of (sym c.in-App.is)
    ∙ c.self.view_is in
    let argument = argument_of c.in-App.args _ c.in-Some.number.now c.in-Some-numbered.argument.now
    c.in-Some-numbered.ensures.0 c.in-Some-numbered.ensures.1 in
    elim c.at.result as (λ r. MatchOption r (HasNoPlace c.in-Some.rest.now c.in-Some-numbered.argument.now)
    (λ s. IsAt c.in-Some.rest.now c.in-Some-numbered.argument.now s.now) →
    MatchOption r (HasNoPlace c.args.path.now c.args.self.now) (λ s. IsAt c.args.path.now c.args.self.now s.now)) [
      | None ↦ λ none. of_application (λ path u. HasNoPlace path u) _ _ c.in-Some.number.now c.in-App.field-0.0
          (trees_of c.in-App.args) _ c.in-Some.ensures term (no_place_below c.in-App.field-0.0 _ _ _ _ argument none)
      | Some s ↦ λ found. of_application (λ path u. IsAt path u s.now) _ _ c.in-Some.number.now
          c.in-App.field-0.0 (trees_of c.in-App.args) _ c.in-Some.ensures term
          (at_argument c.in-App.field-0.0 _ _ _ _ _ argument found)
    ] c.at.ensures
