use Rattle.std.proofs.Common.{List, sym, subst}
use Rattle.std.specs.List.{AllByRecursion}
use Rattle.spec_core.specs.declared.records.Equation.{Equation}
use Rattle.clause_core.specs.Clauses.{sides_of}
use Rattle.clause_places.specs.Numbers.{IsNarrow}
use Rattle.clause_places.proofs.WalkedPlaces.{narrow_parts, found_in_premises, found_in_conclusions}
use Rattle.clause_places.proofs.spots.Spots.place.Goals as goal

pub place_in_equations-requires-in-Left-clause-narrow :
    goal.place_in_equations-requires-in-Left-clause-narrow
place_in_equations-requires-in-Left-clause-narrow c =
    let clause = c.self.inside.clause.now in
    let parts =
    narrow_parts (sides_of clause.premises) (sides_of clause.conclusions)
    c.self.invariant.fit.arguments in
    subst (λ (es : List Equation). AllByRecursion IsNarrow (sides_of es))
    (sym c.as_slice-conclusions.ensures) parts.1

pub returns-in-Found : goal.returns-in-Found
returns-in-Found c =
    found_in_premises c.self.inside.clause.now c.args.self.now c.self.view_is c.args.index
    c.requires c.in-Found.place c.as_slice-premises.result.now c.as_slice-premises.ensures
    (rw c.in-Found.is at c.in_ok-place.ensures)

pub returns-in-Found-2 : goal.returns-in-Found-2
returns-in-Found-2 c =
    found_in_conclusions c.self.inside.clause.now c.args.self.now c.self.view_is c.args.index
    c.requires c.in-Found-2.place c.as_slice-premises.result.now c.as_slice-conclusions.result.now
    c.in-Left.left c.as_slice-premises.ensures c.as_slice-conclusions.ensures
    (rw c.in-Left.is at c.in_ok-place.ensures)
    (rw c.in-Found-2.is at c.in_ok-place-in-Left.ensures)
