use Rattle.std.proofs.Common.{◌≡◌, ◌+◌, ◌<◌, ◌≤◌, ℕ, List, Option, Some, None, MatchOption, length, get_or, subst}
use Rattle.std.proofs.Common.{arith, Bor}
use Rattle.std.specs.Option.{IfSome}
use Rattle.std.specs.List.{HoldsAt}
use Rattle.spec_core.specs.declared.records.Equation.{Equation}
use Rattle.clause_core.specs.NumberedEquations.{EquationAt, equations}
use Rattle.clause_core.proofs.EquationPlaces.{equation_at, number_within, no_number_past}
use Rattle.clause_core.proofs.clauses.Clause.equation.Goals as goal

-- what a look-up at a place says of the next number
looked_up :
    (own : List Equation) (number place : ℕ) (found : Option (Bor Equation)) → number ≡ place + 1 →
    MatchOption found (length own ≤ place) (λ e. (place < length own) × HoldsAt (λ d. e.now ≡ d) own place) →
    IfSome found (λ e. e.now ≡ get_or own place e.now) →
    MatchOption found (EquationAt own number → ⊥) (λ e. (at : EquationAt own number) × (at.equation ≡ e.now))
looked_up own number place None n h is = no_number_past own number place n h
looked_up own number place (Some e) n h is = equation_at own number place e.now n h.0 is

pub returns-in_err-checked_sub : goal.returns-in_err-checked_sub
returns-in_err-checked_sub c =
    rw c.from_residual.ensures
    (λ at. c.in_err-checked_sub.ensures (number_within (equations c.args.conclusion c.args.self.now)
    c.args.number at).0)

pub returns : goal.returns
returns c =
    let own : List Equation = equations c.args.conclusion c.args.self.now in
    let same : c.equations.result.now ≡ own = c.equations.ensures in
    let number : c.args.number ≡ c.from-place.result + 1 = omega (
      arith,
      c.in_ok-checked_sub.ensures,
      c.from-place.ensures,
    ) in
    subst (λ (es : List Equation). MatchOption c.get.result (EquationAt es c.args.number →
    ⊥) (λ e. (at : EquationAt es c.args.number) × (at.equation ≡ e.now))) same
    (looked_up c.equations.result.now c.args.number c.from-place.result c.get.result number
    c.get.ensures.lookup.3 c.get.ensures.lookup.1)
