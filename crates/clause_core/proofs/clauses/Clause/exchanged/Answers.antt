use Rattle.std.proofs.Common.{◌≡◌, ◌+◌, ◌-◌, ◌++◌, List, length, take, drop, ap, ◌∙◌}
use Rattle.term_core.proofs.Items.{if_ok_map}
use Rattle.spec_core.specs.declared.records.Equation.{Equation}
use Rattle.clause_core.specs.NumberedEquations.{EquationAt, equations, with_equations, exchanged}
use Rattle.clause_core.proofs.EquationPlaces.{others_between}
use Rattle.clause_core.proofs.clauses.Clause.exchanged.Goals as goal

pub returns : goal.returns
returns c =
    let own : List Equation = equations c.args.conclusion c.args.self.now in
    let same : c.equations-own.result.now ≡ own = c.equations-own.ensures in
    let first : c.in_ok-made.made.items ≡ take (c.from-place.result - 1) own = c.in_ok-made.ensures
    ∙ ap (λ es. take (c.from-place.result - 1) es) same in
    let rest : c.in_ok-rest.rest.items ≡ take (length own - (c.from-place.result - 1 + 1))
    (drop (c.from-place.result - 1 + 1) own) =
    c.in_ok-rest.ensures ∙ ap (λ (es : List Equation). take (length es - (c.from-place.result - 1 + 1))
    (drop (c.from-place.result - 1 + 1) es)) same in
    let all : c.append-2.new.self.items ≡ (c.in_ok-made.made.items ++ c.args.equations.items)
    ++ c.in_ok-rest.rest.items =
    c.in_ok-append-2.ensures.items ∙ ap (λ es. es ++ c.in_ok-rest.rest.items) c.in_ok-append.ensures.items in
    if_ok_map c.with_equations.result (λ made. made ≡ with_equations c.args.conclusion c.args.self.now
    c.append-2.new.self.items) (λ made. (at : EquationAt own c.args.number) →
    made ≡ exchanged c.args.conclusion c.args.self.now at c.args.equations.items)
    (λ made is at. is ∙ ap (λ es. with_equations c.args.conclusion c.args.self.now es)
    (all ∙ others_between own c.args.number at c.from-place.result c.args.equations.items
    c.in_ok-made.made.items c.in_ok-rest.rest.items c.from-place.ensures first rest))
    c.with_equations.ensures
