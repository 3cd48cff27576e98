use Rattle.std.proofs.Common.{◌≡◌, List, [], ◌∷◌, ◌++◌, ap, sym, ◌∙◌, subst}
use Rattle.term_core.specs.Places.{IsAt, IsReplaced}
use Rattle.term_core.proofs.Items.{if_ok_map}
use Rattle.spec_core.specs.declared.records.Equation.{Equation}
use Rattle.clause_core.specs.NumberedEquations.{EquationAt, equations, exchanged}
use Rattle.clause_core.specs.Places.{TermAt, side, holding}
use Rattle.clause_core.proofs.HeldTerms.{stands, holds}
use Rattle.clause_core.proofs.clauses.Clause.holding.Goals as goal

pub replaced-requires : goal.replaced-requires
replaced-requires c = (
  c.requires.term,
  subst (λ path. IsAt path (side c.args.place.now.left c.in-Some.equation.now)
      c.requires.term) (sym c.as_slice.ensures)
      (stands c.args.self.now c.args.place.now c.in-Some.equation.now c.in-Some.ensures.0 c.in-Some.ensures.1
      c.requires),
)

pub returns : goal.returns
returns c =
    let clause = c.args.self.now in
    let place = c.args.place.now in
    let e : Equation = c.in-Some.equation.now in
    let h = c.in_ok-changed.ensures in
    let d : Equation = c.in_ok-changed.changed in
    let made_list : c.push.new.self.items ≡ d ∷ [] = c.in_ok-push.ensures.items
    ∙ ap (λ (es : List Equation). es ++ d ∷ []) c.new-made.ensures.items in
    if_ok_map c.exchanged.result
    (λ made. (at : EquationAt (equations place.conclusion clause) place.number) →
    made ≡ exchanged place.conclusion clause at c.push.new.self.items)
    (λ made. (p : TermAt clause place) → made ≡ holding p c.args.new)
    (λ made is. holds clause place e c.in-Some.ensures.0 c.in-Some.ensures.1 c.args.new h.0 d made h.1
    (subst (λ path. IsReplaced path (side place.left e) c.args.new h.0) c.as_slice.ensures h.2)
    (λ at. is at ∙ ap (λ es. exchanged place.conclusion clause at es) made_list))
    c.exchanged.ensures
