-- The clause whose place holds another term is made from what a path of the equation's side tells.
use Rattle.std.proofs.Common.{◌≡◌, ℕ, List, [], ◌∷◌, Option, Some, None, MatchOption, sym, ◌∙◌, subst, Bor}
use Rattle.term_core.specs.Tree.{Tree}
use Rattle.term_core.specs.Contexts.{plug}
use Rattle.term_core.specs.Places.{IsAt, HasNoPlace, IsReplaced}
use Rattle.term_core.proofs.Paths.{one_replacement}
use Rattle.spec_core.specs.declared.records.Equation.{Equation}
use Rattle.clause_core.specs.declared.clauses.Clause.{Clause}
use Rattle.clause_core.specs.declared.steps.Place.{Place}
use Rattle.clause_core.specs.NumberedEquations.{EquationAt, equations, exchanged}
use Rattle.clause_core.specs.Places.{TermAt, side, with_side, holding}
use Rattle.clause_core.proofs.OnePlace.{equation_one}
use Rattle.clause_core.proofs.PathsOfPlaces.{term_is_at, term_at, term_is_replaced}

module _ (c : Clause) (place : Place) (e : Equation)
    (at : EquationAt (equations place.conclusion c) place.number) (is : at.equation ≡ e) where
  same_equation : (p : TermAt c place) → p.at.equation ≡ e
  same_equation p = (equation_one (equations place.conclusion c) place.number p.at at).1 ∙ is

  -- the term at the place is at its path in the side of its equation
  pub stands : (p : TermAt c place) → IsAt place.path (side place.left e) p.term
  stands p = subst (λ d. IsAt place.path (side place.left d) p.term) (same_equation p) (term_is_at c place p)

  pub found : (t : Tree) → IsAt place.path (side place.left e) t → (p : TermAt c place) × (p.term ≡ t)
  found t h = let r = term_at c place at t (subst (λ d. IsAt place.path (side place.left d) t) (sym is) h) in (r.0, r.2)

  pub holds :
      (new t : Tree) (d : Equation) (made : Clause) → d ≡ with_side place.left e t →
      IsReplaced place.path (side place.left e) new t →
      ((b : EquationAt (equations place.conclusion c) place.number) → made ≡ exchanged place.conclusion c b (d ∷ [])) →
      (p : TermAt c place) → made ≡ holding p new
  holds new t d made shape replaced exchanges p =
      let same = same_equation p in
      let there : IsReplaced place.path (side place.left e) new (plug p.round new) = subst
      (λ x. IsReplaced place.path (side place.left x) new (plug p.round new)) same
      (term_is_replaced c place p new) in
      let term : t ≡ plug p.round new = one_replacement place.path (side place.left e) new t (plug p.round new)
      replaced there in
      let whole : d ≡ with_side place.left p.at.equation (plug p.round new) = shape
      ∙ (λ i. with_side place.left (sym same i) (term i)) in
      exchanges p.at ∙ (λ i. exchanged place.conclusion c p.at (whole i ∷ []))

  -- what a look-up by the path says of the place
  pub looked_up :
      (path : List ℕ) (s : Tree) → path ≡ place.path → s ≡ side place.left e → (answer : Option (Bor Tree)) →
      MatchOption answer (HasNoPlace path s) (λ t. IsAt path s t.now) →
      MatchOption answer (TermAt c place → ⊥) (λ t. (p : TermAt c place) × (p.term ≡ t.now))
  looked_up path s q r None h = λ p. h p.term
      (subst (λ x. IsAt x s p.term) (sym q) (subst (λ x. IsAt place.path x p.term) (sym r) (stands p)))
  looked_up path s q r (Some t) h = found t.now
      (subst (λ x. IsAt place.path x t.now) r (subst (λ x. IsAt x s t.now) q h))
