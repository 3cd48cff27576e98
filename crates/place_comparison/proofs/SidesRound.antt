-- The sides of a clause round the one that a place names stay when the place holds another term.
use Rattle.std.proofs.Common.{◌≡◌, ℕ, List, [], ◌∷◌, ◌++◌, Bool, true, false, append_assoc, refl, ap, sym, ◌∙◌}
use Rattle.term_core.specs.Tree.{Tree}
use Rattle.term_core.specs.Contexts.{plug}
use Rattle.spec_core.specs.declared.records.Equation.{Equation}
use Rattle.clause_core.specs.declared.clauses.Clause.{Clause}
use Rattle.clause_core.specs.declared.steps.Place.{Place}
use Rattle.clause_core.specs.Clauses.{sides_of, sides}
use Rattle.clause_core.specs.NumberedEquations.{EquationAt, equations, exchanged}
use Rattle.clause_core.specs.Places.{TermAt, side, with_side, holding}
use Rattle.clause_core.proofs.Sides.{sides_append}

own_side : (left : Bool) (e : Equation) → with_side left e (side left e) ≡ e
own_side true e = refl
own_side false e = refl

own_equation : (kind : Bool) (c : Clause) (n : ℕ) (p : EquationAt (equations kind c) n) →
    exchanged kind c p (p.equation ∷ []) ≡ c
own_equation true c n p = λ i. record { ctx = c.ctx; premises = c.premises; conclusions = sym p.is i }
own_equation false c n p = λ i. record { ctx = c.ctx; premises = sym p.is i; conclusions = c.conclusions }

-- what is round a side of an equation, in the sides of its list
round_equation :
    (left : Bool) (e : Equation) (first rest : List Equation) →
    (before : List Tree) × (after : List Tree)
    × ((t : Tree) → sides_of (first ++ (with_side left e t ∷ rest)) ≡ before ++ t ∷ after)
round_equation true e first rest = (
  sides_of first,
  e.right ∷ sides_of rest,
  λ t. sides_append first (with_side true e t ∷ rest),
)
round_equation false e first rest = (
  sides_of first ++ e.left ∷ [],
  sides_of rest,
  λ t. sides_append first (with_side false e t ∷ rest)
      ∙ sym (append_assoc (sides_of first) (e.left ∷ []) (t ∷ sides_of rest)),
)

-- and in the sides of the clause
round_side :
    (kind left : Bool) (c : Clause) (n : ℕ) (p : EquationAt (equations kind c) n) →
    (before : List Tree) × (after : List Tree)
    × ((t : Tree) → sides (exchanged kind c p (with_side left p.equation t ∷ [])) ≡ before ++ t ∷ after)
round_side true left c n p =
    let r = round_equation left p.equation p.before p.after in (
      sides_of c.premises ++ r.0,
      r.1,
      λ t. ap (λ ts. sides_of c.premises ++ ts) (r.2 t)
          ∙ sym (append_assoc (sides_of c.premises) r.0 (t ∷ r.1)),
    )
round_side false left c n p =
    let r = round_equation left p.equation p.before p.after in (
      r.0,
      r.1 ++ sides_of c.conclusions,
      λ t. ap (λ ts. ts ++ sides_of c.conclusions) (r.2 t)
          ∙ append_assoc r.0 (t ∷ r.1) (sides_of c.conclusions),
    )

module _ (c : Clause) (place : Place) (at : TermAt c place) where
  -- the clause is the one whose place holds its own term
  pub holds_own : holding at at.term ≡ c
  holds_own =
      (λ i. exchanged place.conclusion c at.at (with_side place.left at.at.equation (sym at.is i) ∷ []))
      ∙ ap (λ (e : Equation). exchanged place.conclusion c at.at (e ∷ [])) (own_side place.left at.at.equation)
      ∙ own_equation place.conclusion c place.number at.at

  pub sides_round :
      (before : List Tree) × (after : List Tree)
      × ((t : Tree) → sides (holding at t) ≡ before ++ plug at.round t ∷ after)
      × (sides c ≡ before ++ plug at.round at.term ∷ after)
  sides_round =
      let r = round_side place.conclusion place.left c place.number at.at in
      (r.0, r.1, λ t. r.2 (plug at.round t), ap sides (sym holds_own) ∙ r.2 (plug at.round at.term))
