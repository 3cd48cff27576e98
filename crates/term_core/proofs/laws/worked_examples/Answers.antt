use Rattle.std.proofs.Common.{◌≡◌, [], ◌∷◌, Some, None, inl, inr, refl, ap, sym, ◌∙◌, subst, slice_get, arith}
use Rattle.term_core.specs.Tree.{var, app, none}
use Rattle.term_core.specs.Places.{IsAt, HasNoPlace}
use Rattle.term_core.specs.Variables.{Occurs, Numbered}
use Rattle.term_core.specs.Ground.{IsGroundIn}
use Rattle.term_core.specs.Examples.{outer, inner, closed}
use Rattle.term_core.proofs.laws.worked_examples.Goals as goal

no_zeroth : HasNoPlace (0 ∷ []) outer
no_zeroth s p = omega (arith, p.1.1)

no_third : HasNoPlace (3 ∷ []) outer
no_third s p =
    let k : p.1.0 ≡ 2 = omega (arith, p.1.1) in
    let e : None ≡ Some p.0 = sym (ap (λ j. slice_get (var 0 ∷ inner ∷ []) j) k) ∙ p.1.2 in
    cc

below_a_variable : HasNoPlace (1 ∷ 1 ∷ []) outer
below_a_variable s p =
    let k : p.1.0 ≡ 0 = omega (arith, p.1.1) in
    let e : Some (var 0) ≡ Some p.0 = sym (ap (λ j. slice_get (var 0 ∷ inner ∷ []) j) k) ∙ p.1.2 in
    let variable : p.0 ≡ var 0 = cc in
    let none : IsAt (1 ∷ []) (var 0) s = subst (λ u. IsAt (1 ∷ []) u s) variable p.2 in
    none

nowhere : Occurs 2 outer → ⊥
nowhere (inl e) = omega (arith, e)
nowhere (inr (inl (inl e))) = omega (arith, e)
nowhere (inr (inl (inr (inl e)))) = omega (arith, e)
nowhere (inr (inl (inr (inr e)))) = absurd e
nowhere (inr (inr e)) = absurd e

otherwise : Numbered 0 inner 2 → ⊥
otherwise (j, inl h, rest) = omega (arith, h.0)
otherwise (j, inr h, rest) = omega (arith, h.0)

in_seven : IsGroundIn 7 closed
in_seven =
    let one : IsGroundIn 7 (app 2 none) = (omega arith, omega arith, tt) in
    (omega arith, omega arith, (one, (one, tt)))

pub returns : goal.returns
returns c = record {
  whole = refl;
  second = (inner, (1, refl, refl), refl);
  below = (inner, (1, refl, refl), (var 1, (0, refl, refl), refl));
  no_zeroth = no_zeroth;
  no_third = no_third;
  none_below_a_variable = below_a_variable;
  replaced = (
    inner,
    _,
    _,
    (1, refl, refl),
    (var 1, _, _, (0, refl, refl), refl, (0, refl, refl), refl),
    (1, refl, refl),
    refl,
  );
  all_occurrences = refl;
  met_first = refl;
  met_second = refl;
  occurs_below = inr (inl (inl refl));
  occurs_nowhere = nowhere;
  numbered = (1, inr (refl, refl), (2, (2, inr (refl, refl), (2, inl (omega arith, refl), refl)), refl));
  numbered_otherwise = otherwise;
  bounded = refl;
  closed_bound = refl;
  needs_none = refl;
  needs_one = refl;
  same_as_itself = refl;
  other_tree = refl;
  plugged = refl;
  ground = in_seven;
  symbol_too_large = λ g. omega (arith, g.0);
  open_term = λ g. g.2.0;
}
