-- A term at a place that is exchanged by an equation: what the rows say of it.
use Rattle.std.proofs.Common.{◌≡◌, ℕ, length, arith, List, [], ◌∷◌, Option, Bool, true, false, not, inl, inr, refl, ap}
use Rattle.std.proofs.Common.{sym, ◌∙◌, subst, map}
use Rattle.term_core.specs.Tree.{Tree}
use Rattle.term_core.specs.declared.ids.SortId.{SortId}
use Rattle.spec_core.specs.declared.records.Equation.{Equation}
use Rattle.spec_core.specs.declared.records.Spec.{Spec}
use Rattle.substitutions.specs.Substitution.{apply}
use Rattle.clause_core.specs.declared.clauses.Clause.{Clause}
use Rattle.clause_core.specs.declared.steps.Place.{Place}
use Rattle.clause_core.specs.declared.answers.Why.TheVariants.{DoesNotFit, NoSuchPlace}
use Rattle.clause_core.specs.ClauseInstances.{clause_instance, equation_instance}
use Rattle.clause_core.specs.Comparing.{IsTestable}
use Rattle.clause_core.specs.Limits.{IsWithin}
use Rattle.clause_core.specs.NumberedEquations.{EquationAt}
use Rattle.clause_core.specs.Places.{TermAt, side, holding}
use Rattle.clause_core.specs.Referred.{PremisesAreThere}
use Rattle.clause_core.specs.Replacing.{Rewrites, context_row, replaced_by}
use Rattle.clause_core.specs.Rows.{compared_child}
use Rattle.inference_rules.specs.Conditions.{Refuses, Makes}
use Rattle.inference_rules.proofs.TestableSides.{premise_side, conclusion_side}

module _ (left : Bool) (e : Equation) (new : Tree) (other : new ≡ side (not left) e) where
  -- the other side of an equation of a clause within the limits can be compared
  pub context_testable : (c : Clause) → IsWithin c → (number : ℕ) (own : EquationAt c.premises number) →
      own.equation ≡ e → IsTestable new
  context_testable c w number own is =
      subst IsTestable (sym other)
      (subst (λ z. IsTestable (side (not left) z)) is (premise_side c number own (not left) w))

  pub replaced_testable : (c x : Clause) (t : Tree) (r : Rewrites c x t left) → r.equation ≡ e → IsWithin x →
      IsTestable new
  replaced_testable c x t r is v =
      subst IsTestable (sym other)
      (subst (λ z. IsTestable (side (not left) z)) is (conclusion_side x r.equation (not left) r.alone v))

module _ (spec : Spec) (c : Clause) (place : Place) (left : Bool) where
  -- `context`: the term at the place and the premise are t and e
  module _ (number : ℕ) (at : TermAt c place) (own : EquationAt c.premises number) (t : Tree) (e : Equation)
      (term : at.term ≡ t) (is : own.equation ≡ e) where
    pub not_context : (side left e ≡ t → ⊥) → Refuses (context_row spec c place number left) DoesNotFit
    not_context n = inl ((at, own), inr ((λ q. n (ap (λ z. side left z) (sym is) ∙ q ∙ term)), refl))

    pub context_made :
        side left e ≡ t → (new : Tree) → new ≡ side (not left) e →
        Makes (context_row spec c place number left) (compared_child (holding at new) ∷ []) []
    context_made q new other =
        let same : side left own.equation ≡ at.term = ap (λ z. side left z) is ∙ q ∙ sym term in
        let child : holding at (side (not left) own.equation) ≡ holding at new = ap (λ z. holding at z)
        (ap (λ z. side (not left) z) is ∙ sym other) in
        ((at, own), (same, ((λ i. compared_child (child i) ∷ []), refl)))

  -- `hyp` and `lemma`: x is the instance
  module _ (x : Clause) (refs : List (ℕ × Clause)) where
    pub no_place : (TermAt c place → ⊥) → Refuses (replaced_by spec c x place left refs) NoSuchPlace
    no_place n = inr (n, refl)

    module _ (at : TermAt c place) (t : Tree) (term : at.term ≡ t) where
      pub not_rewritten : (Rewrites c x t left → ⊥) → Refuses (replaced_by spec c x place left refs) DoesNotFit
      not_rewritten n = inl (
        at,
        inr (
          (λ r. n (record {
            equation = r.equation;
            alone = r.alone;
            premises = r.premises;
            is = r.is
                ∙ term;
          })),
          refl,
        ),
      )

      module _ (r : Rewrites c x t left) (e : Equation) (is : r.equation ≡ e) (new : Tree)
          (other : new ≡ side (not left) e) where
        pub replaced : Makes (replaced_by spec c x place left refs) (compared_child (holding at new) ∷ []) refs
        replaced =
            let child : holding at (side (not left) r.equation) ≡ holding at new = ap (λ z. holding at z)
            (ap (λ z. side (not left) z) is ∙ sym other) in (
              at,
              (
                record {
                  equation = r.equation;
                  alone = r.alone;
                  premises = r.premises;
                  is = r.is
                      ∙ sym term;
                },
                ((λ i. compared_child (child i) ∷ []), refl),
              ),
            )

pub no_items : {X : Type 0} (xs : List X) → length xs ≡ 0 → xs ≡ []
no_items [] e = refl
no_items (x ∷ xs) e = absurd (omega arith)

-- a side of the instance of an equation
pub side_instance : (entries : List (Option Tree)) (left : Bool) (e : Equation) →
    side left (equation_instance entries e) ≡ apply entries (side left e)
side_instance entries true e = refl
side_instance entries false e = refl

-- the one conclusion of a clause whose instance rewrites
pub rewrites :
    (entries : List (Option Tree)) (ctx : List SortId) (c d : Clause) (t : Tree) (left : Bool) (e : Equation)
    (es : List Equation) →
    d.conclusions ≡ e ∷ es → es ≡ [] → apply entries (side left e) ≡ t →
    PremisesAreThere c (clause_instance entries ctx d) →
    (r : Rewrites c (clause_instance entries ctx d) t left) × (r.equation ≡ equation_instance entries e)
rewrites entries ctx c d t left e es are none is there = (
  record {
    equation = equation_instance entries e;
    alone = ap (λ ds. map (equation_instance entries) ds) (are ∙ ap (λ ds. e ∷ ds) none);
    premises = there;
    is = side_instance entries left e ∙ is;
  },
  refl,
)
