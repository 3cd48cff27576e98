-- If the spines of sides don't fit, no list makes the sides those. If those of a leading
-- equation fit no equation of a node, no instance of its clause closes the node.
use Rattle.std.proofs.Common.{◌≡◌, ℕ, suc, List, [], ◌∷◌, Option, Some, None, inl, inr, refl, sym, subst, arith, length}
use Rattle.std.specs.Prelude.{Any}
use Rattle.term_core.specs.Tree.{Tree, instance}
use Rattle.spec_core.specs.declared.records.Equation.{Equation}
use Rattle.clause_core.specs.declared.answers.Children.{Children}
use Rattle.clause_core.specs.declared.clauses.Clause.{Clause}
use Rattle.clause_core.specs.declared.steps.Step.{Step}
use Rattle.clause_core.specs.NumberedEquations.{equations}
use Rattle.fitting_lists.specs.Answering.{IsOnlyAnswer}
use Rattle.fitting_lists.specs.Fitting.{both_sides}
use Rattle.fitting_lists.specs.Leading.{IsPlace}
use Rattle.fitting_lists.specs.Spines.{spine_of, MayBecome}
use Rattle.fitting_lists.specs.declared.leading_equations.LeadingPlace.{LeadingPlace}
use Rattle.routine_proof.specs.Candidates.{Candidate, Gives, each}
use Rattle.routine_proof.specs.First.{HasNone, NoneIs}
use Rattle.proof_search.specs.declared.side_spines.SideSpines.{SideSpines}
use Rattle.proof_search.specs.Leading.{MayClose, kept_spines}
use Rattle.proof_search.specs.Referring.{Target, closing, closing_asks, closing_pair, closing_step, closings}
use Rattle.proof_search.specs.SideSpines.{spines_of, side_spines, listed_spines, SidesMayBecome, MayBecomeEither}
use Rattle.proof_search.proofs.FittingSteps.{by_equations, by_none}
use Rattle.proof_search.proofs.TakenSteps.{none_answers}

both_same :
    (s t u v : Tree) → (s ∷ t ∷ []) ≡ (u ∷ v ∷ []) → (s ≡ u) × (t ≡ v)
both_same s t u v e = (cc, cc)

pub no_list :
    ((list : List Tree) (p t : Tree) → instance list p ≡ t →
    MayBecome (spine_of p) (spine_of t)) →
    (count : ℕ) (e : Equation) (left right : Tree) (leads own : SideSpines) →
    leads ≡ side_spines e → own ≡ spines_of left right → (SidesMayBecome leads own → ⊥) →
    IsOnlyAnswer
    (record { variables = count; patterns = both_sides e; terms = left ∷ right ∷ [] }) None
no_list law count e left right leads own is same unfit list a =
    let made = both_same (instance list e.left) (instance list e.right) left right a.1 in
    let fits : SidesMayBecome (side_spines e) (spines_of left right) =
    (law list e.left left made.0, law list e.right right made.1) in
    unfit
    (subst (λ (p : SideSpines × SideSpines). SidesMayBecome p.0 p.1)
    (λ i. (sym is i, sym same i)) fits)

-- a list in which some item is such
any_first : {X : Type 0} (P : X → Type 0) (x : X) (xs : List X) → P x → Any P (x ∷ xs)
any_first P x xs p = (0, x, omega arith, refl, p)

any_later : {X : Type 0} (P : X → Type 0) (x : X) (xs : List X) → Any P xs → Any P (x ∷ xs)
any_later P x xs a = (suc a.0, a.1, omega (arith, a.2), a.3, a.4)

module _
    (law : (list : List Tree) (p t : Tree) → instance list p ≡ t → MayBecome (spine_of p) (spine_of t))
    (says : Step → Children → Type 0) (target : Target) (d : Clause) where
  module _ (e : Equation) (leads : SideSpines) (is : leads ≡ side_spines e) where
    -- sides that the leading equation cannot become
    unfit_sides :
        (left right : Tree) → (SidesMayBecome leads (spines_of left right) → ⊥) →
        HasNone (Gives says) (closing target d e left right)
    unfit_sides left right unfit =
        let only = no_list law (length d.ctx) e left right leads (spines_of left right) is refl
        unfit in
        (none_answers says (closing target d e left right).question (closing_step target)
        (closing_asks target) only).0

    none_fits :
        (es : List Equation) → (Any (MayBecomeEither leads) (listed_spines es) → ⊥) →
        NoneIs (Gives says) (each es (closing_pair target d e))
    unfolding each
    none_fits [] unfit = tt
    none_fits (own ∷ es) unfit =
        let first : MayBecomeEither leads (side_spines own) → ⊥ =
        λ may. unfit (any_first (MayBecomeEither leads) (side_spines own) (listed_spines es) may) in (
          unfit_sides own.left own.right (λ may. first (inl may)),
          (
            unfit_sides own.right own.left (λ may. first (inr may)),
            none_fits es
                (λ a. unfit (any_later (MayBecomeEither leads) (side_spines own) (listed_spines es) a)),
          ),
        )

  -- by the clause whose leading equation is there
  pub none_closes :
      (here : Clause) (place : Option LeadingPlace) → IsPlace d place → (MayClose here place → ⊥) →
      NoneIs (Gives says) (closings here target d)
  none_closes here None none unfit =
      subst (λ (cs : List Candidate). NoneIs (Gives says) cs) (sym (by_none here d target none)) tt
  none_closes here (Some place) leads unfit =
      let kept : kept_spines place ≡ side_spines leads.equation =
      λ i. record { left = leads.spines.left i; right = leads.spines.right i } in
      subst (λ (cs : List Candidate). NoneIs (Gives says) cs)
      (sym (by_equations here d target
      (record { conclusion = place.conclusion; equation = leads.equation }) leads.leads))
      (none_fits leads.equation (kept_spines place) kept (equations place.conclusion here) unfit)
