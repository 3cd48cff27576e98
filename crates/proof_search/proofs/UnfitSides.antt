-- If no side that may fall becomes a term, no step by these sides rewrites the term.
use Rattle.std.proofs.Common.{◌≡◌, ℕ, ◌+◌, ◌<◌, ◌≤◌, List, [], ◌∷◌, Bool, true, false, cond, Some, None, refl, arith}
use Rattle.std.specs.Prelude.{slice_get}
use Rattle.term_core.specs.Tree.{Tree, instance}
use Rattle.spec_core.specs.declared.records.Equation.{Equation}
use Rattle.clause_core.specs.Places.{side}
use Rattle.clause_core.specs.declared.answers.Children.{Children}
use Rattle.clause_core.specs.declared.clauses.Clause.{Clause}
use Rattle.clause_core.specs.declared.steps.Place.{Place}
use Rattle.clause_core.specs.declared.steps.Step.{Step}
use Rattle.clause_places.specs.Spots.{Spot, spots}
use Rattle.fitting_lists.specs.Spines.{spine_of, missing_in}
use Rattle.routine_proof.specs.Candidates.{Candidate, Gives}
use Rattle.routine_proof.specs.First.{HasNone, NoneIs}
use Rattle.proof_search.specs.declared.falling_sides.FallingSides.{FallingSides}
use Rattle.proof_search.specs.Falling.{SideFits}
use Rattle.proof_search.specs.FallingSides.{marked}
use Rattle.proof_search.specs.Referring.{Target, rewriting_by, falling_rewriting, falling_rewritings}
use Rattle.proof_search.proofs.FallingSteps.{found_in_second}
use Rattle.proof_search.proofs.GrowingRuns.{missing_later}

head_same : (t u : Tree) → (t ∷ []) ≡ (u ∷ []) → t ≡ u
head_same t u e = cc

module _
    (says : Step → Children → Type 0) (target : Target) (d : Clause) (place : Place) (term : Tree)
    (e : Equation) (sides : FallingSides) where
  -- a candidate that is there if a test says so
  where_marked :
      (mark : Bool) (candidate : Candidate) → (mark ≡ true → HasNone (Gives says) candidate) →
      NoneIs (Gives says) (cond mark (candidate ∷ []) [])
  where_marked true candidate none = (none refl, tt)
  where_marked false candidate none = tt

  module _ (unfit : SideFits sides e term → ⊥) where
    none_by :
        (left : Bool) →
        NoneIs (Gives says) (falling_rewriting target d place term e sides left)
    none_by left =
        where_marked (marked left sides) (rewriting_by target d place term left (side left e))
        (λ is move g.
        let made = head_same (instance g.list (side left e)) term g.answers.1 in
        unfit (left, g.list, is, made))

    pub none_fits : NoneIs (Gives says) (falling_rewritings target d place term e sides)
    none_fits =
        found_in_second (Gives says) (falling_rewriting target d place term e sides true)
        (falling_rewriting target d place term e sides false) None None refl (none_by true)
        (none_by false)

-- if this many symbols are missing at a spot, no side becomes the term of one of as many spots
module _
    (law : (list : List Tree) (p t : Tree) → instance list p ≡ t → missing_in (spine_of p) t ≡ 0)
    (here : Clause) (e : Equation) (sides : FallingSides) (k missing : ℕ) (s : Spot)
    (listed : slice_get (spots here) k ≡ Some s)
    (told : (left : Bool) → marked left sides ≡ true →
    missing ≤ missing_in (spine_of (side left e)) s.term) where
  pub unfit_later :
      (m : ℕ) (r : Spot) → k ≤ m → m < k + missing → slice_get (spots here) m ≡ Some r →
      SideFits sides e r.term → ⊥
  unfit_later m r le lt there (left, list, is, made) =
      let none = law list (side left e) r.term made in
      let grown = missing_later here k m s r le listed there (spine_of (side left e)) in
      absurd (omega (arith, told left is, none, grown, lt, le))
