-- The claims of `prove` are on goals of the specification.
use Rattle.std.proofs.Common.{◌≡◌, ◌∙◌, List, [], ◌∷◌, ◌++◌, Some, append_assoc, length, refl, subst, sym}
use Rattle.std.specs.Prelude.{slice_get}
use Rattle.spec_core.specs.declared.records.Goal.{Goal}
use Rattle.spec_core.specs.declared.records.Spec.{Spec}
use Rattle.clause_core.specs.declared.reports.Claim.{Claim}
use Rattle.command_line.specs.declared.bounds.ProofBounds.{ProofBounds}
use Rattle.search_claims.specs.Claims.{AreClaims}
use Rattle.spike_cli.specs.Claims.{IsNextClaim}
use Rattle.report_pages.specs.Claims.{HaveGoals}

item_behind : {X : Type 0} (xs ys : List X) (x : X) → slice_get (xs ++ x ∷ ys) (length xs) ≡ Some x
item_behind [] ys x = refl
item_behind (z ∷ xs) ys x = item_behind xs ys x

module _ (bounds : ProofBounds) (spec : Spec) where
  have_goals_after :
      (seen goals : List Goal) (before claims : List Claim) → seen ++ goals ≡ spec.goals →
      AreClaims (IsNextClaim bounds spec) before goals claims → HaveGoals spec claims
  have_goals_after seen [] before [] all are = tt
  have_goals_after seen [] before (claim ∷ claims) all are = absurd are
  have_goals_after seen (goal ∷ goals) before [] all are = absurd are
  have_goals_after seen (goal ∷ goals) before (claim ∷ claims) all are = (
    (
      length seen,
      goal,
      (
        subst (λ gs. slice_get gs (length seen) ≡ Some goal) all (item_behind seen goals goal),
        sym are.0.name,
      ),
    ),
    have_goals_after (seen ++ goal ∷ []) goals (before ++ claim ∷ []) claims
        (append_assoc seen (goal ∷ []) goals ∙ all) are.1,
  )

  pub have_goals :
      (claims : List Claim) → AreClaims (IsNextClaim bounds spec) [] spec.goals claims →
      HaveGoals spec claims
  have_goals claims are = have_goals_after [] spec.goals [] claims refl are
