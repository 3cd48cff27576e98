-- Reports of the claims that searches give: they have a text, and are accepted.
use Rattle.std.proofs.Common.{◌≡◌, ℕ, suc, ◌≤◌, List, [], ◌∷◌, ◌++◌, Some, refl, sym, subst, arith, length}
use Rattle.std.specs.Prelude.{slice_get}
use Rattle.std.proofs.lemmas.List.{append-nil}
use Rattle.std.specs.List.{AllByRecursion}
use Rattle.term_core.specs.Tree.{Tree}
use Rattle.spec_core.specs.declared.records.Goal.{Goal}
use Rattle.spec_core.specs.declared.records.Spec.{Spec}
use Rattle.spec_core.specs.Order.{substitutions}
use Rattle.spec_core.specs.Sig.{names_of}
use Rattle.spec_core.specs.WellSorted.{GoalIsSorted}
use Rattle.refuter.specs.declared.answers.Search.{Search}
use Rattle.refuter.specs.declared.answers.Search.TheVariants.{Found, NotFound}
use Rattle.refuter.specs.Finds.{Finds, IsFalse}
use Rattle.clause_core.specs.declared.reports.Claim.{Claim}
use Rattle.proof_script.specs.Names.{IsReportName}
use Rattle.proof_script.specs.Reports.{ClaimStands}
use Rattle.proof_script.proofs.Begun.{IsSmall, text_of_small}
use Rattle.acceptance.specs.Accepting.{IsShown}
use Rattle.command_line.specs.declared.bounds.SearchBounds.{SearchBounds}
use Rattle.search_claims.specs.Claims.{outcome_of, AreClaims, IsClaimOn, budget_of, report_of}
use Rattle.search_claims.specs.Names.{GoalNamesStand}
use Rattle.search_claims.specs.Laws.{BoundsStand, SearchReportsStand, SearchReportsAreAccepted}
use Rattle.search_claims.proofs.OutcomesStand.{MayStand, refuted_stands, open_stands, tried_few, claim_stands}
use Rattle.search_claims.proofs.Shown.{AreShown, claims_accepted, refuted_is_shown}

module _ (bounds : SearchBounds) (spec : Spec) where
  module _ (within : BoundsStand bounds) (symbols : AllByRecursion IsReportName (names_of spec.sig))
    where
      answer_stands :
          (goal : Goal) → GoalNamesStand goal → length goal.vars ≤ 16 → (search : Search) →
          IsFalse spec goal bounds.tries (substitutions spec goal bounds.depth) search →
          Finds spec goal bounds.steps bounds.tries (substitutions spec goal bounds.depth) search →
          MayStand spec goal.name (outcome_of bounds goal search)
      answer_stands goal names few (Found index row) f e =
          refuted_stands spec goal names symbols few bounds.depth bounds.tries index row within.depth
          within.tries.1 f
      answer_stands goal names few (NotFound tried skipped cut) f e =
          let t =
          tried_few spec goal bounds.steps bounds.tries (substitutions spec goal bounds.depth)
          tried skipped cut e in
          let most = within.tries.1 in
          open_stands spec goal names (budget_of bounds tried skipped cut) (record {
            depth = within.depth;
            tried = omega (arith, t.0);
            skipped = omega (arith, t.1);
            plain = omega arith;
            nodes = omega arith;
          })

      -- the claim on each goal
      all_stand :
          (before : List Claim) (goals : List Goal) (claims : List Claim) →
          ((k : ℕ) (goal : Goal) → slice_get goals k ≡ Some goal → GoalIsSorted spec.sig goal) →
          AllByRecursion GoalNamesStand goals →
          AreClaims (λ before. IsClaimOn bounds spec) before goals claims →
          AllByRecursion (ClaimStands spec.sig) claims × AllByRecursion (IsSmall spec.sig) claims
      all_stand before [] [] fine names a = (tt, tt)
      all_stand before (g ∷ goals) [] fine names a = absurd a
      all_stand before [] (c ∷ claims) fine names a = absurd a
      all_stand before (g ∷ goals) (c ∷ claims) fine names a =
          let m =
          answer_stands g names.0 (fine 0 g refl).few_variables a.0.search a.0.false a.0.exact in
          let here =
          claim_stands spec c g.name (outcome_of bounds g a.0.search) names.0.goal_name a.0.name
          a.0.outcome m in
          let others =
          all_stand (before ++ c ∷ []) goals claims (λ k goal at. fine (suc k) goal at) names.1
          a.1 in
          ((here.0, others.0), (here.1, others.1))

  module _ (above : Tree → Tree → Type 0) where
    answer_is_shown :
        (goal : Goal) (before : List Claim) (search : Search) →
        IsFalse spec goal bounds.tries (substitutions spec goal bounds.depth) search →
        Finds spec goal bounds.steps bounds.tries (substitutions spec goal bounds.depth) search →
        IsShown above spec bounds.steps before goal (outcome_of bounds goal search)
    answer_is_shown goal before (Found index row) f e =
        refuted_is_shown above spec bounds.steps goal before index row f.2 e.2
    answer_is_shown goal before (NotFound tried skipped cut) f e = tt

    all_shown :
        (before : List Claim) (goals : List Goal) (claims : List Claim) →
        AreClaims (λ before. IsClaimOn bounds spec) before goals claims →
        AreShown above spec bounds.steps before goals claims
    all_shown before [] [] a = tt
    all_shown before (g ∷ goals) [] a = absurd a
    all_shown before [] (c ∷ claims) a = absurd a
    all_shown before (g ∷ goals) (c ∷ claims) a = (
      a.0.name,
      subst (λ o. IsShown above spec bounds.steps before g o) (sym a.0.outcome)
          (answer_is_shown g before a.0.search a.0.false a.0.exact),
      all_shown (before ++ c ∷ [])
          goals claims a.1,
    )

pub reports_stand : SearchReportsStand
reports_stand bounds spec claims fine names within a =
    let h =
    all_stand bounds spec within names.symbols [] spec.goals claims fine.goals names.goals a in
    text_of_small spec.sig (report_of bounds.steps claims)
    (record { steps = within.steps; claims = h.0 }) h.1

pub reports_accepted : (above : Tree → Tree → Type 0) → SearchReportsAreAccepted above
reports_accepted above bounds spec claims fine a =
    claims_accepted above spec bounds.steps fine.names [] spec.goals [] [] claims
    (append-nil spec.goals) refl (all_shown bounds spec above [] spec.goals claims a)
