-- Claims on goals in their order are accepted, so that those that they prove are lemmas of the next
-- one.
use Rattle.std.proofs.Common.{◌≡◌, ℕ, zero, suc, List, [], ◌∷◌, ◌++◌, Some, None, refl, ap, sym, ◌∙◌, subst, take}
use Rattle.std.proofs.Common.{drop, append_assoc}
use Rattle.std.proofs.lemmas.List.{append-nil}
use Rattle.std.specs.Prelude.{slice_get, Contains}
use Rattle.spec_core.specs.declared.records.Goal.{Goal}
use Rattle.spec_core.specs.declared.records.Spec.{Spec}
use Rattle.spec_core.specs.Order.{substitutions}
use Rattle.spec_core.specs.WellSorted.{IsWellSorted}
use Rattle.spec_order.specs.Orders.{above_of}
use Rattle.refuter.specs.declared.answers.Search.{Search}
use Rattle.refuter.specs.declared.answers.Search.TheVariants.{Found, NotFound}
use Rattle.refuter.specs.Finds.{Finds, IsFalse}
use Rattle.clause_core.specs.declared.reports.Claim.{Claim}
use Rattle.clause_core.specs.declared.reports.Outcome.{Outcome}
use Rattle.clause_core.specs.declared.reports.Outcome.TheVariants.{Proved, Refuted, Open}
use Rattle.acceptance.specs.Accepting.{ClaimsAreAccepted, IsAccepted, IsShown}
use Rattle.acceptance.specs.Claims.{ProvedBefore}
use Rattle.routine_proof.specs.Laws.{ProvesBehindClaims}
use Rattle.search_claims.specs.Claims.{AreClaims, report_of}
use Rattle.search_claims.proofs.Shown.{AreShown, claimed_names, goal_names, names_with, claims_accepted}
use Rattle.search_claims.proofs.Shown.{next_unclaimed, refuted_is_shown}
use Rattle.command_line.specs.declared.bounds.ProofBounds.{ProofBounds}
use Rattle.spike_cli.specs.Claims.{IsNextClaim, IsOutcomeOf, budget_of, proved_goals}
use Rattle.spike_cli.specs.Lemmas.{AreLemmas}
use Rattle.spike_cli.proofs.ProvedGoals.{proved_known}
use Rattle.spike_cli.proofs.TrueClaims.{proves_behind}

-- the items before one, and those after it
parts :
    {X : Type 0} (xs : List X) (i : ℕ) (x : X) → slice_get xs i ≡ Some x →
    take i xs ++ x ∷ drop (suc i) xs ≡ xs
parts [] i x at = absurd (let q : None ≡ Some x = at in cc)
parts (y ∷ xs) zero x at = let q : Some y ≡ Some x = at in let e : x ≡ y = cc in ap (λ z. z ∷ xs) e
parts (y ∷ xs) (suc i) x at = ap (λ zs. y ∷ zs) (parts xs i x at)

module _
    (spec : Spec) (behind : ProvesBehindClaims (above_of spec)) (bounds : ProofBounds)
    (fine : IsWellSorted spec) where
  -- what is claimed is shown, if the lemmas are proved by the claims before it
  outcome_is_shown :
      (lemmas : List ℕ) (goal : Goal) (before : List Claim) →
      ((number : ℕ) → Contains lemmas number → ProvedBefore spec before number) →
      (search : Search) (o : Outcome) →
      IsFalse spec goal bounds.search.tries (substitutions spec goal bounds.search.depth) search →
      Finds spec goal bounds.search.steps bounds.search.tries
      (substitutions spec goal bounds.search.depth) search →
      IsOutcomeOf bounds spec lemmas goal search o →
      IsShown (above_of spec) spec bounds.search.steps before goal o
  outcome_is_shown lemmas goal before known (Found index row) o f e is =
      subst (λ o. IsShown (above_of spec) spec bounds.search.steps before goal o) (sym is)
      (refuted_is_shown (above_of spec) spec bounds.search.steps goal before index row f.2 e.2)
  outcome_is_shown lemmas goal before known (NotFound tried skipped cut) (Proved block) f e is =
      proves_behind spec behind bounds lemmas goal before known block
      (budget_of bounds tried skipped cut) is
  outcome_is_shown lemmas goal before known (NotFound tried skipped cut) (Refuted index values) f e
      is =
      absurd is
  outcome_is_shown lemmas goal before known (NotFound tried skipped cut) (Open budget) f e is = tt

  all_shown :
      (seen goals others : List Goal) (before claims : List Claim) →
      seen ++ (goals ++ others) ≡ spec.goals → claimed_names before ≡ goal_names seen →
      AreClaims (IsNextClaim bounds spec) before goals claims →
      AreShown (above_of spec) spec bounds.search.steps before goals claims
  all_shown seen [] others before [] all names a = tt
  all_shown seen (g ∷ goals) others before [] all names a = absurd a
  all_shown seen [] others before (c ∷ claims) all names a = absurd a
  all_shown seen (g ∷ goals) others before (c ∷ claims) all names a =
      let known = proved_known spec seen ((g ∷ goals) ++ others) before all names in (
        a.0.name,
        outcome_is_shown (proved_goals before) g before known a.0.search c.outcome a.0.false
            a.0.exact a.0.outcome,
        all_shown (seen ++ g ∷ []) goals others (before ++ c ∷ []) claims
            (append_assoc seen (g ∷ []) (goals ++ others) ∙ all)
            (names_with seen g before c names a.0.name) a.1,
      )

  names_of_claims :
      (before : List Claim) (goals : List Goal) (claims : List Claim) →
      AreClaims (IsNextClaim bounds spec) before goals claims →
      claimed_names claims ≡ goal_names goals
  names_of_claims before [] [] a = refl
  names_of_claims before (g ∷ goals) [] a = absurd a
  names_of_claims before [] (c ∷ claims) a = absurd a
  names_of_claims before (g ∷ goals) (c ∷ claims) a =
      let others = names_of_claims (before ++ c ∷ []) goals claims a.1 in
      ap (λ n. n ∷ claimed_names claims) a.0.name ∙ ap (λ ns. g.name ∷ ns) others

  first_accepted :
      (goals others : List Goal) (claims : List Claim) → goals ++ others ≡ spec.goals →
      AreClaims (IsNextClaim bounds spec) [] goals claims →
      ClaimsAreAccepted (above_of spec) spec bounds.search.steps [] claims
  first_accepted goals others claims all a =
      claims_accepted (above_of spec) spec bounds.search.steps fine.names [] goals others [] claims all refl
      (all_shown [] goals others [] claims all refl a)

  -- the report of claims on all goals is accepted
  pub report_accepted :
      (claims : List Claim) → AreClaims (IsNextClaim bounds spec) [] spec.goals claims →
      IsAccepted (above_of spec) spec (report_of bounds.search.steps claims)
  report_accepted claims a = first_accepted spec.goals [] claims (append-nil spec.goals) a

  -- what claims on the goals before a goal prove are its lemmas
  pub lemmas_of_next :
      (i : ℕ) (goal : Goal) (claims : List Claim) → slice_get spec.goals i ≡ Some goal →
      AreClaims (IsNextClaim bounds spec) [] (take i spec.goals) claims →
      AreLemmas bounds.search.steps spec goal (proved_goals claims)
  lemmas_of_next i goal claims at a =
      let seen = take i spec.goals in
      let others = drop (suc i) spec.goals in
      let all : seen ++ goal ∷ others ≡ spec.goals = parts spec.goals i goal at in
      let names = names_of_claims [] seen claims a in
      record {
        before = claims;
        accepted = first_accepted seen (goal ∷ others) claims all a;
        unclaimed =
            next_unclaimed (above_of spec) spec bounds.search.steps fine.names seen others goal claims all
            names;
        proved = proved_known spec seen (goal ∷ others) claims all names;
      }
