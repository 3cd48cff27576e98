-- What the claim of a search says of its goal, by its outcome.
use Rattle.std.proofs.Common.{◌≡◌, ◌∙◌, ℕ, List, refl, sym}
use Rattle.term_core.specs.Tree.{Tree}
use Rattle.spec_core.specs.declared.records.Spec.{Spec}
use Rattle.spec_core.specs.declared.records.Goal.{Goal}
use Rattle.spec_core.specs.Order.{substitutions}
use Rattle.refuter.specs.declared.answers.Search.{Search}
use Rattle.refuter.specs.declared.answers.Search.TheVariants.{Found, NotFound}
use Rattle.refuter.specs.Finds.{Finds, IsFalse}
use Rattle.clause_core.specs.declared.reports.Budget.{Budget}
use Rattle.clause_core.specs.declared.reports.Claim.{Claim}
use Rattle.clause_core.specs.declared.reports.Outcome.TheVariants.{Refuted, Open}
use Rattle.command_line.specs.declared.bounds.SearchBounds.{SearchBounds}
use Rattle.search_claims.specs.Claims.{IsClaimOn, budget_of, named, outcome_of}

module _ (bounds : SearchBounds) (spec : Spec) (goal : Goal) where
  pub refuted_so :
      (claim : Claim) (index : ℕ) (values : List (List ℕ × Tree)) → IsClaimOn bounds spec goal claim →
      claim.outcome ≡ Refuted index values →
      IsClaimOn bounds spec goal (record { goal = goal.name; outcome = Refuted index values })
  refuted_so claim index values is e =
      record {
        search = is.search;
        name = refl;
        outcome = sym e ∙ is.outcome;
        false = is.false;
        exact = is.exact;
      }

  -- if it isn't a counterexample, it is open
  pub left_open :
      (claim : Claim) → IsClaimOn bounds spec goal claim →
      ((index : ℕ) (values : List (List ℕ × Tree)) → claim.outcome ≡ Refuted index values → ⊥) →
      (budget : Budget) × IsClaimOn bounds spec goal (record { goal = goal.name; outcome = Open budget })
  left_open claim is other = by is.search is.outcome is.false is.exact
    where
      rows : List (List Tree)
      rows = substitutions spec goal bounds.depth

      by :
          (search : Search) → claim.outcome ≡ outcome_of bounds goal search →
          IsFalse spec goal bounds.tries rows search →
          Finds spec goal bounds.steps bounds.tries rows search →
          (budget : Budget) × IsClaimOn bounds spec goal (record { goal = goal.name; outcome = Open budget })
      by (Found index values) e false exact = absurd (other index (named goal.vars values) e)
      by (NotFound tried skipped cut) e false exact = (
        budget_of bounds tried skipped cut,
        record {
          search = NotFound tried skipped cut;
          name = refl;
          outcome = refl;
          false = false;
          exact = exact;
        },
      )
