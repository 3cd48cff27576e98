-- The symbols in the lines of a claim are the signature's, which the printer of claims asks.
use Rattle.std.proofs.Common.{ℕ, List, [], ◌∷◌, sym, subst}
use Rattle.std.specs.Prelude.{map}
use Rattle.std.specs.List.{AllByRecursion}
use Rattle.term_core.specs.Tree.{Tree}
use Rattle.spec_core.specs.declared.records.Goal.{Goal}
use Rattle.spec_core.specs.declared.records.Spec.{Spec}
use Rattle.spec_core.specs.declared.records.VarInfo.{VarInfo}
use Rattle.spec_core.specs.Order.{substitutions}
use Rattle.spec_core.specs.Truth.{AreValuesOf}
use Rattle.spec_core.specs.WellSorted.{sorts_of}
use Rattle.rule_code.proofs.Ranges.{sorted_in_range}
use Rattle.refuter.specs.declared.answers.Search.{Search}
use Rattle.refuter.specs.declared.answers.Search.TheVariants.{Found, NotFound}
use Rattle.refuter.specs.Finds.{IsFalse}
use Rattle.clause_core.specs.declared.reports.Budget.{Budget}
use Rattle.clause_core.specs.declared.reports.Claim.{Claim}
use Rattle.clause_core.specs.declared.reports.Outcome.{Outcome}
use Rattle.clause_core.specs.declared.reports.Outcome.TheVariants.{Refuted, Open}
use Rattle.proof_script.specs.Claims.{first_line, other_lines, value_line}
use Rattle.proof_script.specs.Ranges.{ClaimIsInRange, LineIsInRange}
use Rattle.command_line.specs.declared.bounds.SearchBounds.{SearchBounds}
use Rattle.search_claims.specs.Claims.{budget_of, outcome_of, IsClaimOn, named}

module _ (spec : Spec) where
  -- the lines of a claim of this outcome
  abbrev pub OutcomeIsInRange : List ℕ → Outcome → Type 0
  OutcomeIsInRange name outcome =
      AllByRecursion (LineIsInRange spec.sig) (first_line name outcome ∷ other_lines outcome)

  named_in_range : (vars : List VarInfo) (values : List Tree) → AreValuesOf spec (sorts_of vars) values →
      AllByRecursion (LineIsInRange spec.sig) (map value_line (named vars values))
  named_in_range [] values h = tt
  named_in_range (v ∷ vars) [] h = absurd h
  named_in_range (v ∷ vars) (t ∷ values) h = (
    (tt, (sorted_in_range spec.sig [] t v.sort h.0.0, tt)),
    named_in_range vars values h.1,
  )

  pub refuted_in_range : (name : List ℕ) (index : ℕ) (vars : List VarInfo) (values : List Tree) →
      AreValuesOf spec (sorts_of vars) values → OutcomeIsInRange name (Refuted index (named vars values))
  refuted_in_range name index vars values h = ((tt, (tt, (tt, (tt, (tt, tt))))), named_in_range vars values h)

  pub open_in_range : (name : List ℕ) (b : Budget) → OutcomeIsInRange name (Open b)
  open_in_range name b = ((tt, (tt, (tt, (tt, (tt, (tt, (tt, (tt, (tt, (tt, (tt, (tt, (tt, tt))))))))))))), tt)

  pub claim_in_range : (bounds : SearchBounds) (goal : Goal) (claim : Claim) →
      IsClaimOn bounds spec goal claim → ClaimIsInRange spec.sig claim
  claim_in_range bounds goal claim c = subst (λ o. OutcomeIsInRange claim.goal o) (sym c.outcome) (by c.search c.false)
    where
      by : (search : Search) → IsFalse spec goal bounds.tries (substitutions spec goal bounds.depth) search →
          OutcomeIsInRange claim.goal (outcome_of bounds goal search)
      by (Found index values) f = refuted_in_range claim.goal index goal.vars values f.2
      by (NotFound tried skipped cut) f = open_in_range claim.goal (budget_of bounds tried skipped cut)
