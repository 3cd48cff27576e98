-- The claims that a specification's goals get by searches for counterexamples.
use Rattle.std.specs.Prelude.{◌≡◌, ℕ, List, [], ◌∷◌, ◌++◌, Bool}
use Rattle.std.specs.List.{zip}
use Rattle.term_core.specs.Tree.{Tree}
use Rattle.spec_core.specs.declared.records.Spec.{Spec}
use Rattle.spec_core.specs.declared.records.Goal.{Goal}
use Rattle.spec_core.specs.declared.records.VarInfo.{VarInfo}
use Rattle.spec_core.specs.Order.{substitutions}
use Rattle.spec_core.specs.TermText.{variable_names}
use Rattle.refuter.specs.declared.answers.Search.{Search}
use Rattle.refuter.specs.declared.answers.Search.TheVariants.{Found, NotFound}
use Rattle.refuter.specs.Finds.{Finds, IsFalse}
use Rattle.clause_core.specs.declared.reports.Budget.{Budget}
use Rattle.clause_core.specs.declared.reports.Claim.{Claim}
use Rattle.clause_core.specs.declared.reports.Outcome.{Outcome}
use Rattle.clause_core.specs.declared.reports.Outcome.TheVariants.{Refuted, Open}
use Rattle.clause_core.specs.declared.reports.Report.{Report}
use Rattle.command_line.specs.declared.bounds.SearchBounds.{SearchBounds}

-- each value with the name of its variable
abbrev pub named : List VarInfo → List Tree → List (List ℕ × Tree)
named vars values = zip (variable_names vars) values

-- how far a goal was tried: no proof was looked for
abbrev pub budget_of : SearchBounds → ℕ → ℕ → Bool → Budget
budget_of bounds tried skipped cut =
    record {
      depth = bounds.depth;
      tried = tried;
      skipped = skipped;
      cut = cut;
      plain = 0;
      nodes = 0;
    }

-- the outcome that the answer of a search means
abbrev pub outcome_of : SearchBounds → Goal → Search → Outcome
outcome_of bounds goal (Found index values) = Refuted index (named goal.vars values)
outcome_of bounds goal (NotFound tried skipped cut) = Open (budget_of bounds tried skipped cut)

module _ (bounds : SearchBounds) (spec : Spec) where
  -- the claim is on this goal and says what a search among its substitutions answers; under a
  -- counterexample the goal is false
  pub record IsClaimOn (goal : Goal) (claim : Claim) : Type 0 where
    pub search : Search
    pub name : claim.goal ≡ goal.name
    pub outcome : claim.outcome ≡ outcome_of bounds goal search
    pub false : IsFalse spec goal bounds.tries (substitutions spec goal bounds.depth) search
    pub exact :
        Finds spec goal bounds.steps bounds.tries (substitutions spec goal bounds.depth) search

-- by what a claim on a goal is, after the claims on the goals before it
module _ (IsOn : List Claim → Goal → Claim → Type 0) where
  -- after these claims there are claims on the first goals, one for each and in their order
  abbrev pub AreFirstClaims : List Claim → List Goal → List Claim → Type 0
  AreFirstClaims before goals [] = Unit {0}
  AreFirstClaims before [] (claim ∷ claims) = ⊥
  AreFirstClaims before (goal ∷ goals) (claim ∷ claims) =
      IsOn before goal claim × AreFirstClaims (before ++ claim ∷ []) goals claims

  -- after these claims there are claims on all goals, one for each and in their order
  abbrev pub AreClaims : List Claim → List Goal → List Claim → Type 0
  AreClaims before [] [] = Unit {0}
  AreClaims before (goal ∷ goals) [] = ⊥
  AreClaims before [] (claim ∷ claims) = ⊥
  AreClaims before (goal ∷ goals) (claim ∷ claims) =
      IsOn before goal claim × AreClaims (before ++ claim ∷ []) goals claims

-- the report of these claims, if a side's evaluation may cost this many rule uses
abbrev pub report_of : ℕ → List Claim → Report
report_of steps claims = record { steps = steps; claims = claims }
