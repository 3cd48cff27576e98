-- What a search answers on a goal may appear in a report, and has few bytes there.
use Rattle.std.proofs.Common.{◌≡◌, ℕ, ◌≤◌, List, [], ◌∷◌, inl, inr, Bool, arith, length, take, sym, subst}
use Rattle.std.specs.List.{AllByRecursion}
use Rattle.std.proofs.lemmas.List.{length-take}
use Rattle.term_core.specs.Tree.{Tree, tree_size, tree_depth}
use Rattle.spec_core.specs.declared.records.Goal.{Goal}
use Rattle.spec_core.specs.declared.records.Spec.{Spec}
use Rattle.spec_core.specs.declared.records.VarInfo.{VarInfo}
use Rattle.spec_core.specs.Order.{substitutions}
use Rattle.spec_core.specs.Sig.{names_of}
use Rattle.refuter.specs.declared.answers.Search.TheVariants.{Found, NotFound}
use Rattle.refuter.specs.Finds.{Finds, IsFalse, SpentRows}
use Rattle.clause_core.specs.declared.reports.Budget.{Budget}
use Rattle.clause_core.specs.declared.reports.Claim.{Claim}
use Rattle.clause_core.specs.declared.reports.Outcome.{Outcome}
use Rattle.clause_core.specs.declared.reports.Outcome.TheVariants.{Refuted, Open}
use Rattle.proof_script.specs.Claims.{first_line, other_lines}
use Rattle.proof_script.specs.Names.{IsReportName}
use Rattle.proof_script.specs.Reports.{BudgetStands, ClaimStands, OutcomeStands}
use Rattle.proof_script.specs.Words.{lines_text}
use Rattle.proof_script.proofs.Begun.{IsSmall}
use Rattle.search_claims.specs.Claims.{named}
use Rattle.search_claims.specs.Names.{GoalNamesStand}
use Rattle.search_claims.proofs.Bytes.{refuted_bytes, open_bytes}
use Rattle.search_claims.proofs.Depths.{row_few, row_shallow}
use Rattle.search_claims.proofs.NamedValues.{named_few}
use Rattle.search_claims.proofs.ValuesStand.{values_stand}

all_weaker : (d e : ℕ) (ts : List Tree) → d ≤ e → AllByRecursion (λ t. tree_depth t ≤ d) ts →
    AllByRecursion (λ t. tree_depth t ≤ e) ts
all_weaker d e [] l a = tt
all_weaker d e (t ∷ ts) l a = (omega (arith, a.0), all_weaker d e ts l a.1)

named_small : (vars : List VarInfo) (values : List Tree) → AllByRecursion (λ t. tree_size t ≤ 255) values →
    AllByRecursion (λ v. tree_size v.1 ≤ 255) (named vars values)
named_small [] values a = tt
named_small (v ∷ vars) [] a = tt
named_small (v ∷ vars) (t ∷ values) a = (a.0, named_small vars values a.1)

-- a claim of this outcome on a goal of this name may appear in a report, and has few bytes there
pub record MayStand (spec : Spec) (name : List ℕ) (outcome : Outcome) : Type 0 where
  pub stands : OutcomeStands spec.sig outcome
  pub small : length (lines_text spec.sig (first_line name outcome ∷ other_lines outcome)) ≤ 300000

module _ (spec : Spec) (goal : Goal) (names : GoalNamesStand goal) where
  -- what a search finds among values of depth at most 8, by at most 1,000,000 tries
  pub refuted_stands : AllByRecursion IsReportName (names_of spec.sig) → length goal.vars ≤ 16 →
      (depth tries index : ℕ) (row : List Tree) → depth ≤ 8 → tries ≤ 1000000 →
      IsFalse spec goal tries (substitutions spec goal depth) (Found index row) →
      MayStand spec goal.name (Refuted index (named goal.vars row))
  refuted_stands symbols few depth tries index row shallow short f =
      let deep = all_weaker depth 100 row (omega arith) (row_shallow spec goal depth index row f.1) in
      let stands : OutcomeStands spec.sig (Refuted index (named goal.vars row)) = (
        omega (arith, f.0),
        omega (arith, named_few goal.vars row, few),
        values_stand spec symbols goal.vars row names.variables f.2 deep,
      ) in
      record {
        stands = stands;
        small = refuted_bytes spec.sig goal.name index (named goal.vars row) names.goal_name stands
            (named_small goal.vars row (row_few spec goal depth index row f.1));
      }

  -- an open goal, whatever was looked for beside values
  pub open_stands : (b : Budget) → BudgetStands b → MayStand spec goal.name (Open b)
  open_stands b h = record { stands = h; small = open_bytes spec.sig goal.name b names.goal_name h }

module _ (spec : Spec) (goal : Goal) (budget : ℕ) where
  spent_few : (rows : List (List Tree)) (n : ℕ) → SpentRows spec goal budget rows n → n ≤ length rows
  spent_few [] n h = omega (arith, h)
  spent_few (row ∷ rows) n (inl h) = omega (arith, h.1.1, spent_few rows h.1.0 h.1.2)
  spent_few (row ∷ rows) n (inr h) = omega (arith, spent_few rows n h.1)

  -- a search that finds nothing tried and skipped at most as many as it was to try
  pub tried_few : (tries : ℕ) (rows : List (List Tree)) (tried skipped : ℕ) (cut : Bool) →
      Finds spec goal budget tries rows (NotFound tried skipped cut) → (tried ≤ tries) × (skipped ≤ tries)
  tried_few tries rows tried skipped cut f =
      (omega (arith, f.0), omega (arith, f.0, spent_few (take tried rows) skipped f.3, length-take tried rows))

-- the claim itself
pub claim_stands : (spec : Spec) (claim : Claim) (name : List ℕ) (outcome : Outcome) → IsReportName name →
    claim.goal ≡ name → claim.outcome ≡ outcome → MayStand spec name outcome → ClaimStands spec.sig claim
    × IsSmall spec.sig claim
claim_stands spec claim name outcome n g o m =
    let h = subst (λ x. MayStand spec claim.goal x) (sym o) (subst (λ x. MayStand spec x outcome) (sym g) m) in
    (record { goal = subst IsReportName (sym g) n; outcome = h.stands }, h.small)
