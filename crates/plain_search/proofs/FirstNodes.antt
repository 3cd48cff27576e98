-- The first node of the block of a goal with a plain proof.
use Rattle.std.proofs.Common.{◌≡◌, ℕ, List, [], ◌∷◌, map, ap, sym, subst}
use Rattle.std.specs.List.{AllByRecursion}
use Rattle.spec_core.specs.declared.records.Goal.{Goal}
use Rattle.spec_core.specs.declared.records.Spec.{Spec}
use Rattle.spec_core.specs.declared.records.VarInfo.{VarInfo}
use Rattle.spec_core.specs.Sig.{Sig, IsSort}
use Rattle.spec_core.specs.WellSorted.{IsWellSorted, GoalIsSorted, sorts_of}
use Rattle.clause_core.specs.declared.clauses.Clause.{Clause}
use Rattle.clause_core.specs.ClauseLaws.{TidyingLaws}
use Rattle.clause_core.specs.Clauses.{ClauseIsSorted}
use Rattle.clause_core.specs.Limits.{IsWithin}
use Rattle.clause_core.specs.Tidied.{renumbered_equation, variables_of, written_clause, goal_clause}
use Rattle.descent.specs.SortedChildren.{IsNode}
use Rattle.plain_proof.specs.PlainProofs.{IsPlain}
use Rattle.plain_search.specs.Candidates.{IsStart}

sorts_all : (sig : Sig) (vars : List VarInfo) → AllByRecursion (λ (v : VarInfo). IsSort sig v.sort) vars →
    AllByRecursion (IsSort sig) (sorts_of vars)
sorts_all sig [] h = tt
sorts_all sig (v ∷ vars) h = (h.0, sorts_all sig vars h.1)

written_sorted : (sig : Sig) (goal : Goal) → GoalIsSorted sig goal → ClauseIsSorted sig (written_clause goal)
written_sorted sig goal h = record {
  variables = sorts_all sig goal.vars h.variables;
  premises = h.premises;
  conclusions = h.conclusions;
}

module _ (laws : TidyingLaws) (spec : Spec) (fine : IsWellSorted spec) (goal : Goal)
    (sorted : GoalIsSorted spec.sig goal) (x long : ℕ) (p : IsPlain spec goal x long) where
  written_within : IsWithin (written_clause goal)
  written_within =
      let e = p.equation in
      let w : IsWithin (record {
        ctx = sorts_of goal.vars;
        premises = [];
        conclusions = e ∷ [];
      }) = record {
        equations = p.within.equations;
        depth = p.within.depth;
        size = p.within.size;
      } in
      subst (λ (c : Clause). IsWithin c)
      (λ i. record { ctx = sorts_of goal.vars; premises = sym p.no_premises i; conclusions = sym p.conclusion i }) w

  pub first_is_node : IsNode spec.sig (goal_clause goal)
  first_is_node = record {
    sorted = laws.keeps_sorts spec.sig (written_clause goal) fine.signature (written_sorted spec.sig goal sorted);
    is_tidied = laws.is_tidied (written_clause goal);
    within = (laws.keeps_limits (written_clause goal)).1 written_within;
  }

  pub first_premises : (goal_clause goal).premises ≡ []
  first_premises = ap (λ es. map (renumbered_equation (variables_of (written_clause goal))) es) p.no_premises

  pub first_is_start : IsStart (goal_clause goal)
  first_is_start = record {
    equation = renumbered_equation (variables_of (written_clause goal)) p.equation;
    no_premises = first_premises;
    conclusion = ap (λ es. map (renumbered_equation (variables_of (written_clause goal))) es) p.conclusion;
    is_tidied = laws.is_tidied (written_clause goal);
  }
