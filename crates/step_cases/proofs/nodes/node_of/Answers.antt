use Rattle.std.proofs.Common.{◌≡◌, List, [], ◌∷◌, Some, length, get_or, refl, sym, subst}
use Rattle.std.specs.Prelude.{slice_get}
use Rattle.std.specs.List.{AllByRecursion}
use Rattle.std.proofs.lemmas.Option.{slice_get_read}
use Rattle.spec_core.specs.declared.records.Goal.{Goal}
use Rattle.spec_core.specs.declared.records.VarInfo.{VarInfo}
use Rattle.spec_core.specs.Sig.{Sig, IsSort}
use Rattle.spec_core.specs.WellSorted.{GoalIsSorted, sorts_of}
use Rattle.clause_core.specs.declared.clauses.Clause.{Clause}
use Rattle.clause_core.specs.Clauses.{ClauseIsSorted}
use Rattle.clause_core.specs.Tidied.{IsTidied, written_clause, goal_clause}
use Rattle.step_cases.proofs.nodes.node_of.Goals as goal

sorts_in : (sig : Sig) (vars : List VarInfo) → AllByRecursion (λ (v : VarInfo). IsSort sig v.sort) vars →
    AllByRecursion (IsSort sig) (sorts_of vars)
sorts_in sig [] p = tt
sorts_in sig (v ∷ vs) p = (p.0, sorts_in sig vs p.1)

written_sorted : (sig : Sig) (g : Goal) → GoalIsSorted sig g → ClauseIsSorted sig (written_clause g)
written_sorted sig g p = record {
  variables = sorts_in sig g.vars p.variables;
  premises = p.premises;
  conclusions = p.conclusions;
}

pub returns : goal.returns
returns c =
    let spec = c.args.spec.now in
    let g = c.index-as_slice-number.result in
    let n = c.in_ok-number.number in
    let at : slice_get spec.goals n ≡ Some g = slice_get_read spec.goals (length spec.goals) n g refl
    c.in_ok-number.ensures (subst (λ gs. g ≡ get_or gs n g) c.as_slice.ensures c.index-as_slice-number.is) in
    let e : c.in_ok-clause.clause ≡ goal_clause g = c.in_ok-clause.ensures in
    let laws = c.tidying_laws.ensures in
    record {
      sorted = subst (λ (d : Clause). ClauseIsSorted spec.sig d) (sym e)
          (laws.keeps_sorts spec.sig (written_clause g) c.requires.fine.signature
          (written_sorted spec.sig g (c.requires.fine.goals n g at)));
      is_tidied = subst (λ (d : Clause). IsTidied d) (sym e) (laws.is_tidied (written_clause g));
      within = c.if-not-within.ensures.0 refl;
    }
