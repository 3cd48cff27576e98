-- Values that stay.
use Rattle.std.proofs.Common.{◌≡◌, ℕ, List, [], ◌∷◌, ◌++◌, Some, None, inl, inr, ap, sym, ◌∙◌, subst}
use Rattle.std.specs.Prelude.{slice_get}
use Rattle.term_core.specs.Tree.{Tree}
use Rattle.term_core.specs.declared.ids.SortId.{SortId}
use Rattle.spec_core.specs.declared.records.Spec.{Spec}
use Rattle.spec_core.specs.Sorts.{IsValue}
use Rattle.spec_core.specs.WellSorted.{IsWellSorted}
use Rattle.spec_core.proofs.SmallValues.{same_sort}
use Rattle.value_bank.specs.Cells.{Cell, IsTerm, AddsCells}
use Rattle.value_bank.proofs.Terms.{term_kept, terms_kept, one_term_at}
use Rattle.bank_core.proofs.Ends.{at_end}
use Rattle.rule_code.specs.Programs.{Program}
use Rattle.bank_machine.specs.declared.kept_calls.KeptCalls.{KeptCalls}
use Rattle.bank_machine.specs.KeptCalls.{AreRight}
use Rattle.sample_values.specs.declared.known_values.Known.{Known}
use Rattle.sample_values.specs.Evaluators.{Evaluated, HasValue, IsEvaluator}
use Rattle.sample_values.specs.Pools.{IsPool}

-- calls that are kept stay right when cells are added
right_kept : (spec : Spec) (old new : List Cell) (kept : KeptCalls) → AddsCells old new → AreRight spec old kept →
    AreRight spec new kept
right_kept spec old new kept adds all f ps known says =
    let r = all f ps known says in
    record {
      args = r.args;
      value = r.value;
      stand = terms_kept old new ps r.args adds r.stand;
      there = term_kept old new known.place r.value adds r.there;
      gives = r.gives;
    }

-- an evaluator stays one when cells are added
pub evaluator_kept : (spec : Spec) (p : Program) (sides : List ℕ) (old new : List Cell) (kept : KeptCalls) →
    AddsCells old new → IsEvaluator spec p sides old kept → IsEvaluator spec p sides new kept
evaluator_kept spec p sides old new kept adds h = record {
  fine = h.fine;
  same = h.same;
  of_sides = h.of_sides;
  count = h.count;
  of_kept = right_kept spec old new kept adds h.of_kept;
}

-- a pool stays one when cells are added
pub pool_kept : (old new : Evaluated) (known : List Known) → new.spec ≡ old.spec → AddsCells old.cells new.cells →
    IsPool old known → IsPool new known
pool_kept old new known same adds h = record {
  fine = subst (λ s. IsWellSorted s) (sym same) h.fine;
  known = λ n k at.
      let v = h.known n k at in (
        v.0,
        term_kept old.cells new.cells k.place v.0 adds v.1,
        subst (λ (s : Spec). IsValue s.sig k.sort v.0) (sym same) v.2,
      );
}

-- a value has its sort by the sort's number
pub has_value_as : (e : Evaluated) (place : ℕ) (s t : SortId) → s.0 ≡ t.0 → HasValue e place s → HasValue e place t
has_value_as e place s t same h = subst (λ x. HasValue e place x) (same_sort s t same) h

-- the term at a place with a value is that value
pub value_there : (e : Evaluated) (place : ℕ) (sort : SortId) (t : Tree) → HasValue e place sort →
    IsTerm e.cells place t → IsValue e.spec.sig sort t
value_there e place sort t h there =
    subst (λ u. IsValue e.spec.sig sort u) (one_term_at e.cells place h.0 t h.1 there) h.2
