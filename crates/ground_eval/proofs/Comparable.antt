-- Equations that can be compared, when cells are added.
use Rattle.std.proofs.Common.{List}
use Rattle.term_core.specs.Tree.{Tree}
use Rattle.spec_core.specs.declared.records.Equation.{Equation}
use Rattle.spec_core.specs.declared.records.Spec.{Spec}
use Rattle.value_bank.specs.Cells.{Cell, AddsCells}
use Rattle.value_bank.specs.declared.bank.ValueId.{ValueId}
use Rattle.value_bank.proofs.Terms.{term_kept, terms_kept}
use Rattle.rule_code.specs.Programs.{Program}
use Rattle.bank_machine.specs.KeptCalls.{AreRight}
use Rattle.bank_machine.specs.declared.kept_calls.KeptCalls.{KeptCalls}
use Rattle.ground_eval.specs.declared.comparing.SidePair.{SidePair}
use Rattle.ground_eval.specs.Prepared.{CanCompareAll}
use Rattle.ground_eval.proofs.SharedSides.{stand_kept}

pub compared_still : (p : Program) (old new : List Cell) (pairs : List SidePair) (ids : List ValueId)
    (es : List Equation) (values : List Tree) → AddsCells old new → CanCompareAll p old pairs ids es values →
    CanCompareAll p new pairs ids es values
compared_still p old new pairs ids es values adds h = record {
  code = h.code;
  stand = stand_kept old new ids
      values adds h.stand;
  built = h.built;
  sorted = h.sorted;
}

-- what is known of calls stays right when cells are added
pub right_still : (spec : Spec) (old new : List Cell) (kept : KeptCalls) → AddsCells old new →
    AreRight spec old kept → AreRight spec new kept
right_still spec old new kept adds all f ps known says =
    let r = all f ps known says in
    record {
      args = r.args;
      value = r.value;
      stand = terms_kept old new ps r.args adds r.stand;
      there = term_kept old new known.place r.value adds r.there;
      gives = r.gives;
    }
