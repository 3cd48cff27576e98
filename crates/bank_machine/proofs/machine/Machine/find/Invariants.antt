use Rattle.std.proofs.Common.{◌≡◌, ℕ, ◌<◌, List, Some, drop}
use Rattle.std.specs.Prelude.{slice_get}
use Rattle.term_core.specs.Tree.{Tree, app, instance, trees_of}
use Rattle.term_core.specs.declared.ids.SortId.{SortId}
use Rattle.spec_core.specs.declared.records.Rule.{Rule}
use Rattle.value_bank.specs.Cells.{AreTerms}
use Rattle.bank_machine.specs.Sound.{IsReady}
use Rattle.bank_machine.proofs.machine.Machine.find.Given as goal

abbrev pub invariant-loop-number : goal.invariant-loop-number
invariant-loop-number l = record {
  same : l.places.items ≡ l.fn.places.items;
  none : (env : List Tree) (s : SortId) → AreTerms l.bank (drop l.base l.fn.places.items) (trees_of env) →
      IsReady l.self.spec l.sym (trees_of env) s → (j k : ℕ) (rule : Rule) (xs : List Tree) →
      j < l.number-index → slice_get l.numbers j ≡ Some k → slice_get l.self.spec.rules k ≡ Some rule →
      instance xs rule.left ≡ app l.sym (trees_of env) → ⊥;
}
