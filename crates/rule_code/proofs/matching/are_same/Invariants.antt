use Rattle.std.proofs.Common.{◌≡◌, ℕ, ◌<◌, List, Some, drop}
use Rattle.std.specs.Prelude.{slice_get}
use Rattle.term_core.specs.Tree.{Tree, var, instance, trees_of}
use Rattle.value_bank.specs.Cells.{AreTerms}
use Rattle.rule_code.specs.declared.tests.Repeat.{Repeat}
use Rattle.rule_code.proofs.matching.are_same.Given as goal

abbrev pub invariant-loop-repeat : goal.invariant-loop-repeat
invariant-loop-repeat l = (grown : List Tree) → AreTerms l.bank (drop l.base l.places) (trees_of grown) →
    (k : ℕ) (r : Repeat) → k < l.repeat-index → slice_get l.repeats k ≡ Some r →
    instance grown (var r.first) ≡ instance grown (var r.again)
