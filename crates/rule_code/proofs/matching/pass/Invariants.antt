use Rattle.std.proofs.Common.{◌≡◌, List, drop, length}
use Rattle.term_core.specs.Tree.{Tree, trees_of}
use Rattle.value_bank.specs.Cells.{AreTerms}
use Rattle.rule_code.specs.Matching.{Opens}
use Rattle.rule_code.specs.Matched.{Extends}
use Rattle.rule_code.proofs.Testing.{IsPassing}
use Rattle.rule_code.proofs.matching.pass.Given as goal

abbrev pub invariant-loop-test : goal.invariant-loop-test
invariant-loop-test l = record {
  extends : Extends l.fn.places.items l.places.items;
  passing : (env pats all : List Tree) → Opens pats 0 l.tests all →
      AreTerms l.bank (drop l.base l.fn.places.items) (trees_of env) → length env ≡ length pats →
      IsPassing l.bank l.base l.places.items env l.tests (drop l.test-index l.tests) all;
}
