-- The specification that a raw one stands for.
use Rattle.std.specs.Prelude.{[]}
use Rattle.std.specs.List.{AllZip}
use Rattle.term_core.specs.Tree.{Tree}
use Rattle.spec_core.specs.declared.records.Spec.{Spec}
use Rattle.spec_core.specs.Sig.{Sig}
use Rattle.spec_core.specs.Declarations.{IsDeclared}
use Rattle.spec_core.specs.WellSorted.{GoalNamesAreDistinct}
use Rattle.spec_grammar.specs.RawTree.{RawTree}
use Rattle.spec_grammar.specs.declared.raw.RawSpec.{RawSpec}
use Rattle.sort_check.specs.Signatures.{SignatureStands}
use Rattle.sort_check.specs.Orders.{OrderStands}
use Rattle.sort_check.specs.Terms.{TermStands}
use Rattle.sort_check.specs.Rules.{RuleStands}
use Rattle.sort_check.specs.Goals.{GoalStands}
use Rattle.sort_check.specs.FirstFault.{HasNoFault, TermHasNoFault}

-- each declaration stands for that of the same number; names of sorts, of symbols and of goals are distinct, each sort has
-- a small value, and the order is the one that the lines give
pub record IsNumbered (raw : RawSpec) (spec : Spec) : Type 0 where
  pub signature : SignatureStands raw spec.sig
  pub declared : IsDeclared spec.sig
  pub order : OrderStands raw spec.sig spec.order
  pub rules : AllZip (RuleStands spec.sig) raw.rules spec.rules
  pub goals : AllZip (GoalStands spec.sig) raw.goals spec.goals
  pub names : GoalNamesAreDistinct spec.goals

-- no test of the raw specification finds a fault, and the other one is its numbering
pub record StandsFor (raw : RawSpec) (spec : Spec) : Type 0 where
  pub clean : HasNoFault raw
  pub numbered : IsNumbered raw spec

-- the same of a raw term and a term without variables over a signature
pub record TermStandsFor (sig : Sig) (raw : RawTree) (t : Tree) : Type 0 where
  pub clean : TermHasNoFault sig raw
  pub numbered : TermStands sig [] raw t
