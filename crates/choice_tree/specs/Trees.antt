-- The nodes of a tree that a search makes.
use Rattle.std.specs.Prelude.{List}
use Rattle.spec_core.specs.declared.records.Spec.{Spec}
use Rattle.spec_core.specs.WellSorted.{IsWellSorted}
use Rattle.inference_rules.specs.declared.nodes.Node.{Node}
use Rattle.inference_rules.specs.Answers.{clauses_of}
use Rattle.inference_rules.specs.Nodes.{AreNodes}

-- each can be a node of a block
pub record IsTree (spec : Spec) (made : List Node) : Type 0 where
  pub fine : IsWellSorted spec
  pub nodes : AreNodes spec.sig (clauses_of made)
