-- What is allowed in a block depends on the links of its nodes alone.
use Rattle.std.specs.Prelude.{◌↔◌, ℕ, List, map}
use Rattle.clause_core.specs.declared.answers.Children.{Children}
use Rattle.acceptance.specs.Strict.{NodeIsAllowed}
use Rattle.acceptance.specs.AllowedAnswers.{IsWholeBlock}
use Rattle.block_links.specs.Links.{links_of}

-- by its links a node is allowed if and only if it is, and the links of a whole block are one
pub record LinksDecide : Type 0 where
  pub allowed :
      (made : List Children) (k : ℕ) → NodeIsAllowed (map links_of made) k ↔ NodeIsAllowed made k
  pub whole : (made : List Children) → IsWholeBlock made → IsWholeBlock (map links_of made)
