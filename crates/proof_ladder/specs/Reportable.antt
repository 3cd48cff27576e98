-- What provers answer: a block whose claim a report may have, or nothing that says anything.
use Rattle.std.specs.Prelude.{ℕ, List}
use Rattle.term_core.specs.Tree.{Tree}
use Rattle.spec_core.specs.declared.records.Goal.{Goal}
use Rattle.spec_core.specs.declared.records.Spec.{Spec}
use Rattle.proof_script.specs.Ranges.{ClaimIsInRange}
use Rattle.proof_search.specs.declared.answers.Guided.{Guided}
use Rattle.proof_search.specs.declared.answers.Guided.TheVariants.{Block, Unfinished}
use Rattle.proof_search.specs.Guided.{IsAcceptedAfter, proved_by}

-- the claim that the block proves the goal can be written in a report, and it is accepted after any
-- claims that prove the lemmas and aren't on the goal
abbrev pub IsReportable :
    (Tree → Tree → Type 0) → Spec → List ℕ → Goal → Guided → Type 0
IsReportable above spec lemmas goal (Block block) =
    ClaimIsInRange spec.sig (proved_by goal block)
    × IsAcceptedAfter above spec lemmas goal (Block block)
IsReportable above spec lemmas goal Unfinished = Unit {0}
