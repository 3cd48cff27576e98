-- A claim that is trimmed, in the report that is given.
use Rattle.std.specs.Prelude.{take}
use Rattle.term_core.specs.Tree.{Tree}
use Rattle.spec_core.specs.declared.records.Spec.{Spec}
use Rattle.acceptance.specs.Accepting.{IsAccepted}
use Rattle.claimed_goals.specs.Tracking.{AreProved}
use Rattle.script_trim.specs.declared.placing.ClaimAt.{ClaimAt}
use Rattle.script_trim.specs.Trying.{AreLemmas}

module _ (above : Tree → Tree → Type 0) (spec : Spec) where
  -- the report is accepted, and the lemmas are the goals that the claims before this one prove
  pub record IsPlaced (place : ClaimAt) : Type 0 where
    pub accepted : IsAccepted above spec place.report.now
    pub clauses : AreLemmas spec place.lemmas.now
    pub proved :
        AreProved spec (take place.number place.report.now.claims) place.lemmas.now.numbers.items
