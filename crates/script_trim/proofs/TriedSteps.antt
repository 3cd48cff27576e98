-- A step that is answered by a reason makes nothing.
use Rattle.std.proofs.Common.{◌≡◌, Ok, Err}
use Rattle.std.specs.Prelude.{Contains, Result}
use Rattle.term_core.specs.Tree.{Tree}
use Rattle.clause_core.specs.declared.answers.Children.{Children}
use Rattle.clause_core.specs.declared.answers.Why.{Why}
use Rattle.clause_core.specs.declared.steps.Step.{Step}
use Rattle.clause_core.specs.Says.{Says}
use Rattle.clause_core.specs.StepLaws.{OneAnswer}
use Rattle.clause_core.specs.Steps.{row_of}
use Rattle.inference_rules.specs.Answers.{clauses_of}
use Rattle.script_trim.specs.declared.fitting.Spot.{Spot}
use Rattle.script_trim.specs.Trying.{IsSpot, MakesThere}
use Rattle.script_trim.proofs.Unfit.{says_here}

pub makes_nothing : (above : Tree → Tree → Type 0) → OneAnswer above → (spot : Spot) → IsSpot spot →
    (step : Step) (why : Why) → Says above spot.here.now (clauses_of spot.nodes.now)
    (row_of spot.spec.now (Contains spot.proved.now) (clauses_of spot.nodes.now) spot.here.now step) (Err why) →
    (made : Children) → MakesThere above spot step made → ⊥
makes_nothing above one spot is step why says made makes =
    let e : ◌≡◌ {A = Result Children Why} (Ok made) (Err why) =
    one spot.spec.now spot.proved.now (clauses_of spot.nodes.now) spot.here.now step (Ok made) (Err why) is.fine
    (says_here above spot is step made makes) says in
    absurd (cc)
