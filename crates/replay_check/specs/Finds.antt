-- What some of a report's tests find.
use Rattle.std.specs.Prelude.{Result, Ok, Err}
use Rattle.spec_core.specs.Findings.{Search, First}
use Rattle.acceptance.specs.Refusals.{Refusal}
use Rattle.replay_check.specs.declared.answers.Stop.{Stop}
use Rattle.replay_check.specs.declared.answers.Stop.TheVariants.{Refused, OutOfMemory}

-- what is asked of the result holds, or this refusal is the first that the tests find; want of
-- memory may always come
abbrev pub Finds : {T : Type 0} → Search Refusal → (T → Type 0) → Result T Stop → Type 0
Finds tests P (Ok result) = P result
Finds tests P (Err (Refused line why)) = First tests (line, why)
Finds tests P (Err OutOfMemory) = Unit {0}
