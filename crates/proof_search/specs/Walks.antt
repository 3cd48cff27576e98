-- What happens at the next node on a walk past the nodes at which the routine strategy stops.
use Rattle.std.specs.Prelude.{◌≡◌, ◌<◌, true, Option, Some, None, length, slice_get}
use Rattle.clause_core.specs.declared.clauses.Clause.{Clause}
use Rattle.inference_rules.specs.Answers.{clauses_of}
use Rattle.routine_proof.specs.declared.moves.Move.{Move}
use Rattle.routine_proof.specs.Ways.{is_cover}
use Rattle.proof_search.specs.declared.building.Building.{Building}
use Rattle.proof_search.specs.declared.stuck.Cause.{Cause}
use Rattle.proof_search.specs.declared.stuck.Cause.TheVariants.{NoStep, Covers}
use Rattle.proof_search.specs.declared.passing.Turn.{Turn}
use Rattle.proof_search.specs.declared.passing.Turn.TheVariants.{End, Pass, Take, Cover}

-- the cause tells whether a move is chosen at a node other than the first, and that it is a cover
abbrev pub Tells : Option Move → Cause → Type 0
Tells next NoStep = next ≡ None
Tells next Covers = (move : Move) × (next ≡ Some move) × (is_cover move.step ≡ true)

-- the turn at the next node, where this move is chosen or none is
abbrev pub IsTurn : Building → Option Move → Turn → Type 0
IsTurn b next End = Unit {0}
IsTurn b next (Pass cause) = (0 < length b.steps.items) × Tells next cause
IsTurn b next (Take move) = next ≡ Some move
IsTurn b next (Cover move) =
    (0 < length b.steps.items) × (next ≡ Some move) × (is_cover move.step ≡ true)

-- the clause of the next node
abbrev pub IsNextClause : Building → Clause → Type 0
IsNextClause b clause = slice_get (clauses_of b.block.nodes.items) (length b.steps.items) ≡ Some clause
