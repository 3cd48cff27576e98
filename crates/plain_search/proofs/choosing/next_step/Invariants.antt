use Rattle.std.proofs.Common.{◌≡◌, Option, Some, drop}
use Rattle.std.specs.Prelude.{slice_get}
use Rattle.clause_core.specs.declared.clauses.Clause.{Clause}
use Rattle.inference_rules.specs.Answers.{clauses_of}
use Rattle.plain_search.specs.declared.candidates.Taken.{Taken}
use Rattle.plain_search.specs.Candidates.{IsFirstTaken}
use Rattle.plain_search.proofs.Chosen.{all}
use Rattle.plain_search.proofs.choosing.next_step.Given as goal

abbrev pub invariant-loop-candidate : goal.invariant-loop-candidate
invariant-loop-candidate g l =
    (start c : Clause) → slice_get (clauses_of l.nodes) 0 ≡ Some start →
    slice_get (clauses_of l.nodes) l.node ≡ Some c → (found : Option Taken) →
    IsFirstTaken (g.O.TermOrder.above l.order) l.spec start (clauses_of l.nodes) c (drop l.candidate-index all) found →
    IsFirstTaken (g.O.TermOrder.above l.order) l.spec start (clauses_of l.nodes) c all found
