-- What a step answers: what its row says of the node's clause, or want of memory.
use Rattle.std.specs.Prelude.{List, [], Result, Ok, Err, map}
use Rattle.term_core.specs.Tree.{Tree}
use Rattle.clause_core.specs.declared.clauses.Clause.{Clause}
use Rattle.clause_core.specs.declared.answers.Children.{Children}
use Rattle.clause_core.specs.declared.answers.Why.{Why}
use Rattle.clause_core.specs.Rows.{Row}
use Rattle.clause_core.specs.Says.{AnswersWithin, Says}
use Rattle.inference_rules.specs.declared.nodes.Node.{Node}
use Rattle.inference_rules.specs.declared.nodes.StepError.{StepError}
use Rattle.inference_rules.specs.declared.nodes.StepError.TheVariants.{Why as because, OutOfMemory as out_of_memory}

abbrev pub clauses_of : List Node → List Clause
clauses_of nodes = map (λ (node : Node). node.clause) nodes

-- the answer is one of these, and want of memory is free
abbrev pub UnlessMemory : (Result Children Why → Type 0) → Result Children StepError → Type 0
UnlessMemory P (Ok made) = P (Ok made)
UnlessMemory P (Err (because why)) = P (Err why)
UnlessMemory P (Err out_of_memory) = Unit {0}

-- by this order on terms, the answer is what the row says of the clause over the nodes so far:
-- what is made, or the reason for which nothing is
abbrev pub Answered :
    (Tree → Tree → Type 0) → Clause → List Clause → Row → Result Children StepError → Type 0
Answered above c nodes row answer = UnlessMemory (Says above c nodes row) answer

-- the same of a row that compares no clauses, over no nodes: its answer is one by every order, so
-- that this says it by the order in which no term is above another
abbrev pub AnsweredAlone : Clause → Row → Result Children StepError → Type 0
AnsweredAlone c row answer = Answered (λ t s. ⊥) c [] row answer

-- what is made is answered, over no nodes, unless it passes a limit
abbrev pub IsLimited : Children → Result Children StepError → Type 0
IsLimited made answer = UnlessMemory (AnswersWithin [] made) answer
