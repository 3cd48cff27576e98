-- Instances of clauses by lists of terms, which have a term for each variable.
use Rattle.std.specs.Prelude.{ℕ, List, Some, map, length, slice_set}
use Rattle.std.specs.List.{range_with_len}
use Rattle.term_core.specs.Tree.{Tree, var}
use Rattle.term_core.specs.declared.ids.SortId.{SortId}
use Rattle.clause_core.specs.declared.clauses.Clause.{Clause}
use Rattle.clause_core.specs.ClauseInstances.{clause_instance}

-- this many variables, from a number on
abbrev pub variables : ℕ → ℕ → List Tree
variables from count = map (λ n. var n) (range_with_len from count)

-- the clause with these terms for its variables, over the variables of ctx
abbrev pub instance_by : List Tree → List SortId → Clause → Clause
instance_by terms ctx c = clause_instance (map (λ (t : Tree). Some t) terms) ctx c

-- the clause with a term for one variable, everywhere, over the variables of ctx
abbrev pub with_term : List SortId → Clause → ℕ → Tree → Clause
with_term ctx c n t = instance_by (slice_set (variables 0 (length c.ctx)) n t) ctx c
