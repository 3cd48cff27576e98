-- Goals as texts of a page, and the names of the variables of their clauses.
use Rattle.std.specs.Prelude.{ℕ, List, None, map, slice_get}
use Rattle.spec_core.specs.declared.records.Goal.{Goal}
use Rattle.spec_core.specs.declared.records.VarInfo.{VarInfo}
use Rattle.spec_core.specs.Sig.{Sig}
use Rattle.spec_core.specs.TermText.{variable_names, variable_text}
use Rattle.clause_core.specs.Tidied.{variables_of, written_clause}
use Rattle.page_core.specs.Events.{Event}
use Rattle.proof_words.specs.ClauseEvents.{clause_events}

-- the goal as it is written, with its own names
abbrev pub goal_events : Sig → Goal → List Event
goal_events sig goal = clause_events sig (variable_names goal.vars) None (written_clause goal)

-- the name of each of these variables
abbrev pub names_at : List VarInfo → List ℕ → List (List ℕ)
names_at vars numbers = map (λ n. variable_text (slice_get (variable_names vars) n) n) numbers

-- the names of the variables of the goal's clause, which are numbered by first occurrence
abbrev pub goal_names : Goal → List (List ℕ)
goal_names goal = names_at goal.vars (variables_of (written_clause goal))
