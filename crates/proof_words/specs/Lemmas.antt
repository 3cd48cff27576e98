-- Goals that a step refers to by their names.
use Rattle.std.specs.Prelude.{ℕ, ◌+◌, List, [], ◌∷◌, Option, Some, None, if◌then◌else◌, codes}
use Rattle.std.specs.Str.{bytes_eq}
use Rattle.spec_core.specs.declared.records.Goal.{Goal}
use Rattle.spec_core.specs.Sig.{Sig}
use Rattle.page_core.specs.Events.{Event, link}
use Rattle.page_core.specs.declared.parts.Anchor.TheVariants.{Goal as to_goal}
use Rattle.proof_words.specs.GoalEvents.{goal_events, goal_names}
use Rattle.proof_words.specs.ListEvents.{plain}

-- the first goal of this name with its number, where the goals are numbered from here on
abbrev pub goal_named : List ℕ → ℕ → List Goal → Option (ℕ × Goal)
goal_named name number [] = None
goal_named name number (g ∷ gs) =
    if bytes_eq g.name name then Some (number, g) else goal_named name (number + 1) gs

-- a link to the goal, and what it claims. Of a name without a goal there is the name alone
abbrev pub lemma_events : Sig → List ℕ → Option (ℕ × Goal) → List Event
lemma_events sig name None = plain name ∷ []
lemma_events sig name (Some found) =
    link (to_goal found.0) name ∷ plain (codes ": ") ∷ goal_events sig found.1

-- the names of the variables of the goal's clause
abbrev pub lemma_names : Option (ℕ × Goal) → List (List ℕ)
lemma_names None = []
lemma_names (Some found) = goal_names found.1
