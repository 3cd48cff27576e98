-- What is known of a question once it is answered.
use Rattle.std.specs.Prelude.{◌≡◌, ◌↔◌, ℕ, ◌<◌, List, Option, Some, None}
use Rattle.term_core.specs.Tree.{Tree, trees_of}
use Rattle.term_core.specs.Variables.{OccursAny}
use Rattle.fitting_lists.specs.Questions.{Question, Answers}

-- the variables of the terms are those below this number
abbrev pub AreVariables : ℕ → List Tree → Type 0
AreVariables count ts = (n : ℕ) → OccursAny n (trees_of ts) ↔ (n < count)

-- the list is the only one that answers, or none answers
abbrev pub IsOnlyAnswer : Question → Option (List Tree) → Type 0
IsOnlyAnswer question (Some list) =
    Answers question list × ((other : List Tree) → Answers question other → other ≡ list)
IsOnlyAnswer question None = (list : List Tree) → Answers question list → ⊥
