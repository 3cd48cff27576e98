-- What the conditions of a row say, apart from what is made of its children.
use Rattle.std.specs.Prelude.{◌≡◌, ◌⊎◌, ℕ, List}
use Rattle.clause_core.specs.declared.clauses.Clause.{Clause}
use Rattle.clause_core.specs.declared.answers.Why.{Why}
use Rattle.clause_core.specs.Rows.{Made, Row, needs, makes}
use Rattle.inference_rules.specs.declared.nodes.StepError.{StepError}
use Rattle.inference_rules.specs.declared.nodes.StepError.TheVariants.{Why as because, OutOfMemory as out_of_memory}

-- the reason is that of the first condition of the row that isn't met
abbrev pub Refuses : Row → Why → Type 0
Refuses (needs P own rest) why = ((p : P) × Refuses (rest p) why) ⊎ ((P → ⊥) × (why ≡ own))
Refuses (makes children refs) why = ⊥

-- the same of an error, which may also be want of memory
abbrev pub RefusesWith : Row → StepError → Type 0
RefusesWith row (because why) = Refuses row why
RefusesWith row out_of_memory = Unit {0}

-- each condition of the row is met, and then these children and references are made
abbrev pub Makes : Row → List Made → List (ℕ × Clause) → Type 0
Makes (needs P own rest) children refs = (p : P) × Makes (rest p) children refs
Makes (makes own others) children refs = (own ≡ children) × (others ≡ refs)
