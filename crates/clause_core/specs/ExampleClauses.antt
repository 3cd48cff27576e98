-- Clauses and places of the examples, and what a step says there.
use Rattle.std.specs.Prelude.{◌≡◌, ℕ, List, [], ◌∷◌, Bool, true, Result, Ok}
use Rattle.term_core.specs.Tree.{Tree, var}
use Rattle.term_core.specs.declared.ids.SortId.{SortId}
use Rattle.spec_core.specs.declared.records.Equation.{Equation}
use Rattle.spec_core.specs.declared.records.Spec.{Spec}
use Rattle.spec_core.specs.Naturals.{nat, naturals, zero_term, plus_term}
use Rattle.sample_specs.specs.SumOrder.{AboveInSums}
use Rattle.clause_core.specs.declared.clauses.Clause.{Clause}
use Rattle.clause_core.specs.declared.clauses.Relation.TheVariants.{Less, Same}
use Rattle.clause_core.specs.ClauseExamples.{equals, claims}
use Rattle.clause_core.specs.declared.steps.Place.{Place}
use Rattle.clause_core.specs.declared.steps.Step.{Step}
use Rattle.clause_core.specs.declared.answers.Child.{Child}
use Rattle.clause_core.specs.declared.answers.Children.{Children}
use Rattle.clause_core.specs.declared.answers.Reference.{Reference}
use Rattle.clause_core.specs.declared.answers.Why.{Why}
use Rattle.clause_core.specs.Says.{Says}
use Rattle.clause_core.specs.Steps.{row_of}

-- one natural, and two
abbrev pub one : List SortId
one = nat ∷ []

abbrev pub two : List SortId
two = nat ∷ nat ∷ []

-- over these variables, the clause with this premise and no conclusion
abbrev pub denies : List SortId → Equation → Clause
denies ctx e = record { ctx = ctx; premises = e ∷ []; conclusions = [] }

-- plus(t, zero) = t, and => plus(?0, zero) = ?0
abbrev pub unit_of : Tree → Equation
unit_of t = equals (plus_term t zero_term) t

abbrev pub unit_clause : Clause
unit_clause = claims one (unit_of (var 0))

-- the side of the first conclusion, at a path
abbrev pub conclusion_side : Bool → List ℕ → Place
conclusion_side left path = record { conclusion = true; number = 1; left = left; path = path }

-- which goals may be used as lemmas: none, or only the goal with this number
abbrev pub no_goal : ℕ → Type 0
no_goal number = ⊥

abbrev pub only_goal : ℕ → ℕ → Type 0
only_goal k number = number ≡ k

-- what a step says at the only node of a block, if no goal may be used
abbrev pub SaysAlone : Spec → Clause → Step → Result Children Why → Type 0
SaysAlone spec c step answer = Says AboveInSums c (c ∷ []) (row_of spec no_goal (c ∷ []) c step) answer

-- over naturals, what it says there if the goal with this number may be used
abbrev pub SaysWithGoal : ℕ → Clause → Step → Result Children Why → Type 0
SaysWithGoal k c step answer =
    Says AboveInSums c (c ∷ []) (row_of naturals (only_goal k) (c ∷ []) c step) answer

-- and what it says at the node 1, after a node 0
abbrev pub SaysBehind : Clause → Clause → Step → Result Children Why → Type 0
SaysBehind d c step answer =
    Says AboveInSums c (d ∷ c ∷ []) (row_of naturals no_goal (d ∷ c ∷ []) c step) answer

-- children, and the node 0 as a reference
abbrev pub less : Clause → Child
less c = record { clause = c; relation = Less }

abbrev pub same : Clause → Child
same c = record { clause = c; relation = Same }

abbrev pub less_than_first : Reference
less_than_first = record { node = 0; relation = Less }

abbrev pub same_as_first : Reference
same_as_first = record { node = 0; relation = Same }

abbrev pub gives : List Child → List Reference → Result Children Why
gives clauses refs = Ok (record { clauses = clauses; refs = refs })
