-- The candidates for the step of a node, one by one.
use Rattle.std.specs.Prelude.{◌≡◌, ◌⊎◌, List, [], ◌∷◌, Bool, true, false, Option, Some, None, Contains, Ok, map, length}
use Rattle.term_core.specs.Tree.{Tree}
use Rattle.spec_core.specs.declared.records.Equation.{Equation}
use Rattle.spec_core.specs.declared.records.Spec.{Spec}
use Rattle.clause_core.specs.declared.clauses.Clause.{Clause}
use Rattle.clause_core.specs.declared.steps.Step.{Step}
use Rattle.clause_core.specs.declared.steps.Step.TheVariants.{Subsume}
use Rattle.clause_core.specs.declared.answers.Children.{Children}
use Rattle.clause_core.specs.Equations.{swapped}
use Rattle.clause_core.specs.Says.{Says}
use Rattle.clause_core.specs.Steps.{row_of}
use Rattle.clause_core.specs.Tidied.{IsTidied}
use Rattle.plain_search.specs.declared.candidates.Candidate.{Candidate}
use Rattle.plain_search.specs.declared.candidates.Candidate.TheVariants.{Trivial, RuleOnLeft, RuleOnRight, Decompose}
use Rattle.plain_search.specs.declared.candidates.Candidate.TheVariants.{AsWritten, WithSidesSwapped}
use Rattle.plain_search.specs.declared.candidates.Taken.{Taken}
use Rattle.plain_search.specs.Choices.{IsTrivial, IsUse, IsDecomposition, IsReference, IsPossible, IsChosen}

-- the first node of the block of an equation: a tidied clause of one conclusion
pub record IsStart (start : Clause) : Type 0 where
  pub equation : Equation
  pub no_premises : start.premises ≡ []
  pub conclusion : start.conclusions ≡ equation ∷ []
  pub is_tidied : IsTidied start

-- the only one of which this holds, or that it holds of none
abbrev pub IsOnly : {X : Type 0} → (X → Type 0) → Option X → Type 0
IsOnly {X} P (Some x) = P x × ((y : X) → P y → y ≡ x)
IsOnly {X} P None = (y : X) → P y → ⊥

-- a list of terms of the step has one for each variable of the clause
abbrev pub IsFull : Clause → Step → Type 0
IsFull start (Subsume node terms) = length terms ≡ length start.ctx
IsFull start _ = Unit {0}

-- the equations, with their sides swapped if true
abbrev pub wanted : Bool → List Equation → List Equation
wanted true es = map swapped es
wanted false es = es

-- a reference to the first node with a term for each variable
abbrev pub IsFullReference : Clause → List Equation → Step → Type 0
IsFullReference start es step = IsReference start es step × IsFull start step

-- the steps that are tried for the clause as a candidate
abbrev pub IsOf : Spec → Clause → Clause → Candidate → Step → Type 0
IsOf spec start c Trivial step = IsTrivial step
IsOf spec start c RuleOnLeft step = IsUse spec c true step
IsOf spec start c RuleOnRight step = IsUse spec c false step
IsOf spec start c Decompose step = IsDecomposition step
IsOf spec start c AsWritten step = IsReference start c.conclusions step
IsOf spec start c WithSidesSwapped step = IsReference start (map swapped c.conclusions) step

abbrev pub IsCandidate : Spec → Clause → Clause → Candidate → Step → Type 0
IsCandidate spec start c candidate step = IsOf spec start c candidate step × IsFull start step

-- what the table says that a step makes, if it is defined and no goal is used
abbrev pub IsMade : (Tree → Tree → Type 0) → Spec → List Clause → Clause → Step → Option Children
    → Type 0
IsMade above spec nodes c step (Some made) =
    Says above c nodes (row_of spec (Contains []) nodes c step) (Ok made)
IsMade above spec nodes c step None =
    (made : Children) → Says above c nodes (row_of spec (Contains []) nodes c step) (Ok made) → ⊥

module _
    (above : Tree → Tree → Type 0) (spec : Spec) (start : Clause) (nodes : List Clause)
    (c : Clause) where
  -- a possible step of the candidate, with what it makes, or that none is possible
  abbrev pub IsTaken : Candidate → Option Taken → Type 0
  IsTaken candidate (Some taken) =
      IsOf spec start c candidate taken.step
      × IsMade above spec nodes c taken.step (Some taken.made)
  IsTaken candidate None =
      (step : Step) →
      IsPossible above spec (Contains []) start nodes c (IsOf spec start c candidate) step → ⊥

  -- of the first candidate with a possible step
  abbrev pub IsFirstTaken : List Candidate → Option Taken → Type 0
  IsFirstTaken [] found = found ≡ None
  IsFirstTaken (candidate ∷ others) (Some taken) =
      IsTaken candidate (Some taken)
      ⊎ (IsTaken candidate None × IsFirstTaken others (Some taken))
  IsFirstTaken (candidate ∷ others) None = IsTaken candidate None × IsFirstTaken others None

  -- the chosen step with what it makes, or that none is chosen
  abbrev pub IsNext : Option Taken → Type 0
  IsNext (Some taken) =
      IsChosen above spec (Contains []) start nodes c taken.step
      × IsMade above spec nodes c taken.step (Some taken.made)
  IsNext None = (step : Step) → IsChosen above spec (Contains []) start nodes c step → ⊥
