-- Equations and clauses as texts of a page.
use Rattle.std.specs.Prelude.{ℕ, ◌+◌, ◌==◌, Bool, true, false, ◌&&◌, List, [], ◌∷◌, ◌++◌, Option, Some, None}
use Rattle.std.specs.Prelude.{if◌then◌else◌, codes}
use Rattle.spec_core.specs.declared.records.Equation.{Equation}
use Rattle.spec_core.specs.Groups.{bool_same}
use Rattle.spec_core.specs.Sig.{Sig}
use Rattle.clause_core.specs.declared.clauses.Clause.{Clause}
use Rattle.clause_core.specs.declared.steps.Place.{Place}
use Rattle.page_core.specs.Events.{Event}
use Rattle.proof_words.specs.ListEvents.{plain, separated_from}
use Rattle.proof_words.specs.TermEvents.{side_events}

-- what is marked in a side: that of a conclusion or a premise, by its number, left or right
abbrev pub side_mark : Option Place → Bool → ℕ → Bool → Option (List ℕ)
side_mark None conclusion number left = None
side_mark (Some p) conclusion number left =
    if bool_same p.conclusion conclusion && (p.number == number) && bool_same p.left left
    then Some p.path else None

-- what stands between conclusions where true, and between premises where false
abbrev pub separator : Bool → List ℕ
separator true = codes " | "
separator false = codes ", "

-- between premises and conclusions: an arrow if there are premises, or no conclusions
abbrev pub arrow : List Equation → List Equation → List Event
arrow [] [] = plain (codes "=>") ∷ []
arrow [] (c ∷ cs) = []
arrow (p ∷ ps) [] = plain (codes " =>") ∷ []
arrow (p ∷ ps) (c ∷ cs) = plain (codes " => ") ∷ []

module _ (sig : Sig) (names : List (List ℕ)) (mark : Option Place) where
  -- `l = r`, which is the conclusion, or the premise, of this number
  abbrev pub equation_events : Bool → ℕ → Equation → List Event
  equation_events conclusion number e =
      side_events sig names (side_mark mark conclusion number true) e.left
      ++ plain (codes " = ")
      ∷ side_events sig names (side_mark mark conclusion number false) e.right

  -- conclusions where true, premises where false, from this place on
  abbrev pub equations_from : Bool → ℕ → List Equation → List Event
  equations_from conclusion place es =
      separated_from (separator conclusion) (λ n e. equation_events conclusion (n + 1) e) place es

  abbrev pub equations_events : Bool → List Equation → List Event
  equations_events conclusion es = equations_from conclusion 0 es

  -- premises, and then conclusions
  abbrev pub implication_events : List Equation → List Equation → List Event
  implication_events premises conclusions =
      equations_events false premises
      ++ (arrow premises conclusions ++ equations_events true conclusions)

-- a clause, where the term at a place may be marked
abbrev pub clause_events : Sig → List (List ℕ) → Option Place → Clause → List Event
clause_events sig names mark c = implication_events sig names mark c.premises c.conclusions
