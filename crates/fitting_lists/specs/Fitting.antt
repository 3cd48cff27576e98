-- The questions for the fitting lists and the rewriting lists of a clause that is referred to.
use Rattle.std.specs.Prelude.{◌==◌, Bool, true, false, List, [], ◌∷◌, ◌++◌, map, filter, flat_map, take, length}
use Rattle.std.specs.List.{range_with_len, list_any, list_all}
use Rattle.term_core.specs.Tree.{Tree}
use Rattle.term_core.specs.Variables.{occurrences}
use Rattle.spec_core.specs.declared.records.Equation.{Equation}
use Rattle.clause_core.specs.declared.clauses.Clause.{Clause}
use Rattle.clause_core.specs.Equations.{swapped}
use Rattle.clause_core.specs.NumberedEquations.{equations}
use Rattle.fitting_lists.specs.Questions.{Question}

abbrev pub both_sides : Equation → List Tree
both_sides e = e.left ∷ e.right ∷ []

-- all variables of the clause are in the terms
abbrev pub has_all : Clause → List Tree → Bool
has_all c ts =
    list_all (λ n. list_any (λ t. list_any (λ m. m == n) (occurrences t)) ts)
    (range_with_len 0 (length c.ctx))

-- an equation, and whether it is a conclusion
pub record Located : Type 0 where
  pub conclusion : Bool
  pub equation : Equation

abbrev pub located : Bool → List Equation → List Located
located conclusion es =
    map (λ (e : Equation). record { conclusion = conclusion; equation = e }) es

-- the first equation in which all variables of the clause are, if there is one: conclusions
-- before premises
abbrev pub leading : Clause → List Located
leading c =
    take 1
    (filter (λ (e : Located). has_all c (both_sides e.equation))
    (located true c.conclusions ++ located false c.premises))

-- by which list do the sides of the equation become those of the other one?
abbrev pub fitting : Clause → Equation → Equation → Question
fitting referred e d =
    record { variables = length referred.ctx; patterns = both_sides e; terms = both_sides d }

-- by which list does the leading equation become one of the same kind here, in their order, each as
-- written and then with its sides swapped?
abbrev pub fittings : Clause → Clause → List Question
fittings here referred =
    flat_map
    (λ (e : Located).
    flat_map (λ (d : Equation). map (fitting referred e.equation) (d ∷ swapped d ∷ []))
    (equations e.conclusion here))
    (leading referred)

-- the sides, left before right, of the only conclusion that have all variables of the clause; true
-- is the left one
abbrev pub sides_of : List Equation → List (Bool × Tree)
sides_of (e ∷ []) = (true, e.left) ∷ (false, e.right) ∷ []
sides_of [] = []
sides_of (e ∷ d ∷ es) = []

abbrev pub rewritable : Clause → List (Bool × Tree)
rewritable c = filter (λ (s : Bool × Tree). has_all c (s.1 ∷ [])) (sides_of c.conclusions)

-- by which list does the side become the term?
abbrev pub rewriting : Clause → Tree → Tree → Question
rewriting referred side t =
    record { variables = length referred.ctx; patterns = side ∷ []; terms = t ∷ [] }
