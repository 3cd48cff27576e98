-- What the definitions say of small clauses.
use Rattle.std.specs.Prelude.{◌≡◌, ℕ, List, [], ◌∷◌, Bool, true, false}
use Rattle.term_core.specs.Tree.{Tree, var}
use Rattle.spec_core.specs.Naturals.{nat, naturals, zero_term, plus_term}
use Rattle.clause_core.specs.declared.clauses.Clause.{Clause}
use Rattle.clause_core.specs.ClauseExamples.{equals, claims, implies}
use Rattle.clause_core.specs.Insertion.{insertion, list, true_term, false_term, le_term, sorted_term, insert_term}
use Rattle.clause_places.specs.Spots.{Spot, spots}
use Rattle.clause_places.specs.Asked.{asked_by, asked}

abbrev spot : Bool → Bool → List ℕ → Tree → Spot
spot conclusion left path t =
    record {
      place = record { conclusion = conclusion; number = 1; left = left; path = path };
      term = t;
    }

-- le(x, y) = false => le(y, x) = true
abbrev pub total : Clause
total =
    implies (nat ∷ nat ∷ [])
    (equals (le_term (var 0) (var 1)) false_term)
    (equals (le_term (var 1) (var 0)) true_term)

-- its places with their terms
abbrev pub total_spots : List Spot
total_spots =
    spot false true (1 ∷ []) (var 0)
    ∷ spot false true (2 ∷ []) (var 1)
    ∷ spot false true [] (le_term (var 0) (var 1))
    ∷ spot false false [] false_term
    ∷ spot true true (1 ∷ []) (var 1)
    ∷ spot true true (2 ∷ []) (var 0)
    ∷ spot true true [] (le_term (var 1) (var 0))
    ∷ spot true false [] true_term
    ∷ []

-- => plus(plus(x, y), z) = plus(x, plus(y, z)), and => plus(zero, y) = y
abbrev pub associative : Clause
associative =
    claims (nat ∷ nat ∷ nat ∷ [])
    (equals
    (plus_term (plus_term (var 0) (var 1)) (var 2))
    (plus_term (var 0) (plus_term (var 1) (var 2))))

abbrev pub left_zero : Clause
left_zero = claims (nat ∷ []) (equals (plus_term zero_term (var 0)) (var 0))

-- => insert(x, insert(y, l)) = insert(y, insert(x, l))
abbrev pub exchange : Clause
exchange =
    claims (nat ∷ nat ∷ list ∷ [])
    (equals
    (insert_term (var 0) (insert_term (var 1) (var 2)))
    (insert_term (var 1) (insert_term (var 0) (var 2))))

-- sorted(l) = true => sorted(insert(x, l)) = true
abbrev pub stays_sorted : Clause
stays_sorted =
    implies (list ∷ nat ∷ [])
    (equals (sorted_term (var 0)) true_term)
    (equals (sorted_term (insert_term (var 1) (var 0))) true_term)

pub record WorkedExamples : Type 0 where
  -- premises before conclusions, and arguments before their symbol
  pub in_order : spots total ≡ total_spots
  -- the inner call of plus is the first, and it looks at its first argument
  pub inner_first : asked naturals associative ≡ 0 ∷ []
  -- plus(zero, y) asks for nothing: no rule looks at its second argument
  pub nothing_asked : asked naturals left_zero ≡ []
  -- insert looks at its list
  pub asks_for_list : asked insertion exchange ≡ 2 ∷ []
  -- the premise is the first, and sorted looks at the list
  pub premise_first : asked insertion stays_sorted ≡ 0 ∷ []
  -- le looks at both of its arguments, and the first one is asked for
  pub both_arguments : asked_by insertion (le_term (var 0) (var 1)) ≡ 0 ∷ 1 ∷ []
  pub first_argument : asked insertion total ≡ 0 ∷ []
  -- sorted looks at the first item's tail, where insert has its list
  pub through_inner : asked_by insertion (sorted_term (insert_term (var 1) (var 0))) ≡ 0 ∷ []
