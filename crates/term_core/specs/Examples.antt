-- What the definitions say of f(x, g(y, x)), where f and g are 5 and 6, and x and y are 0 and 1.
use Rattle.std.specs.Prelude.{◌≡◌, true, false, [], ◌∷◌}
use Rattle.term_core.specs.Tree.{Tree, var, app, none, some}
use Rattle.term_core.specs.Places.{IsAt, HasNoPlace, IsReplaced}
use Rattle.term_core.specs.Variables.{occurrences, firsts, Occurs, Numbered}
use Rattle.term_core.specs.Measures.{tree_bound, tree_need}
use Rattle.term_core.specs.Same.{same_tree}
use Rattle.term_core.specs.Contexts.{Context, hole, under, plug}
use Rattle.term_core.specs.Ground.{IsGroundIn}

abbrev pub inner : Tree
inner = app 6 (some (var 1) (some (var 0) none))

abbrev pub outer : Tree
outer = app 5 (some (var 0) (some inner none))

-- f(x, g([], x)), where y was
abbrev pub second_open : Context
second_open = under 5 (some (var 0) none) (under 6 none hole (some (var 0) none)) none

-- the constant that is symbol 2, and 6 of it twice
abbrev pub constant : Tree
constant = app 2 none

abbrev pub closed : Tree
closed = app 6 (some constant (some constant none))

pub record WorkedExamples : Type 0 where
  -- the term itself is at the empty path, g(y, x) at 2, and y at 2.1
  pub whole : IsAt [] outer outer
  pub second : IsAt (2 ∷ []) outer inner
  pub below : IsAt (2 ∷ 1 ∷ []) outer (var 1)
  -- arguments count from 1, there is no third one, and a variable has none
  pub no_zeroth : HasNoPlace (0 ∷ []) outer
  pub no_third : HasNoPlace (3 ∷ []) outer
  pub none_below_a_variable : HasNoPlace (1 ∷ 1 ∷ []) outer
  -- with x at 2.1 it is f(x, g(x, x))
  pub replaced : IsReplaced (2 ∷ 1 ∷ []) outer (var 0)
      (app 5 (some (var 0) (some (app 6 (some (var 0) (some (var 0) none))) none)))
  -- x, y and x again occur, and x is met first
  pub all_occurrences : occurrences outer ≡ 0 ∷ 1 ∷ 0 ∷ []
  pub met_first : firsts (occurrences outer) ≡ 0 ∷ 1 ∷ []
  pub met_second : firsts (1 ∷ 0 ∷ 1 ∷ []) ≡ 1 ∷ 0 ∷ []
  -- both variables occur, and no third one
  pub occurs_below : Occurs 1 outer
  pub occurs_nowhere : Occurs 2 outer → ⊥
  -- x is 0 and is met first, y is 1; in g(y, x) alone the first variable that is met is no 0
  pub numbered : Numbered 0 outer 2
  pub numbered_otherwise : Numbered 0 inner 2 → ⊥
  -- both variables are below 2; g(y, x) is numbered if one variable was numbered before it
  pub bounded : tree_bound outer ≡ 2
  pub closed_bound : tree_bound closed ≡ 0
  pub needs_none : tree_need outer ≡ 0
  pub needs_one : tree_need inner ≡ 1
  -- a term is the same tree as itself, and no other
  pub same_as_itself : same_tree outer outer ≡ true
  pub other_tree : same_tree outer inner ≡ false
  -- with y in the hole it is the term
  pub plugged : plug second_open (var 1) ≡ outer
  -- symbols 2 and 6 are below 7, and 6 is not below 6; a variable makes a term open
  pub ground : IsGroundIn 7 closed
  pub symbol_too_large : IsGroundIn 6 closed → ⊥
  pub open_term : IsGroundIn 7 outer → ⊥
