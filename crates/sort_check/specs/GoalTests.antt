-- What is tested at a goal: its bindings, the words of its sides, and then the sorts of its variables.
use Rattle.std.specs.Prelude.{◌≡◌, ℕ, ◌+◌, List, [], ◌∷◌, ◌++◌, Option, Some, None, position, option_map, length, map}
use Rattle.std.specs.Prelude.{drop, unwrap_or}
use Rattle.std.specs.Str.{bytes_eq}
use Rattle.term_core.specs.declared.ids.SortId.{SortId}
use Rattle.spec_core.specs.Sig.{Sig, names_of}
use Rattle.spec_core.specs.Declarations.{IsNewName}
use Rattle.spec_core.specs.Findings.{Search, nothing, test, then, each_after}
use Rattle.spec_grammar.specs.RawTree.{RawTree, word}
use Rattle.spec_grammar.specs.declared.raw.RawBind.{RawBind}
use Rattle.spec_grammar.specs.declared.raw.RawEq.{RawEq}
use Rattle.spec_grammar.specs.declared.raw.RawGoal.{RawGoal}
use Rattle.sort_check.specs.Entries.{entry_named, known_sorts}
use Rattle.sort_check.specs.Words.{symbol_named, info_at, entries_after, term_tests}
use Rattle.sort_check.specs.Rounds.{rounds_tests, after_rounds}
use Rattle.sort_check.specs.declared.entries.Entry.{Entry}
use Rattle.sort_check.specs.declared.entries.Pair.{Pair}
use Rattle.sort_check.specs.declared.faults.SortFault.{SortFault}
use Rattle.sort_check.specs.declared.faults.SortFault.TheVariants.{Sort}
use Rattle.sort_check.specs.declared.faults.SortKind.TheVariants.{UnknownName, RepeatedName, WrongSort}
use Rattle.sort_check.specs.declared.faults.SortKind.TheVariants.{SortNotInferred, TooManyVariables}
use Rattle.sort_check.specs.declared.faults.Part.TheVariants.{Goal}

abbrev pub place_of : RawTree → ℕ
place_of (word name at args) = at

abbrev pub bind_names : List RawBind → List (List ℕ)
bind_names bs = map (λ (b : RawBind). b.name.name) bs

-- the 17th binding
abbrev pub seventeenth_test : List RawBind → Search SortFault
seventeenth_test [] = nothing
seventeenth_test (b ∷ bs) = test (Sort b.name.at TooManyVariables) (Unit {0})

-- a variable without a sort at the end, at its first occurrence
abbrev pub inferred_tests : List Entry → List (Option SortId) → Search SortFault
inferred_tests [] known = nothing
inferred_tests (e ∷ es) [] = nothing
inferred_tests (e ∷ es) (o ∷ os) =
    then (test (Sort e.at SortNotInferred) (o ≡ None)) (inferred_tests es os)

-- if both sides have sorts of their own, the right one has to have the left one's
abbrev pub wanted : Option SortId → Option SortId → Option SortId
wanted (Some s) (Some u) = Some s
wanted (Some s) None = None
wanted None o = None

-- the number of a side that is a variable
abbrev pub number_of : List Entry → RawTree → ℕ
number_of es (word name at args) = unwrap_or (entry_named es name) 0

abbrev pub with_pair : Option Pair → List Pair → List Pair
with_pair (Some p) ps = p ∷ ps
with_pair None ps = ps

-- the equations of two variables are gone through again until a whole round changes nothing: that is one round more
-- than there are variables at the latest
abbrev pub rounds : List Entry → ℕ
rounds es = 1 + length (known_sorts es)

-- the equations in the order of the text
abbrev pub equations_of : RawGoal → List RawEq
equations_of g = g.premises ++ g.conclusions

-- a name of an earlier goal
abbrev pub name_test : List RawGoal → RawGoal → Search SortFault
name_test before g = test (Sort g.head.at RepeatedName)
    (¬ (IsNewName g.head.name (map (λ (b : RawGoal). b.head.name) before)))

-- each of a list in order, each after the variables that those before it leave
abbrev pub in_turn : {A : Type 0} → (List Entry → A → Search SortFault)
    → (List Entry → A → List Entry) → List Entry → List A → Search SortFault
in_turn tests after es [] = nothing
in_turn tests after es (x ∷ xs) = then (tests es x) (in_turn tests after (after es x) xs)

-- the variables that they leave
abbrev pub left_by : {A : Type 0} → (List Entry → A → List Entry) → List Entry → List A → List Entry
left_by after es [] = es
left_by after es (x ∷ xs) = left_by after (after es x) xs

module _ (sig : Sig) where
  -- a binding: a variable that is a symbol or bound before, and then its sort
  abbrev pub bind_tests : List RawBind → RawBind → Search SortFault
  bind_tests before b = then (test (Sort b.name.at RepeatedName)
      (¬ (IsNewName b.name.name (names_of sig ++ bind_names before))))
      (test (Sort b.sort.at UnknownName) (IsNewName b.sort.name sig.sorts))

  -- the variable that a binding gives
  abbrev pub bound : RawBind → Entry
  bound b = record {
    name = b.name.name;
    at = b.name.at;
    sort = option_map (λ n. record { 0 = n }) (position (bytes_eq b.sort.name) sig.sorts);
  }

  -- the sort of a side that is no variable
  abbrev pub own_sort : RawTree → Option SortId
  own_sort (word name at args) = option_map (λ f. (info_at sig f).result) (symbol_named sig name)

  -- the words of both sides
  abbrev pub sides_tests : List Entry → RawEq → Search SortFault
  sides_tests es e = then (term_tests sig Goal es WrongSort e.left None)
      (term_tests sig Goal (entries_after sig es e.left None) WrongSort e.right
      (wanted (own_sort e.left) (own_sort e.right)))

  abbrev pub after_sides : List Entry → RawEq → List Entry
  after_sides es e = entries_after sig (entries_after sig es e.left None) e.right
      (wanted (own_sort e.left) (own_sort e.right))

  -- the words of the sides of equations, in order, and the variables after them
  abbrev pub all_sides_tests : List Entry → List RawEq → Search SortFault
  all_sides_tests es eqs = in_turn sides_tests after_sides es eqs

  abbrev pub after_all_sides : List Entry → List RawEq → List Entry
  after_all_sides es eqs = left_by after_sides es eqs

  -- an equation of a variable and a term that is none: the variable is at a place of the term's sort
  abbrev pub opposed_tests : List Entry → RawEq → Option SortId → Option SortId → Search SortFault
  opposed_tests es e (Some s) None = term_tests sig Goal es WrongSort e.right (Some s)
  opposed_tests es e None (Some s) = term_tests sig Goal es WrongSort e.left (Some s)
  opposed_tests es e (Some s) (Some u) = nothing
  opposed_tests es e None None = nothing

  abbrev pub after_opposed : List Entry → RawEq → Option SortId → Option SortId → List Entry
  after_opposed es e (Some s) None = entries_after sig es e.right (Some s)
  after_opposed es e None (Some s) = entries_after sig es e.left (Some s)
  after_opposed es e (Some s) (Some u) = es
  after_opposed es e None None = es

  abbrev pub opposite_tests : List Entry → RawEq → Search SortFault
  opposite_tests es e = opposed_tests es e (own_sort e.left) (own_sort e.right)

  abbrev pub after_opposite : List Entry → RawEq → List Entry
  after_opposite es e = after_opposed es e (own_sort e.left) (own_sort e.right)

  -- an equation of two variables
  abbrev pub pair_of : List Entry → RawEq → Option SortId → Option SortId → Option Pair
  pair_of es e None None = Some (record {
    left = number_of es e.left;
    right = number_of es e.right;
    at = place_of e.right;
  })
  pair_of es e (Some s) o = None
  pair_of es e None (Some s) = None

  abbrev pub pairs_in : List Entry → List RawEq → List Pair
  pairs_in es [] = []
  pairs_in es (e ∷ rest) =
      with_pair (pair_of es e (own_sort e.left) (own_sort e.right)) (pairs_in es rest)

  -- the equations with one variable for a side, in order, and the variables after them
  abbrev pub all_opposite_tests : List Entry → List RawEq → Search SortFault
  all_opposite_tests es eqs = in_turn opposite_tests after_opposite es eqs

  abbrev pub opposed_by : List Entry → List RawEq → List Entry
  opposed_by es eqs = left_by after_opposite es eqs

  -- the sorts after the equations of two variables
  abbrev pub inferred : List Entry → List RawEq → List (Option SortId)
  inferred es eqs = after_rounds (rounds es) (known_sorts es) (pairs_in es eqs)

  -- the sorts of variables: the equations with one variable for a side, those of two variables, and then the variables
  abbrev pub sorts_tests : List Entry → List RawEq → Search SortFault
  sorts_tests es eqs =
      let opposed = opposed_by es eqs in
      then (all_opposite_tests es eqs) (then
      (rounds_tests (rounds opposed) (known_sorts opposed) (pairs_in opposed eqs))
      (inferred_tests opposed (inferred opposed eqs)))

  -- bindings in order, of which there are at most 16
  abbrev pub binds_tests : List RawBind → Search SortFault
  binds_tests bs = then (each_after bind_tests [] bs) (seventeenth_test (drop 16 bs))

  -- equations over variables that are bound: all words, and then the sorts of variables
  abbrev pub equations_tests : List Entry → List RawEq → Search SortFault
  equations_tests es eqs = then (all_sides_tests es eqs) (sorts_tests (after_all_sides es eqs) eqs)

  -- a goal after its name
  abbrev pub clause_tests : RawGoal → Search SortFault
  clause_tests g = then (binds_tests g.binds) (equations_tests (map bound g.binds) (equations_of g))

  -- a goal with those before it
  abbrev pub goal_tests : List RawGoal → RawGoal → Search SortFault
  goal_tests before g = then (name_test before g) (clause_tests g)
