-- What is tested at the lines that say how terms are ordered.
use Rattle.std.specs.Prelude.{◌≡◌, ◌≢◌, ◌≤◌, ◌⊎◌, ℕ, List, [], ◌∷◌, ◌++◌, Option, Some, None, IsTrue, codes, length}
use Rattle.std.specs.Prelude.{map, slice_index}
use Rattle.std.specs.List.{flat_map}
use Rattle.term_core.specs.Precedence.{is_status}
use Rattle.spec_core.specs.Sig.{Sig, IsConstructor}
use Rattle.spec_core.specs.Orders.{arities}
use Rattle.spec_core.specs.Findings.{Search, nothing, test, then, each_after}
use Rattle.spec_grammar.specs.declared.raw.RawName.{RawName}
use Rattle.spec_grammar.specs.declared.raw.RawEqual.{RawEqual}
use Rattle.spec_grammar.specs.declared.raw.RawStatus.{RawStatus}
use Rattle.spec_grammar.specs.declared.raw.RawWeight.{RawWeight}
use Rattle.spec_grammar.specs.declared.raw.RawOrder.{RawOrder}
use Rattle.spec_grammar.specs.declared.raw.RawSpec.{RawSpec}
use Rattle.sort_check.specs.Orders.{is_among, symbol_number, symbol_numbers}
use Rattle.sort_check.specs.Words.{symbol_named}
use Rattle.sort_check.specs.declared.faults.SortFault.{SortFault}
use Rattle.sort_check.specs.declared.faults.SortFault.TheVariants.{Sort}
use Rattle.sort_check.specs.declared.faults.SortKind.{SortKind}
use Rattle.sort_check.specs.declared.faults.SortKind.TheVariants.{UnknownName, RepeatedName, WrongNumberOfArguments}
use Rattle.sort_check.specs.declared.faults.SortKind.TheVariants.{NotAFunction, EqualTwice, StatusTwice}
use Rattle.sort_check.specs.declared.faults.SortKind.TheVariants.{NoOrderOfArguments, EqualOrStatusWithKbo}
use Rattle.sort_check.specs.declared.faults.SortKind.TheVariants.{WrongWeight}

-- the names in equal lines, and those at the heads of status lines
abbrev pub names_in : List RawEqual → List RawName
names_in lines = flat_map (λ (line : RawEqual). line.names) lines

abbrev pub heads_of : List RawStatus → List RawName
heads_of lines = map (λ (line : RawStatus). line.head) lines

-- the names in an order line
abbrev pub weighed_names : List RawWeight → List RawName
weighed_names ws = map (λ (w : RawWeight). w.name) ws

-- each number from 1 to the number of arguments is there once
abbrev pub IsOrderOfArguments : ℕ → List ℕ → Type 0
IsOrderOfArguments arity numbers = (length numbers ≡ arity) × IsTrue (is_status numbers)

module _ (sig : Sig) where
  -- how many arguments the symbol with this name has
  abbrev pub arity : RawName → ℕ
  arity n = slice_index (arities sig) (symbol_number sig n)

  -- the name of a function that is none of those seen
  abbrev pub function_tests : SortKind → List ℕ → RawName → Search SortFault
  function_tests twice seen n = then (test (Sort n.at UnknownName) (symbol_named sig n.name ≡ None))
      (then (test (Sort n.at NotAFunction) (IsConstructor sig (symbol_number sig n)))
      (test (Sort n.at twice) (IsTrue (is_among (symbol_number sig n) seen))))

  -- another number of arguments than the first of a line, if there is one
  abbrev pub IsUnlikeFirst : List RawName → RawName → Type 0
  IsUnlikeFirst [] n = ⊥
  IsUnlikeFirst (first ∷ others) n = arity n ≢ arity first

  -- a name of an equal line, after the functions of earlier lines and those names of its own
  abbrev pub name_tests : List ℕ → List RawName → RawName → Search SortFault
  name_tests seen line n =
      then (function_tests EqualTwice (seen ++ symbol_numbers sig line) n)
      (test (Sort n.at WrongNumberOfArguments) (IsUnlikeFirst line n))

  -- an equal line with those before it
  abbrev pub equal_tests : List RawEqual → RawEqual → Search SortFault
  equal_tests before line =
      each_after (name_tests (symbol_numbers sig (names_in before))) [] line.names

  -- a status line with those before it
  abbrev pub status_tests : List RawStatus → RawStatus → Search SortFault
  status_tests before line =
      then (function_tests StatusTwice (symbol_numbers sig (heads_of before)) line.head)
      (test (Sort line.head.at NoOrderOfArguments)
      (¬ (IsOrderOfArguments (arity line.head) line.numbers)))

  -- equal lines in order, then status lines in order
  abbrev pub path_tests : List RawEqual → List RawStatus → Search SortFault
  path_tests equals statuses =
      then (each_after equal_tests [] equals) (each_after status_tests [] statuses)

  -- a weight with those before it
  abbrev pub weight_tests : List RawWeight → RawWeight → Search SortFault
  weight_tests before w = then (test (Sort w.name.at UnknownName) (symbol_named sig w.name.name ≡ None))
      (then (test (Sort w.name.at RepeatedName)
      (IsTrue (is_among (symbol_number sig w.name) (symbol_numbers sig (weighed_names before)))))
      (test (Sort w.name.at WrongWeight) (¬ ((1 ≤ w.weight) × (w.weight ≤ 1000)))))

  -- an order line, if the lines for the path ordering are these
  abbrev pub line_tests : List RawEqual → List RawStatus → RawOrder → Search SortFault
  line_tests equals statuses line =
      then (test (Sort line.name.at UnknownName) (line.name.name ≢ codes "kbo"))
      (then (test (Sort line.name.at EqualOrStatusWithKbo) ((equals ≢ []) ⊎ (statuses ≢ [])))
      (each_after weight_tests [] line.weights))

  abbrev pub order_line_tests : List RawEqual → List RawStatus → Option RawOrder → Search SortFault
  order_line_tests equals statuses None = nothing
  order_line_tests equals statuses (Some line) = line_tests equals statuses line

-- the lines for the path ordering, then the order line
abbrev pub order_tests : Sig → RawSpec → Search SortFault
order_tests sig raw = then (path_tests sig raw.equals raw.statuses)
    (order_line_tests sig raw.equals raw.statuses raw.order)
