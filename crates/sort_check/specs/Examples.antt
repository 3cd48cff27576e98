-- What the definitions say of raw naturals with addition, and of a few that have faults.
use Rattle.std.specs.Prelude.{◌≡◌, ℕ, List, [], ◌∷◌, Option, None, Some, codes, map}
use Rattle.spec_core.specs.Naturals.{naturals}
use Rattle.spec_grammar.specs.FormatOne.{format_one}
use Rattle.spec_grammar.specs.RawTree.{RawTree, word, none, some}
use Rattle.spec_grammar.specs.declared.raw.RawName.{RawName}
use Rattle.spec_grammar.specs.declared.raw.RawNames.{RawNames}
use Rattle.spec_grammar.specs.declared.raw.RawSort.{RawSort}
use Rattle.spec_grammar.specs.declared.raw.RawFun.{RawFun}
use Rattle.spec_grammar.specs.declared.raw.RawEqual.{RawEqual}
use Rattle.spec_grammar.specs.declared.raw.RawStatus.{RawStatus}
use Rattle.spec_grammar.specs.declared.raw.RawWeight.{RawWeight}
use Rattle.spec_grammar.specs.declared.raw.RawOrder.{RawOrder}
use Rattle.spec_grammar.specs.declared.raw.RawEq.{RawEq}
use Rattle.spec_grammar.specs.declared.raw.RawBind.{RawBind}
use Rattle.spec_grammar.specs.declared.raw.RawRule.{RawRule}
use Rattle.spec_grammar.specs.declared.raw.RawGoal.{RawGoal}
use Rattle.spec_grammar.specs.declared.raw.RawSpec.{RawSpec}
use Rattle.sort_check.specs.Orders.{level_in, status_in, weight_in}
use Rattle.sort_check.specs.DeclarationTests.{sig_of}
use Rattle.sort_check.specs.StandsFor.{StandsFor}
use Rattle.sort_check.specs.FirstFault.{HasFirstFault, HasNoFault}
use Rattle.sort_check.specs.declared.faults.SortKind.TheVariants.{UnknownName, RepeatedName, WrongNumberOfArguments}
use Rattle.sort_check.specs.declared.faults.SortKind.TheVariants.{NotOnTheLeft, SortNotInferred, NotAFunction}
use Rattle.sort_check.specs.declared.faults.SortKind.TheVariants.{EqualTwice, StatusTwice, NoOrderOfArguments}
use Rattle.sort_check.specs.declared.faults.SortKind.TheVariants.{EqualOrStatusWithKbo, WrongWeight}

-- a name at a place, 0 if the place doesn't matter
abbrev pub name_at : List ℕ → ℕ → RawName
name_at name at = record { name = name; at = at }

abbrev raw_symbol : List ℕ → List RawName → RawNames
raw_symbol name args = record { name = name; at = 0; args = args }

abbrev nat : RawName
nat = name_at (codes "Nat") 0

abbrev pub binds : List ℕ → RawBind
binds name = record { name = name_at name 0; sort = nat }

abbrev single : List ℕ → ℕ → RawTree
single name at = word name at none

abbrev pub x_at : ℕ → RawTree
x_at at = single (codes "x") at

abbrev pub y_at : ℕ → RawTree
y_at at = single (codes "y") at

abbrev zero_word : RawTree
zero_word = single (codes "zero") 0

abbrev succ_of : RawTree → RawTree
succ_of t = word (codes "succ") 0 (some t none)

abbrev plus_of : RawTree → RawTree → RawTree
plus_of s t = word (codes "plus") 0 (some s (some t none))

-- sort Nat = zero | succ(Nat)
abbrev nat_sort : RawSort
nat_sort = record {
  head = nat;
  constructors =
      raw_symbol (codes "zero") [] ∷ raw_symbol (codes "succ") (nat ∷ []) ∷ [];
}

-- fun plus(Nat, Nat) : Nat
abbrev plus_function : RawFun
plus_function = record { head = raw_symbol (codes "plus") (nat ∷ nat ∷ []); result = nat }

-- rule plus(zero, y) = t
abbrev pub plus_zero_gives : RawTree → RawRule
plus_zero_gives t = record { left = plus_of zero_word (y_at 0); right = t; guards = [] }

-- rule plus(succ(x), y) = succ(plus(x, y))
abbrev pub plus_succ : RawRule
plus_succ = record {
  left = plus_of (succ_of (x_at 0)) (y_at 0);
  right = succ_of (plus_of (x_at 0) (y_at 0));
  guards = [];
}

-- plus(x, y) = plus(x, x)
abbrev pub same_sums : RawEq
same_sums = record { left = plus_of (x_at 0) (y_at 0); right = plus_of (x_at 0) (x_at 0) }

-- plus(x, zero) = x
abbrev pub zero_adds_nothing : RawEq
zero_adds_nothing = record { left = plus_of (x_at 0) zero_word; right = x_at 0 }

-- a goal of this name with these bindings and this conclusion
abbrev pub concludes : List ℕ → List RawBind → RawEq → RawGoal
concludes name bs e =
    record { head = name_at name 0; binds = bs; premises = []; conclusions = e ∷ [] }

-- naturals with addition, these rules and these goals
abbrev pub naturals_with : List RawRule → List RawGoal → RawSpec
naturals_with rules goals =
    format_one (nat_sort ∷ []) (plus_function ∷ []) rules goals

-- goal same(x : Nat, y : Nat) : plus(x, y) = plus(x, x), and goal unit : plus(x, zero) = x, whose x has no binding
abbrev pub raw_naturals : RawSpec
raw_naturals = naturals_with (plus_zero_gives (y_at 0) ∷ plus_succ ∷ [])
    (concludes (codes "same") (binds (codes "x") ∷ binds (codes "y") ∷ []) same_sums
    ∷ concludes (codes "unit") [] zero_adds_nothing ∷ [])

-- rule plus(zero, y) = x
abbrev pub loose_rule : RawRule
loose_rule = plus_zero_gives (x_at 5)

-- goal free : x = y
abbrev pub free_goal : RawGoal
free_goal = concludes (codes "free") [] (record { left = x_at 3; right = y_at 4 })

-- naturals with that rule, and after it a sort that is named Nat once more
abbrev pub nat_twice : RawSpec
nat_twice =
    let again : RawSort = record { head = name_at (codes "Nat") 9; constructors = [] } in
    format_one (nat_sort ∷ again ∷ []) (plus_function ∷ []) (loose_rule ∷ []) []

-- fun of this name: Nat, Nat to Nat, or Nat to Nat
abbrev binary : List ℕ → RawFun
binary name = record { head = raw_symbol name (nat ∷ nat ∷ []); result = nat }

abbrev unary : List ℕ → RawFun
unary name = record { head = raw_symbol name (nat ∷ []); result = nat }

abbrev pub plus_at : ℕ → RawName
plus_at at = name_at (codes "plus") at

abbrev pub times_at : ℕ → RawName
times_at at = name_at (codes "times") at

abbrev pub double_at : ℕ → RawName
double_at at = name_at (codes "double") at

abbrev pub half_at : ℕ → RawName
half_at at = name_at (codes "half") at

abbrev pub equal : List RawName → RawEqual
equal names = record { names = names }

abbrev pub status : RawName → List ℕ → RawStatus
status head numbers = record { head = head; numbers = numbers }

-- the weight of a name at a place, and an order line with this name at place 5
abbrev pub weight : List ℕ → ℕ → ℕ → RawWeight
weight name at number = record { name = name_at name at; weight = number }

abbrev pub order : List ℕ → List RawWeight → RawOrder
order name weights = record { name = name_at name 5; weights = weights }

-- naturals with plus, times, double and half, which have the numbers 4 to 7, and these lines and rules
abbrev pub naturals_by : List RawEqual → List RawStatus → Option RawOrder → List RawRule → RawSpec
naturals_by equals statuses line rules =
    record {
      version = 2;
      sorts = nat_sort ∷ [];
      funs =
          plus_function ∷ binary (codes "times") ∷ unary (codes "double") ∷ unary (codes "half")
          ∷ [];
      equals = equals;
      statuses = statuses;
      order = line;
      rules = rules;
      goals = [];
    }

-- the same without an order line, and with one
abbrev pub ordered_with : List RawEqual → List RawStatus → List RawRule → RawSpec
ordered_with equals statuses rules = naturals_by equals statuses None rules

abbrev pub weighed_with : List RawEqual → List RawStatus → RawOrder → List RawRule → RawSpec
weighed_with equals statuses line rules = naturals_by equals statuses (Some line) rules

-- equal times, plus and status plus(2, 1)
abbrev pub ordered_naturals : RawSpec
ordered_naturals =
    ordered_with (equal (times_at 0 ∷ plus_at 0 ∷ []) ∷ []) (status (plus_at 0) (2 ∷ 1 ∷ []) ∷ []) []

-- order kbo : plus = 3, false = 1000
abbrev pub weights : List RawWeight
weights = weight (codes "plus") 0 3 ∷ weight (codes "false") 0 1000 ∷ []

abbrev pub weighed_naturals : RawSpec
weighed_naturals = weighed_with [] [] (order (codes "kbo") weights) []

pub record WorkedExamples : Type 0 where
  -- raw naturals stand for naturals
  pub stands : StandsFor raw_naturals naturals
  -- the variable x of plus(zero, y) = x isn't on the left side
  pub loose : HasFirstFault (naturals_with (loose_rule ∷ []) []) 5 NotOnTheLeft
  -- nothing gives a sort to the variables of x = y, of which x comes first
  pub free : HasFirstFault (naturals_with [] (free_goal ∷ [])) 3 SortNotInferred
  -- a repeated sort comes before the fault of a rule, although it comes later in the text
  pub repeated : HasFirstFault nat_twice 9 RepeatedName
  -- by equal times, plus both have the number of times as their level, and double has its own
  pub levels : map (level_in (sig_of ordered_naturals) ordered_naturals.equals) (4 ∷ 5 ∷ 6 ∷ [])
      ≡ 5 ∷ 5 ∷ 6 ∷ []
  -- by status plus(2, 1) its second argument comes first, and those of times are compared as written
  pub statuses : map (status_in (sig_of ordered_naturals) ordered_naturals.statuses) (4 ∷ 5 ∷ [])
      ≡ (2 ∷ 1 ∷ []) ∷ (1 ∷ 2 ∷ []) ∷ []
  -- equal plus, minus
  pub no_symbol : HasFirstFault
      (ordered_with (equal (plus_at 0 ∷ name_at (codes "minus") 5 ∷ []) ∷ []) [] [])
      5 UnknownName
  -- equal plus, succ: the constructor comes before the status line's name, which is no symbol
  pub constructor : HasFirstFault
      (ordered_with (equal (plus_at 0 ∷ name_at (codes "succ") 5 ∷ []) ∷ [])
      (status (name_at (codes "minus") 3) (1 ∷ []) ∷ []) [])
      5 NotAFunction
  -- equal plus, plus
  pub same_line : HasFirstFault (ordered_with (equal (plus_at 0 ∷ plus_at 5 ∷ []) ∷ []) [] [])
      5 EqualTwice
  -- equal double, half and equal plus, half: half is in the first line, and it has not as many arguments as plus
  pub other_line : HasFirstFault
      (ordered_with (equal (double_at 0 ∷ half_at 0 ∷ []) ∷ equal (plus_at 0 ∷ half_at 5 ∷ []) ∷ [])
      [] [])
      5 EqualTwice
  -- equal plus, double
  pub unlike : HasFirstFault (ordered_with (equal (plus_at 0 ∷ double_at 5 ∷ []) ∷ []) [] [])
      5 WrongNumberOfArguments
  -- status plus(2, 1) and status plus(2, 2): the second line comes before its numbers
  pub second_status : HasFirstFault
      (ordered_with []
      (status (plus_at 0) (2 ∷ 1 ∷ []) ∷ status (plus_at 5) (2 ∷ 2 ∷ []) ∷ []) [])
      5 StatusTwice
  -- status plus(2, 2), whose fault comes before that of the rule plus(zero, y) = x
  pub no_order : HasFirstFault
      (ordered_with [] (status (plus_at 9) (2 ∷ 2 ∷ []) ∷ []) (loose_rule ∷ []))
      9 NoOrderOfArguments
  -- status plus(1)
  pub few_numbers : HasFirstFault (ordered_with [] (status (plus_at 5) (1 ∷ []) ∷ []) [])
      5 NoOrderOfArguments
  -- order kbo : plus = 3, false = 1000 finds no fault, and the weights of true, false, plus and times are these
  pub weighed : HasNoFault weighed_naturals
  pub weights_of_symbols :
      map (weight_in (sig_of weighed_naturals) weights) (0 ∷ 1 ∷ 4 ∷ 5 ∷ []) ≡ 1 ∷ 1000 ∷ 3 ∷ 1 ∷ []
  -- equal plus, minus comes before order lpo
  pub equal_before_order : HasFirstFault
      (weighed_with (equal (plus_at 0 ∷ name_at (codes "minus") 3 ∷ []) ∷ []) []
      (order (codes "lpo") []) [])
      3 UnknownName
  -- status plus(2, 1) and order lpo : minus = 1
  pub no_ordering : HasFirstFault
      (weighed_with [] (status (plus_at 0) (2 ∷ 1 ∷ []) ∷ [])
      (order (codes "lpo") (weight (codes "minus") 9 1 ∷ [])) [])
      5 UnknownName
  -- status plus(2, 1) and order kbo : minus = 1
  pub status_with_weights : HasFirstFault
      (weighed_with [] (status (plus_at 0) (2 ∷ 1 ∷ []) ∷ [])
      (order (codes "kbo") (weight (codes "minus") 9 1 ∷ [])) [])
      5 EqualOrStatusWithKbo
  -- equal plus, times and order kbo
  pub equal_with_weights : HasFirstFault
      (weighed_with (equal (plus_at 0 ∷ times_at 0 ∷ []) ∷ []) [] (order (codes "kbo") []) [])
      5 EqualOrStatusWithKbo
  -- order kbo : minus = 1, plus = 0: the name comes before the weight of a later one
  pub no_weighed_symbol : HasFirstFault
      (weighed_with [] []
      (order (codes "kbo") (weight (codes "minus") 9 1 ∷ weight (codes "plus") 20 0 ∷ [])) [])
      9 UnknownName
  -- order kbo : plus = 2, plus = 0: the second name comes before its weight
  pub weighed_twice : HasFirstFault
      (weighed_with [] []
      (order (codes "kbo") (weight (codes "plus") 9 2 ∷ weight (codes "plus") 20 0 ∷ [])) [])
      20 RepeatedName
  -- order kbo : true = 0
  pub no_weight : HasFirstFault
      (weighed_with [] [] (order (codes "kbo") (weight (codes "true") 9 0 ∷ [])) [])
      9 WrongWeight
  -- order kbo : plus = 1000, succ = 1001, whose fault comes before that of the rule plus(zero, y) = x
  pub too_heavy : HasFirstFault
      (weighed_with [] []
      (order (codes "kbo") (weight (codes "plus") 9 1000 ∷ weight (codes "succ") 20 1001 ∷ []))
      (loose_rule ∷ []))
      20 WrongWeight
