-- Printed forms that the checker computes.
use Rattle.std.specs.Prelude.{◌≡◌, ℕ, List, [], ◌∷◌, ◌++◌, Some, None, Bool, true, false, codes}
use Rattle.spec_grammar.specs.declared.raw.RawName.{RawName}
use Rattle.spec_grammar.specs.declared.raw.RawNames.{RawNames}
use Rattle.spec_grammar.specs.declared.raw.RawSort.{RawSort}
use Rattle.spec_grammar.specs.declared.raw.RawFun.{RawFun}
use Rattle.spec_grammar.specs.declared.raw.RawWeight.{RawWeight}
use Rattle.spec_grammar.specs.declared.raw.RawEq.{RawEq}
use Rattle.spec_grammar.specs.declared.raw.RawGuard.{RawGuard}
use Rattle.spec_grammar.specs.declared.raw.RawRule.{RawRule}
use Rattle.spec_grammar.specs.declared.raw.RawBind.{RawBind}
use Rattle.spec_grammar.specs.declared.raw.RawGoal.{RawGoal}
use Rattle.spec_grammar.specs.declared.raw.RawSpec.{RawSpec}
use Rattle.spec_grammar.specs.FormatOne.{format_one}
use Rattle.spec_grammar.specs.RawTree.{RawTree, word, none, some}
use Rattle.spec_printing.specs.Printed.{printed}
use Rattle.spec_printing.specs.Upgraded.{upgraded}

-- a name
abbrev pub name : List ℕ → RawName
name text = record { name = text; at = 0 }

-- a name with others in parentheses
abbrev pub names : List ℕ → List RawName → RawNames
names text args = record { name = text; at = 0; args = args }

-- a word of a term alone
abbrev pub leaf : List ℕ → RawTree
leaf text = word text 0 none

-- a word with two others in parentheses
abbrev pub pair : List ℕ → List ℕ → List ℕ → RawTree
pair text left right = word text 0 (some (leaf left) (some (leaf right) none))

-- an equation of two words
abbrev pub equation : List ℕ → List ℕ → RawEq
equation left right = record { left = leaf left; right = leaf right }

-- `x : Nat`
abbrev pub of_nat : List ℕ → RawBind
of_nat text = record { name = name text; sort = name (codes "Nat") }

-- a goal with this name
abbrev pub goal : List ℕ → List RawBind → List RawEq → List RawEq → RawGoal
goal text binds premises conclusions =
    record { head = name text; binds = binds; premises = premises; conclusions = conclusions }

-- goals alone
abbrev pub with_goals : List RawGoal → RawSpec
with_goals goals = format_one [] [] [] goals

-- `sort Nat = zero | succ(Nat)`
abbrev pub nat_sort : RawSort
nat_sort =
    let zero = names (codes "zero") [] in
    let succ = names (codes "succ") (name (codes "Nat") ∷ []) in
    record { head = name (codes "Nat"); constructors = zero ∷ succ ∷ [] }

-- `fun plus(Nat, Nat) : Nat`
abbrev pub plus_fun : RawFun
plus_fun =
    let nat = name (codes "Nat") in
    record { head = names (codes "plus") (nat ∷ nat ∷ []); result = nat }

-- a function from Nat to Bool
abbrev pub test_fun : List ℕ → RawFun
test_fun text =
    record { head = names text (name (codes "Nat") ∷ []); result = name (codes "Bool") }

-- a test of x and y, wanted true or false
abbrev pub guard : List ℕ → Bool → RawGuard
guard text wanted = record { test = pair text (codes "x") (codes "y"); wanted = wanted }

-- `rule f(x, y) = g(x) if le(x, y) unless eq(x, y)`
abbrev pub guarded_rule : RawRule
guarded_rule = record {
  left = pair (codes "f") (codes "x") (codes "y");
  right = word (codes "g") 0 (some (leaf (codes "x")) none);
  guards = guard (codes "le") true ∷ guard (codes "eq") false ∷ [];
}

-- these three
abbrev pub declarations : RawSpec
declarations = format_one (nat_sort ∷ []) (plus_fun ∷ []) (guarded_rule ∷ []) []

-- functions of one level, and functions with an order of their arguments
abbrev pub ordered : RawSpec
ordered = record {
  version = 2;
  sorts = [];
  funs = test_fun (codes "even") ∷ test_fun (codes "odd") ∷ [];
  equals = record { names = name (codes "even") ∷ name (codes "odd") ∷ [] }
      ∷ record { names = name (codes "f") ∷ name (codes "g") ∷ name (codes "h") ∷ [] } ∷ [];
  statuses = record { head = name (codes "add"); numbers = 2 ∷ 1 ∷ [] }
      ∷ record { head = name (codes "even"); numbers = 1 ∷ [] } ∷ [];
  order = None;
  rules = guarded_rule ∷ [];
  goals = [];
}

-- the ordering by weights, of these weights
abbrev pub weighed : List RawWeight → RawSpec
weighed weights = record {
  version = 2;
  sorts = [];
  funs = plus_fun ∷ [];
  equals = [];
  statuses = [];
  order = Some (record { name = name (codes "kbo"); weights = weights });
  rules = guarded_rule ∷ [];
  goals = [];
}

abbrev pub two_weights : List RawWeight
two_weights = record { name = name (codes "succ"); weight = 1 }
    ∷ record { name = name (codes "plus"); weight = 20 } ∷ []

-- `a = b`, `c = d`, `e = f` and `h = i`
abbrev pub a_is_b : RawEq
a_is_b = equation (codes "a") (codes "b")

abbrev pub c_is_d : RawEq
c_is_d = equation (codes "c") (codes "d")

abbrev pub e_is_f : RawEq
e_is_f = equation (codes "e") (codes "f")

abbrev pub h_is_i : RawEq
h_is_i = equation (codes "h") (codes "i")

-- a goal of two variables, with premises and conclusions
abbrev pub whole_goal : RawGoal
whole_goal = goal (codes "g") (of_nat (codes "x") ∷ of_nat (codes "y") ∷ [])
    (a_is_b ∷ c_is_d ∷ []) (e_is_f ∷ h_is_i ∷ [])

-- the header alone, a line of each kind, and the forms of a clause
pub record PrintedExamples : Type 0 where
  pub header : printed (with_goals []) ≡ codes "spike 1\n"
  pub lines : printed declarations ≡ codes "spike 1\n"
      ++ codes "sort Nat = zero | succ(Nat)\nfun plus(Nat, Nat) : Nat\n"
      ++ codes "rule f(x, y) = g(x) if le(x, y) unless eq(x, y)\n"
  pub orders : printed ordered ≡ codes "spike 2\n"
      ++ codes "fun even(Nat) : Bool\nfun odd(Nat) : Bool\n"
      ++ codes "equal even, odd\nequal f, g, h\nstatus add(2, 1)\nstatus even(1)\n"
      ++ codes "rule f(x, y) = g(x) if le(x, y) unless eq(x, y)\n"
  pub weights : printed (weighed two_weights) ≡ codes "spike 2\n"
      ++ codes "fun plus(Nat, Nat) : Nat\norder kbo : succ = 1, plus = 20\n"
      ++ codes "rule f(x, y) = g(x) if le(x, y) unless eq(x, y)\n"
  pub no_weights : printed (weighed []) ≡ codes "spike 2\n"
      ++ codes "fun plus(Nat, Nat) : Nat\norder kbo\n"
      ++ codes "rule f(x, y) = g(x) if le(x, y) unless eq(x, y)\n"
  pub in_format_two : printed (upgraded declarations) ≡ codes "spike 2\n"
      ++ codes "sort Nat = zero | succ(Nat)\nfun plus(Nat, Nat) : Nat\n"
      ++ codes "rule f(x, y) = g(x) if le(x, y) unless eq(x, y)\n"
  pub whole : printed (with_goals (whole_goal ∷ []))
      ≡ codes "spike 1\ngoal g(x : Nat, y : Nat) : a = b, c = d => e = f | h = i\n"
  pub without_conclusions :
      printed (with_goals (
      goal (codes "denial") [] (a_is_b ∷ []) [] ∷ goal (codes "empty") [] [] [] ∷ []))
      ≡ codes "spike 1\ngoal denial : a = b =>\ngoal empty : =>\n"
  pub without_premises :
      printed (with_goals (goal (codes "plain") [] [] (a_is_b ∷ c_is_d ∷ []) ∷ []))
      ≡ codes "spike 1\ngoal plain : a = b | c = d\n"
