-- The specification that the tests evaluate.
use Rattle.std.specs.Prelude.{ℕ, List, [], ◌∷◌, ◌++◌, Bool, true, false, codes, replicate}
use Rattle.term_core.specs.Tree.{Tree, var, app, none, some}
use Rattle.term_core.specs.declared.ids.SortId.{SortId}
use Rattle.spec_core.specs.declared.records.SymInfo.{SymInfo}
use Rattle.spec_core.specs.declared.records.VarInfo.{VarInfo}
use Rattle.spec_core.specs.declared.records.Equation.{Equation}
use Rattle.spec_core.specs.declared.records.Guard.{Guard}
use Rattle.spec_core.specs.declared.records.Rule.{Rule}
use Rattle.spec_core.specs.declared.records.Goal.{Goal}
use Rattle.spec_core.specs.declared.records.Spec.{Spec}
use Rattle.spec_core.specs.Sig.{Sig}
use Rattle.spec_core.specs.Declarations.{bool_sort, declared_by}
use Rattle.spec_core.specs.Orders.{order_by_number}

-- the sort Nat, which comes after Bool
abbrev pub nat : SortId
nat = record { 0 = 1 }

-- a symbol with this number of natural arguments
abbrev pub takes : ℕ → SortId → SymInfo
takes n s = record { args = replicate n nat; result = s }

-- sort Nat
abbrev pub sample_sorts : List (List ℕ)
sample_sorts = codes "Nat" ∷ []

-- its constructors zero and succ(Nat)
abbrev pub sample_constructors : List (List ℕ × SymInfo)
sample_constructors = (codes "zero", takes 0 nat) ∷ (codes "succ", takes 1 nat) ∷ []

-- fun plus(Nat, Nat) : Nat, fun le(Nat, Nat) : Bool, fun isz(Nat) : Bool, and pick, grade, turn and part, of Nat to Nat
abbrev pub sample_functions : List (List ℕ × SymInfo)
sample_functions = (codes "plus", takes 2 nat) ∷ (codes "le", takes 2 bool_sort)
    ∷ (codes "isz", takes 1 bool_sort) ∷ (codes "pick", takes 1 nat) ∷ (codes "grade", takes 1 nat)
    ∷ (codes "turn", takes 1 nat) ∷ (codes "part", takes 1 nat) ∷ []

-- the signature of these declarations
abbrev pub sample_sig : Sig
sample_sig = declared_by sample_sorts sample_constructors sample_functions

-- a symbol without arguments: true is 0, false 1 and zero 2
abbrev pub leaf_term : ℕ → Tree
leaf_term f = app f none

-- a symbol with one argument: succ is 3, isz 6, pick 7, grade 8, turn 9 and part 10
abbrev pub one_term : ℕ → Tree → Tree
one_term f t = app f (some t none)

-- a symbol with two: plus is 4 and le 5
abbrev pub two_term : ℕ → Tree → Tree → Tree
two_term f s t = app f (some s (some t none))

-- zero
abbrev pub zero_term : Tree
zero_term = leaf_term 2

-- succ(t)
abbrev pub succ_term : Tree → Tree
succ_term t = one_term 3 t

-- a variable of the sort Nat
abbrev pub variable : VarInfo
variable = record { name = codes "x"; sort = nat }

-- a rule with n variables
abbrev pub rule_of : ℕ → Tree → Tree → List Guard → Rule
rule_of n left right guards =
    record { vars = replicate n variable; left = left; right = right; guards = guards }

-- the guard that wants this Boolean of isz(x)
abbrev pub is_zero : Bool → Guard
is_zero wanted = record { test = one_term 6 (var 0); wanted = wanted }

-- plus(zero, y) = y; plus(succ(x), y) = succ(plus(x, y))
abbrev pub plus_rules : List Rule
plus_rules = rule_of 1 (two_term 4 zero_term (var 0)) (var 0) []
    ∷ rule_of 2 (two_term 4 (succ_term (var 0)) (var 1)) (succ_term (two_term 4 (var 0) (var 1))) []
    ∷ []

-- le(zero, y) = true; le(succ(x), zero) = false; le(succ(x), succ(y)) = le(x, y)
abbrev pub le_rules : List Rule
le_rules = rule_of 1 (two_term 5 zero_term (var 0)) (leaf_term 0) []
    ∷ rule_of 1 (two_term 5 (succ_term (var 0)) zero_term) (leaf_term 1) []
    ∷ rule_of 2 (two_term 5 (succ_term (var 0)) (succ_term (var 1))) (two_term 5 (var 0) (var 1)) []
    ∷ []

-- isz(zero) = true; isz(succ(x)) = false
abbrev pub isz_rules : List Rule
isz_rules = rule_of 0 (one_term 6 zero_term) (leaf_term 0) []
    ∷ rule_of 1 (one_term 6 (succ_term (var 0))) (leaf_term 1) [] ∷ []

-- the guard that wants this Boolean of le(x, succ(zero))
abbrev pub is_small : Bool → Guard
is_small wanted = record { test = two_term 5 (var 0) (succ_term zero_term); wanted = wanted }

-- a rule for the call f(x)
abbrev pub rule_on : ℕ → Tree → List Guard → Rule
rule_on f right guards = rule_of 1 (one_term f (var 0)) right guards

-- pick(x) = succ(x) if isz(x); pick(x) = x unless isz(x)
abbrev pub pick_rules : List Rule
pick_rules =
    rule_on 7 (succ_term (var 0)) (is_zero true ∷ []) ∷ rule_on 7 (var 0) (is_zero false ∷ []) ∷ []

-- where small is le(x, succ(zero)): grade(x) = zero if small if isz(x); grade(x) = succ(x) if small unless isz(x); grade(x) = x unless small
abbrev pub grade_rules : List Rule
grade_rules = rule_on 8 zero_term (is_small true ∷ is_zero true ∷ [])
    ∷ rule_on 8 (succ_term (var 0)) (is_small true ∷ is_zero false ∷ [])
    ∷ rule_on 8 (var 0) (is_small false ∷ []) ∷ []

-- the same tests in another order of the rules: turn(x) = plus(x, x) unless small; turn(x) = zero if small unless isz(x); turn(x) = succ(x) if small if isz(x)
abbrev pub turn_rules : List Rule
turn_rules = rule_on 9 (two_term 4 (var 0) (var 0)) (is_small false ∷ [])
    ∷ rule_on 9 zero_term (is_small true ∷ is_zero false ∷ [])
    ∷ rule_on 9 (succ_term (var 0)) (is_small true ∷ is_zero true ∷ []) ∷ []

-- no whole group: part(x) = succ(x) if isz(x); part(x) = x if isz(x) if small
abbrev pub part_rules : List Rule
part_rules = rule_on 10 (succ_term (var 0)) (is_zero true ∷ [])
    ∷ rule_on 10 (var 0) (is_zero true ∷ is_small true ∷ []) ∷ []

-- the equation of two sides
abbrev pub equation_of : Tree → Tree → Equation
equation_of left right = record { left = left; right = right }

-- a goal of two variables with one conclusion
abbrev pub goal_of : List ℕ → List Equation → Equation → Goal
goal_of name premises conclusion =
    record {
      name = name;
      vars = replicate 2 variable;
      premises = premises;
      conclusions = conclusion ∷ [];
    }

-- plus(x, y) = plus(x, x)
abbrev pub same_goal : Goal
same_goal = goal_of (codes "same") []
    (equation_of (two_term 4 (var 0) (var 1)) (two_term 4 (var 0) (var 0)))

-- le(x, y) = true -> plus(x, y) = y
abbrev pub less_goal : Goal
less_goal = goal_of (codes "less") (equation_of (two_term 5 (var 0) (var 1)) (leaf_term 0) ∷ [])
    (equation_of (two_term 4 (var 0) (var 1)) (var 1))

-- all of them
abbrev pub sample : Spec
sample = record {
  sig = sample_sig;
  order = order_by_number sample_sig;
  rules = plus_rules ++ le_rules ++ isz_rules ++ pick_rules ++ grade_rules ++ turn_rules
      ++ part_rules;
  goals = same_goal ∷ less_goal ∷ [];
}
