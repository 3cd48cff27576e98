-- The specification that the generated declarations stand for. The symbols are true, false, zero,
-- succ, plus and le.
use Rattle.std.specs.Prelude.{ℕ, zero, suc, ◌+◌, ◌%◌, List, [], ◌∷◌, ◌++◌, map, codes}
use Rattle.std.specs.List.{range_with_len}
use Rattle.term_core.specs.Tree.{Tree, var, app, none, some}
use Rattle.spec_core.specs.declared.records.SymInfo.{SymInfo}
use Rattle.spec_core.specs.declared.records.VarInfo.{VarInfo}
use Rattle.spec_core.specs.declared.records.Equation.{Equation}
use Rattle.spec_core.specs.declared.records.Rule.{Rule}
use Rattle.spec_core.specs.declared.records.Goal.{Goal}
use Rattle.spec_core.specs.declared.records.Spec.{Spec}
use Rattle.spec_core.specs.Sig.{Sig}
use Rattle.spec_core.specs.Declarations.{declared_by, bool_sort}
use Rattle.spec_core.specs.Orders.{order_by_number}
use Rattle.spec_core.specs.Naturals.{nat, nat_sorts, nat_constructors, nat_function, zero_term, succ_term, plus_term}
use Rattle.spec_core.specs.Naturals.{variable, plus_zero_rule, plus_succ_rule}
use Rattle.load_text.specs.LoadRaw.{goal_name, height}

-- fun le(Nat, Nat) : Bool
abbrev pub le_info : SymInfo
le_info = record { args = nat ∷ nat ∷ []; result = bool_sort }

-- fun plus(Nat, Nat) : Nat, and le
abbrev pub load_functions : List (List ℕ × SymInfo)
load_functions = nat_function (codes "plus") ++ (codes "le", le_info) ∷ []

-- the sorts, the constructors and the functions
abbrev pub load_sig : Sig
load_sig = declared_by nat_sorts nat_constructors load_functions

-- true, false, and le before two terms
abbrev pub yes_term : Tree
yes_term = app 0 none

abbrev pub no_term : Tree
no_term = app 1 none

abbrev pub le_term : Tree → Tree → Tree
le_term s t = app 5 (some s (some t none))

-- variables of sort Nat
abbrev pub x_variable : VarInfo
x_variable = variable (codes "x")

abbrev pub y_variable : VarInfo
y_variable = variable (codes "y")

abbrev pub z_variable : VarInfo
z_variable = variable (codes "z")

-- rule le(zero, y) = true
abbrev pub le_zero_rule : Rule
le_zero_rule = record {
  vars = y_variable ∷ [];
  left = le_term zero_term (var 0);
  right = yes_term;
  guards = [];
}

-- rule le(succ(x), zero) = false
abbrev pub le_succ_zero_rule : Rule
le_succ_zero_rule = record {
  vars = x_variable ∷ [];
  left = le_term (succ_term (var 0)) zero_term;
  right = no_term;
  guards = [];
}

-- rule le(succ(x), succ(y)) = le(x, y)
abbrev pub le_succ_rule : Rule
le_succ_rule = record {
  vars = x_variable ∷ y_variable ∷ [];
  left = le_term (succ_term (var 0)) (succ_term (var 1));
  right = le_term (var 0) (var 1);
  guards = [];
}

-- the rules of addition and of the order
abbrev pub load_spec_rules : List Rule
load_spec_rules = plus_zero_rule ∷ plus_succ_rule ∷ le_zero_rule ∷ le_succ_zero_rule ∷
    le_succ_rule ∷ []

-- the term under `succ`, this many times
abbrev pub successor_terms : ℕ → Tree → Tree
successor_terms zero t = t
successor_terms (suc k) t = succ_term (successor_terms k t)

-- LEFT = RIGHT
abbrev pub equal_terms : Tree → Tree → Equation
equal_terms left right = record { left = left; right = right }

-- the equation of a goal of this kind, with `succ` k times
abbrev pub spec_sides : ℕ → ℕ → Equation
spec_sides zero k = equal_terms (plus_term (successor_terms k (var 0)) (var 1))
    (successor_terms k (plus_term (var 0) (var 1)))
spec_sides (suc zero) k = equal_terms (plus_term (var 0) (var 1))
    (plus_term (var 0) (successor_terms k (var 1)))
spec_sides (suc (suc zero)) k =
    equal_terms (le_term (successor_terms (k + 3) zero_term) (var 0)) yes_term
spec_sides _ k = equal_terms (plus_term (plus_term (var 0) (var 1)) (successor_terms k (var 2)))
    (plus_term (var 0) (plus_term (var 1) (successor_terms k (var 2))))

-- the variables of a goal of this kind
abbrev pub spec_variables : ℕ → List VarInfo
spec_variables zero = x_variable ∷ y_variable ∷ []
spec_variables (suc zero) = x_variable ∷ y_variable ∷ []
spec_variables (suc (suc zero)) = x_variable ∷ []
spec_variables _ = x_variable ∷ y_variable ∷ z_variable ∷ []

-- a goal of this name and kind
abbrev pub spec_goal_of_kind : List ℕ → ℕ → ℕ → Goal
spec_goal_of_kind text (suc (suc zero)) k =
    record {
      name = text;
      vars = spec_variables 2;
      premises = spec_sides 2 k ∷ [];
      conclusions = [];
    }
spec_goal_of_kind text kind k =
    record {
      name = text;
      vars = spec_variables kind;
      premises = [];
      conclusions = spec_sides kind k ∷ [];
    }

-- goal i
abbrev pub spec_goal : ℕ → Goal
spec_goal i = spec_goal_of_kind (goal_name i) (i % 4) (height i)

-- the specification with goals 0 to n - 1
abbrev pub load_spec : ℕ → Spec
load_spec n = record {
  sig = load_sig;
  order = order_by_number load_sig;
  rules = load_spec_rules;
  goals = map spec_goal (range_with_len 0 n);
}
