-- Naturals with addition, on which the examples are worked.
use Rattle.std.specs.Prelude.{ℕ, zero, suc, List, [], ◌∷◌, codes}
use Rattle.term_core.specs.Tree.{Tree, var, app, none, some}
use Rattle.term_core.specs.declared.ids.SortId.{SortId}
use Rattle.spec_core.specs.declared.records.SymInfo.{SymInfo}
use Rattle.spec_core.specs.declared.records.VarInfo.{VarInfo}
use Rattle.spec_core.specs.declared.records.Rule.{Rule}
use Rattle.spec_core.specs.declared.records.Goal.{Goal}
use Rattle.spec_core.specs.declared.records.Spec.{Spec}
use Rattle.spec_core.specs.Sig.{Sig}
use Rattle.spec_core.specs.Declarations.{declared_by}
use Rattle.spec_core.specs.Orders.{order_by_number}

abbrev pub nat : SortId
nat = record { 0 = 1 }

-- a symbol of sort Nat with these arguments
abbrev pub declares : List SortId → SymInfo
declares args = record { args = args; result = nat }

-- sort Nat
abbrev pub nat_sorts : List (List ℕ)
nat_sorts = codes "Nat" ∷ []

-- its constructors zero and succ(Nat)
abbrev pub nat_constructors : List (List ℕ × SymInfo)
nat_constructors = (codes "zero", declares []) ∷ (codes "succ", declares (nat ∷ [])) ∷ []

-- a function of two naturals with this name
abbrev pub nat_function : List ℕ → List (List ℕ × SymInfo)
nat_function name = (name, declares (nat ∷ nat ∷ [])) ∷ []

-- sort Nat = zero | succ(Nat), fun plus(Nat, Nat) : Nat
abbrev pub naturals_sig : Sig
naturals_sig = declared_by nat_sorts nat_constructors (nat_function (codes "plus"))

-- sort Nat = zero | succ(Nat), fun zero(Nat, Nat) : Nat
abbrev pub repeated_sig : Sig
repeated_sig = declared_by nat_sorts nat_constructors (nat_function (codes "zero"))

-- sort Nat = succ(Nat)
abbrev pub endless_sig : Sig
endless_sig = declared_by nat_sorts ((codes "succ", declares (nat ∷ [])) ∷ []) []

abbrev pub zero_term : Tree
zero_term = app 2 none

abbrev pub succ_term : Tree → Tree
succ_term t = app 3 (some t none)

abbrev pub plus_term : Tree → Tree → Tree
plus_term s t = app 4 (some s (some t none))

-- succ applied n times to zero
abbrev pub number : ℕ → Tree
number zero = zero_term
number (suc n) = succ_term (number n)

-- a variable of sort Nat
abbrev pub variable : List ℕ → VarInfo
variable name = record { name = name; sort = nat }

-- rule plus(zero, y) = y
abbrev pub plus_zero_rule : Rule
plus_zero_rule = record {
  vars = variable (codes "y") ∷ [];
  left = plus_term zero_term (var 0);
  right = var 0;
  guards = [];
}

-- rule plus(succ(x), y) = succ(plus(x, y))
abbrev pub plus_succ_rule : Rule
plus_succ_rule = record {
  vars = variable (codes "x") ∷ variable (codes "y") ∷ [];
  left = plus_term (succ_term (var 0)) (var 1);
  right = succ_term (plus_term (var 0) (var 1));
  guards = [];
}

-- rule plus(zero, y) = x, whose right side has a variable that its left side lacks
abbrev pub loose_rule : Rule
loose_rule = record {
  vars = variable (codes "y") ∷ variable (codes "x") ∷ [];
  left = plus_term zero_term (var 0);
  right = var 1;
  guards = [];
}

-- goal same(x : Nat, y : Nat) : plus(x, y) = plus(x, x)
abbrev pub same_goal : Goal
same_goal = record {
  name = codes "same";
  vars = variable (codes "x") ∷ variable (codes "y") ∷ [];
  premises = [];
  conclusions = record {
    left = plus_term (var 0) (var 1);
    right = plus_term (var 0) (var 0);
  } ∷ [];
}

-- goal unit(x : Nat) : plus(x, zero) = x
abbrev pub unit_goal : Goal
unit_goal = record {
  name = codes "unit";
  vars = variable (codes "x") ∷ [];
  premises = [];
  conclusions = record { left = plus_term (var 0) zero_term; right = var 0 } ∷ [];
}

-- goal mixed : zero = true, whose sides have two sorts
abbrev pub mixed_goal : Goal
mixed_goal = record {
  name = codes "mixed";
  vars = [];
  premises = [];
  conclusions = record { left = zero_term; right = app 0 none } ∷ [];
}

abbrev pub naturals : Spec
naturals = record {
  sig = naturals_sig;
  order = order_by_number naturals_sig;
  rules = plus_zero_rule ∷ plus_succ_rule ∷ [];
  goals = same_goal ∷ unit_goal ∷ [];
}

-- two goals of one name
abbrev pub twice : Spec
twice = record naturals { goals = same_goal ∷ same_goal ∷ [] }

-- rule plus(x, y) = x, whose left side every call of plus matches
abbrev pub plus_any_rule : Rule
plus_any_rule = record {
  vars = variable (codes "x") ∷ variable (codes "y") ∷ [];
  left = plus_term (var 0) (var 1);
  right = var 0;
  guards = [];
}

abbrev pub overlapping : Spec
overlapping = record naturals { rules = plus_zero_rule ∷ plus_any_rule ∷ []; goals = [] }

-- plus with no rule for a successor
abbrev pub uncovered : Spec
uncovered = record naturals { rules = plus_zero_rule ∷ []; goals = [] }
