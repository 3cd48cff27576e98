-- Insertion into sorted lists, on which the examples of steps are worked.
use Rattle.std.specs.Prelude.{ℕ, List, [], ◌∷◌, ◌++◌, true, false, codes}
use Rattle.term_core.specs.Tree.{Tree, var, app, none, some}
use Rattle.term_core.specs.declared.ids.SortId.{SortId}
use Rattle.spec_core.specs.declared.records.SymInfo.{SymInfo}
use Rattle.spec_core.specs.declared.records.VarInfo.{VarInfo}
use Rattle.spec_core.specs.declared.records.Guard.{Guard}
use Rattle.spec_core.specs.declared.records.Rule.{Rule}
use Rattle.spec_core.specs.declared.records.Spec.{Spec}
use Rattle.spec_core.specs.Sig.{Sig}
use Rattle.spec_core.specs.Declarations.{declared_by, bool_sort}
use Rattle.spec_core.specs.Orders.{order_by_number}
use Rattle.spec_core.specs.Naturals.{nat, nat_constructors, variable, zero_term, succ_term}

abbrev pub list : SortId
list = record { 0 = 2 }

-- a symbol with these arguments and this result
abbrev pub symbol : List ℕ → List SortId → SortId → List ℕ × SymInfo
symbol name args result = (name, record { args = args; result = result })

-- sort Nat = zero | succ(Nat), sort List = nil | cons(Nat, List),
-- fun le(Nat, Nat) : Bool, fun sorted(List) : Bool, fun insert(Nat, List) : List
abbrev pub insertion_sig : Sig
insertion_sig =
    declared_by (codes "Nat" ∷ codes "List" ∷ [])
    (nat_constructors
    ++ (symbol (codes "nil") [] list ∷ symbol (codes "cons") (nat ∷ list ∷ []) list ∷ []))
    (symbol (codes "le") (nat ∷ nat ∷ []) bool_sort
    ∷ symbol (codes "sorted") (list ∷ []) bool_sort
    ∷ symbol (codes "insert") (nat ∷ list ∷ []) list ∷ [])

abbrev pub true_term : Tree
true_term = app 0 none

abbrev pub false_term : Tree
false_term = app 1 none

abbrev pub nil_term : Tree
nil_term = app 4 none

abbrev pub cons_term : Tree → Tree → Tree
cons_term x l = app 5 (some x (some l none))

abbrev pub le_term : Tree → Tree → Tree
le_term x y = app 6 (some x (some y none))

abbrev pub sorted_term : Tree → Tree
sorted_term l = app 7 (some l none)

abbrev pub insert_term : Tree → Tree → Tree
insert_term x l = app 8 (some x (some l none))

-- variables of sort Nat, and then one of sort List
abbrev pub list_variable : VarInfo
list_variable = record { name = codes "l"; sort = list }

abbrev pub x_y : List VarInfo
x_y = variable (codes "x") ∷ variable (codes "y") ∷ []

abbrev pub x_y_l : List VarInfo
x_y_l = variable (codes "x") ∷ variable (codes "y") ∷ list_variable ∷ []

-- if le(x, y), and unless le(x, y)
abbrev pub if_le : List Guard
if_le = record { test = le_term (var 0) (var 1); wanted = true } ∷ []

abbrev pub unless_le : List Guard
unless_le = record { test = le_term (var 0) (var 1); wanted = false } ∷ []

abbrev pub rule_of : List VarInfo → Tree → Tree → List Guard → Rule
rule_of vars left right guards = record { vars = vars; left = left; right = right; guards = guards }

-- cons(x, cons(y, l))
abbrev pub two_items : Tree
two_items = cons_term (var 0) (cons_term (var 1) (var 2))

-- rule sorted(cons(x, cons(y, l))) = sorted(cons(y, l)) if le(x, y)
abbrev pub sorted_if_rule : Rule
sorted_if_rule =
    rule_of x_y_l (sorted_term two_items) (sorted_term (cons_term (var 1) (var 2))) if_le

-- rule sorted(cons(x, cons(y, l))) = false unless le(x, y)
abbrev pub sorted_unless_rule : Rule
sorted_unless_rule = rule_of x_y_l (sorted_term two_items) false_term unless_le

-- rules le(zero, y) = true, le(succ(x), zero) = false, le(succ(x), succ(y)) = le(x, y)
abbrev pub le_rules : List Rule
le_rules = rule_of (variable (codes "y") ∷ []) (le_term zero_term (var 0)) true_term []
    ∷ rule_of (variable (codes "x") ∷ []) (le_term (succ_term (var 0)) zero_term) false_term []
    ∷ rule_of x_y (le_term (succ_term (var 0)) (succ_term (var 1))) (le_term (var 0) (var 1)) []
    ∷ []

-- rules sorted(nil) = true, sorted(cons(x, nil)) = true, and the two above
abbrev pub sorted_rules : List Rule
sorted_rules = rule_of [] (sorted_term nil_term) true_term []
    ∷ rule_of (variable (codes "x") ∷ []) (sorted_term (cons_term (var 0) nil_term)) true_term []
    ∷ sorted_if_rule ∷ sorted_unless_rule ∷ []

-- rules insert(x, nil) = cons(x, nil), insert(x, cons(y, l)) = cons(x, cons(y, l)) if le(x, y),
-- insert(x, cons(y, l)) = cons(y, insert(x, l)) unless le(x, y)
abbrev pub insert_rules : List Rule
insert_rules =
    rule_of (variable (codes "x") ∷ []) (insert_term (var 0) nil_term)
    (cons_term (var 0) nil_term) []
    ∷ rule_of x_y_l (insert_term (var 0) (cons_term (var 1) (var 2))) two_items if_le
    ∷ rule_of x_y_l (insert_term (var 0) (cons_term (var 1) (var 2)))
    (cons_term (var 1) (insert_term (var 0) (var 2))) unless_le
    ∷ []

abbrev pub insertion : Spec
insertion = record {
  sig = insertion_sig;
  order = order_by_number insertion_sig;
  rules = le_rules ++ (sorted_rules ++ insert_rules);
  goals = [];
}
