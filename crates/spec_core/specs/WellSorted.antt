-- Well sorted rules, goals and specifications.
use Rattle.std.specs.Prelude.{◌≡◌, ℕ, ◌<◌, ◌≤◌, ◌^◌, List, Some, map, length, slice_get}
use Rattle.std.specs.List.{AllByRecursion}
use Rattle.term_core.specs.Tree.{Tree, Trees, var, app, none, some, tree_depth}
use Rattle.term_core.specs.declared.ids.SortId.{SortId}
use Rattle.term_core.specs.Variables.{Occurs, Numbered}
use Rattle.spec_core.specs.declared.records.SymInfo.{SymInfo}
use Rattle.spec_core.specs.declared.records.VarInfo.{VarInfo}
use Rattle.spec_core.specs.declared.records.Rule.{Rule}
use Rattle.spec_core.specs.declared.records.Guard.{Guard}
use Rattle.spec_core.specs.declared.records.Spec.{Spec}
use Rattle.spec_core.specs.declared.records.Goal.{Goal}
use Rattle.spec_core.specs.declared.records.Equation.{Equation}
use Rattle.spec_core.specs.Sig.{Sig, info_of, IsConstructor, IsSort}
use Rattle.spec_core.specs.Sorts.{Sorted}
use Rattle.spec_core.specs.Orders.{IsOrderOf}
use Rattle.spec_core.specs.Declarations.{IsDeclared, bool_sort}

-- the symbols of a pattern are constructors
abbrev mutual
  pub IsPattern : Sig → Tree → Type 0
  IsPattern sig (var n) = Unit {0}
  IsPattern sig (app f ts) = IsConstructor sig f × ArePatterns sig ts

  pub ArePatterns : Sig → Trees → Type 0
  ArePatterns sig none = Unit {0}
  ArePatterns sig (some t ts) = IsPattern sig t × ArePatterns sig ts

-- the sorts of the variables, by number
abbrev pub sorts_of : List VarInfo → List SortId
sorts_of vars = map (λ (v : VarInfo). v.sort) vars

-- a function applied to constructor patterns
abbrev pub IsLeft : Sig → Tree → Type 0
IsLeft sig (var n) = ⊥
IsLeft sig (app f ts) = ¬ (IsConstructor sig f) × ArePatterns sig ts

-- the sides of a rule have depth at most 100, and so have its tests
abbrev pub IsShallow : Tree → Type 0
IsShallow t = tree_depth t ≤ 100

-- the left side is a function applied to constructor patterns; the right side has its sort and each test the sort Bool;
-- the variables are numbered by first occurrence on the left side, where each of them occurs
pub record RuleIsSorted (sig : Sig) (rule : Rule) : Type 0 where
  pub left : IsLeft sig rule.left
  pub sides : (s : SortId) × Sorted sig (sorts_of rule.vars) rule.left s
      × Sorted sig (sorts_of rule.vars) rule.right s
  pub guards : AllByRecursion (λ (g : Guard). Sorted sig (sorts_of rule.vars) g.test bool_sort)
      rule.guards
  pub numbered : Numbered 0 rule.left (length (sorts_of rule.vars))
  pub bound : (n : ℕ) → n < length (sorts_of rule.vars) → Occurs n rule.left
  pub few_variables : length rule.vars ≤ 16
  pub shallow_left : IsShallow rule.left
  pub shallow_right : IsShallow rule.right
  pub shallow_guards : AllByRecursion (λ (g : Guard). IsShallow g.test) rule.guards

-- both sides of each equation have one sort
abbrev pub EquationsAreSorted : Sig → List SortId → List Equation → Type 0
EquationsAreSorted sig ctx es = (k : ℕ) (e : Equation) → slice_get es k ≡ Some e → (s : SortId)
    × Sorted sig ctx e.left s × Sorted sig ctx e.right s

pub record GoalIsSorted (sig : Sig) (goal : Goal) : Type 0 where
  pub premises : EquationsAreSorted sig (sorts_of goal.vars) goal.premises
  pub conclusions : EquationsAreSorted sig (sorts_of goal.vars) goal.conclusions
  pub variables : AllByRecursion (λ (v : VarInfo). IsSort sig v.sort) goal.vars
  pub few_variables : length goal.vars ≤ 16

-- no symbol has more than 8 arguments
abbrev pub HasFewArguments : Sig → Type 0
HasFewArguments sig = (f : ℕ) (i : SymInfo) → info_of sig f ≡ Some i → length i.args ≤ 8

-- no two goals have the same name
abbrev pub GoalNamesAreDistinct : List Goal → Type 0
GoalNamesAreDistinct goals = (j k : ℕ) (g h : Goal) → slice_get goals j ≡ Some g
    → slice_get goals k ≡ Some h → g.name ≡ h.name → j ≡ k

pub record IsWellSorted (spec : Spec) : Type 0 where
  pub order : IsOrderOf spec.sig spec.order
  pub signature : IsDeclared spec.sig
  pub arities : HasFewArguments spec.sig
  pub rules : (k : ℕ) (rule : Rule) → slice_get spec.rules k ≡ Some rule
      → RuleIsSorted spec.sig rule
  pub goals : (k : ℕ) (goal : Goal) → slice_get spec.goals k ≡ Some goal
      → GoalIsSorted spec.sig goal
  pub names : GoalNamesAreDistinct spec.goals
  pub few_rules : length spec.rules < 2 ^ 32
  pub few_goals : length spec.goals < 2 ^ 32
