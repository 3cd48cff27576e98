-- A specification with further constants: constructors without arguments, after its other constructors.
use Rattle.std.specs.Prelude.{◌≡◌, ◌≢◌, ℕ, ◌+◌, List, [], ◌∷◌, ◌++◌, if◌then◌else◌, nat_lt, map, length, take, drop}
use Rattle.term_core.specs.Tree.{Tree, Trees, var, app, none, some}
use Rattle.term_core.specs.declared.ids.SortId.{SortId}
use Rattle.spec_core.specs.declared.records.SymInfo.{SymInfo}
use Rattle.spec_core.specs.declared.records.Rule.{Rule}
use Rattle.spec_core.specs.declared.records.Guard.{Guard}
use Rattle.spec_core.specs.declared.records.Goal.{Goal}
use Rattle.spec_core.specs.declared.records.Equation.{Equation}
use Rattle.spec_core.specs.declared.records.Spec.{Spec}

-- c constructors come first, and u constants come after them
module _ (c u : ℕ) where
  -- the number of a symbol once the constants are there
  unfoldable pub shifted_number : ℕ → ℕ
  shifted_number f = if nat_lt f c then f else f + u

  -- the same term, written with the new numbers
  abbrev mutual
    pub shifted : Tree → Tree
    shifted (var n) = var n
    shifted (app f ts) = app (shifted_number f) (shifted_all ts)

    pub shifted_all : Trees → Trees
    shifted_all none = none
    shifted_all (some t ts) = some (shifted t) (shifted_all ts)

  -- the constant of a variable
  abbrev pub constant : ℕ → Tree
  constant n = app (c + n) none

  -- the same with a constant for each variable
  abbrev mutual
    pub closed : Tree → Tree
    closed (var n) = constant n
    closed (app f ts) = app (shifted_number f) (closed_all ts)

    pub closed_all : Trees → Trees
    closed_all none = none
    closed_all (some t ts) = some (closed t) (closed_all ts)

  abbrev pub shifted_equation : Equation → Equation
  shifted_equation e = record { left = shifted e.left; right = shifted e.right }

  abbrev pub shifted_guard : Guard → Guard
  shifted_guard g = record { test = shifted g.test; wanted = g.wanted }

  -- (the other fields of rules and goals stay)
  abbrev pub shifted_rule : Rule → Rule
  shifted_rule r = record {
    vars = r.vars;
    left = shifted r.left;
    right = shifted r.right;
    guards = map shifted_guard r.guards;
  }

  abbrev pub shifted_goal : Goal → Goal
  shifted_goal g = record {
    name = g.name;
    vars = g.vars;
    premises = map shifted_equation g.premises;
    conclusions = map shifted_equation g.conclusions;
  }

-- the sort is another one than `Bool`
abbrev pub IsNoBoolean : SortId → Type 0
IsNoBoolean s = s.0 ≢ 0

-- constants of these sorts under these names
abbrev pub constant_of : List ℕ → SortId → List ℕ × SymInfo
constant_of name sort = (name, record { args = []; result = sort })

abbrev pub constants_of : List (List ℕ) → List SortId → List (List ℕ × SymInfo)
constants_of [] ss = []
constants_of (n ∷ ns) [] = []
constants_of (n ∷ ns) (s ∷ ss) = constant_of n s ∷ constants_of ns ss

-- new is old with a constant of each of these sorts after its constructors, and without its goals;
-- the names of sorts may differ
pub record IsExtended (old new : Spec) (sorts : List SortId) : Type 0 where
  pub names : List (List ℕ)
  pub each : length names ≡ length sorts
  pub as_many_sorts : length new.sig.sorts ≡ length old.sig.sorts
  pub constructors : new.sig.constructors ≡ old.sig.constructors + length sorts
  pub table :
      new.sig.table ≡ take old.sig.constructors old.sig.table
      ++ (constants_of names sorts ++ drop old.sig.constructors old.sig.table)
  pub rules : new.rules ≡ map (shifted_rule old.sig.constructors (length sorts)) old.rules
  pub goals : new.goals ≡ []
