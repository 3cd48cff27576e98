-- What a raw specification within the limits is.
use Rattle.std.specs.Prelude.{ℕ, ◌+◌, ◌≤◌, max, length, sum_by}
use Rattle.std.specs.Option.{IfSome}
use Rattle.std.specs.List.{AllByRecursion}
use Rattle.spec_grammar.specs.declared.raw.RawName.{RawName}
use Rattle.spec_grammar.specs.declared.raw.RawNames.{RawNames}
use Rattle.spec_grammar.specs.declared.raw.RawSort.{RawSort}
use Rattle.spec_grammar.specs.declared.raw.RawFun.{RawFun}
use Rattle.spec_grammar.specs.declared.raw.RawEqual.{RawEqual}
use Rattle.spec_grammar.specs.declared.raw.RawStatus.{RawStatus}
use Rattle.spec_grammar.specs.declared.raw.RawWeight.{RawWeight}
use Rattle.spec_grammar.specs.declared.raw.RawOrder.{RawOrder}
use Rattle.spec_grammar.specs.declared.raw.RawEq.{RawEq}
use Rattle.spec_grammar.specs.declared.raw.RawGuard.{RawGuard}
use Rattle.spec_grammar.specs.declared.raw.RawRule.{RawRule}
use Rattle.spec_grammar.specs.declared.raw.RawBind.{RawBind}
use Rattle.spec_grammar.specs.declared.raw.RawGoal.{RawGoal}
use Rattle.spec_grammar.specs.declared.raw.RawSpec.{RawSpec}
use Rattle.spec_grammar.specs.RawTree.{RawTree, RawTrees, word, none, some}
use Rattle.spec_grammar.specs.Limits.{most_constructors, most_functions, most_rules}

-- the depth of a term, 1 for a word alone, and that of the deepest of several terms
abbrev mutual
  pub raw_depth : RawTree → ℕ
  raw_depth (word name at ts) = 1 + raw_depths ts

  pub raw_depths : RawTrees → ℕ
  raw_depths none = 0
  raw_depths (some t ts) = max (raw_depth t) (raw_depths ts)

-- how many terms these are
abbrev pub raw_count : RawTrees → ℕ
raw_count none = 0
raw_count (some t ts) = 1 + raw_count ts

-- each word of a term has a name and a number of arguments within the limits
abbrev mutual
  pub WordsKeepLimits : RawTree → Type 0
  WordsKeepLimits (word name at ts) =
      (length name ≤ 64) × (raw_count ts ≤ 8) × AllWordsKeepLimits ts

  pub AllWordsKeepLimits : RawTrees → Type 0
  AllWordsKeepLimits none = Unit {0}
  AllWordsKeepLimits (some t ts) = WordsKeepLimits t × AllWordsKeepLimits ts

-- a term whose depth and words keep the limits
pub record TermKeepsLimits (t : RawTree) : Type 0 where
  pub depth : raw_depth t ≤ 64
  pub words : WordsKeepLimits t

-- a name that isn't too long
abbrev pub NameKeepsLimits : RawName → Type 0
NameKeepsLimits n = length n.name ≤ 64

-- a name with few enough argument sorts
pub record NamesKeepLimits (c : RawNames) : Type 0 where
  pub name : length c.name ≤ 64
  pub few_arguments : length c.args ≤ 8
  pub arguments : AllByRecursion NameKeepsLimits c.args

-- a sort of few enough constructors
pub record SortKeepsLimits (s : RawSort) : Type 0 where
  pub name : NameKeepsLimits s.head
  pub few_constructors : length s.constructors ≤ 64
  pub constructors : AllByRecursion NamesKeepLimits s.constructors

-- a function, whose head has few enough argument sorts
pub record FunctionKeepsLimits (f : RawFun) : Type 0 where
  pub head : NamesKeepLimits f.head
  pub result : NameKeepsLimits f.result

-- functions of one level
abbrev pub EqualKeepsLimits : RawEqual → Type 0
EqualKeepsLimits e = AllByRecursion NameKeepsLimits e.names

-- an order of few enough arguments
abbrev pub StatusKeepsLimits : RawStatus → Type 0
StatusKeepsLimits s = NameKeepsLimits s.head × (length s.numbers ≤ 8)

-- the name of an ordering, and weights of symbols
abbrev pub OrderKeepsLimits : RawOrder → Type 0
OrderKeepsLimits o =
    NameKeepsLimits o.name × AllByRecursion (λ (w : RawWeight). NameKeepsLimits w.name) o.weights

-- a rule of few enough guards
pub record RuleKeepsLimits (r : RawRule) : Type 0 where
  pub left : TermKeepsLimits r.left
  pub right : TermKeepsLimits r.right
  pub few_guards : length r.guards ≤ 8
  pub guards : AllByRecursion (λ (g : RawGuard). TermKeepsLimits g.test) r.guards

-- an equation whose sides both keep the limits
abbrev pub EquationKeepsLimits : RawEq → Type 0
EquationKeepsLimits e = TermKeepsLimits e.left × TermKeepsLimits e.right

-- a variable's name and the name of its sort
abbrev pub BindKeepsLimits : RawBind → Type 0
BindKeepsLimits b = NameKeepsLimits b.name × NameKeepsLimits b.sort

-- a goal of few enough bindings, premises and conclusions
pub record GoalKeepsLimits (g : RawGoal) : Type 0 where
  pub name : NameKeepsLimits g.head
  pub few_binds : length g.binds ≤ 16
  pub binds : AllByRecursion BindKeepsLimits g.binds
  pub few_premises : length g.premises ≤ 8
  pub premises : AllByRecursion EquationKeepsLimits g.premises
  pub few_conclusions : length g.conclusions ≤ 4
  pub conclusions : AllByRecursion EquationKeepsLimits g.conclusions

-- few enough sorts, constructors in all, functions, rules and goals, each of which keeps its limits
pub record KeepsLimits (raw : RawSpec) : Type 0 where
  pub few_sorts : length raw.sorts ≤ 200
  pub few_constructors :
      sum_by (λ (s : RawSort). length s.constructors) raw.sorts ≤ most_constructors raw.version
  pub sorts : AllByRecursion SortKeepsLimits raw.sorts
  pub few_functions : length raw.funs ≤ most_functions raw.version
  pub functions : AllByRecursion FunctionKeepsLimits raw.funs
  pub equals : AllByRecursion EqualKeepsLimits raw.equals
  pub statuses : AllByRecursion StatusKeepsLimits raw.statuses
  pub order : IfSome raw.order OrderKeepsLimits
  pub few_rules : length raw.rules ≤ most_rules raw.version
  pub rules : AllByRecursion RuleKeepsLimits raw.rules
  pub few_goals : length raw.goals ≤ 200
  pub goals : AllByRecursion GoalKeepsLimits raw.goals
