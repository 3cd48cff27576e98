-- The printed form of a raw specification: one line with its format, and one line a declaration.
use Rattle.std.specs.Prelude.{ℕ, List, [], ◌∷◌, ◌++◌, Option, Some, None, codes, map, if◌then◌else◌}
use Rattle.std.specs.Fmt.{decimal}
use Rattle.std.specs.List.{flat_map}
use Rattle.spec_grammar.specs.declared.raw.RawName.{RawName}
use Rattle.spec_grammar.specs.declared.raw.RawNames.{RawNames}
use Rattle.spec_grammar.specs.declared.raw.RawSort.{RawSort}
use Rattle.spec_grammar.specs.declared.raw.RawFun.{RawFun}
use Rattle.spec_grammar.specs.declared.raw.RawEqual.{RawEqual}
use Rattle.spec_grammar.specs.declared.raw.RawStatus.{RawStatus}
use Rattle.spec_grammar.specs.declared.raw.RawWeight.{RawWeight}
use Rattle.spec_grammar.specs.declared.raw.RawOrder.{RawOrder}
use Rattle.spec_grammar.specs.declared.raw.RawEq.{RawEq}
use Rattle.spec_grammar.specs.declared.raw.RawGuard.{RawGuard}
use Rattle.spec_grammar.specs.declared.raw.RawRule.{RawRule}
use Rattle.spec_grammar.specs.declared.raw.RawBind.{RawBind}
use Rattle.spec_grammar.specs.declared.raw.RawGoal.{RawGoal}
use Rattle.spec_grammar.specs.declared.raw.RawSpec.{RawSpec}
use Rattle.spec_grammar.specs.RawTree.{RawTree, RawTrees, word, none, some}

-- the texts in parentheses with `, ` between them, and nothing if there is none
abbrev pub listed : List (List ℕ) → List ℕ
listed [] = []
listed (t ∷ ts) = codes "(" ++ t ++ flat_map (λ u. codes ", " ++ u) ts ++ codes ")"

-- a blank and the texts, with this between them, and nothing if there is none
abbrev pub spaced : List ℕ → List (List ℕ) → List ℕ
spaced between [] = []
spaced between (t ∷ ts) = codes " " ++ t ++ flat_map (λ u. between ++ u) ts

-- a name alone, or a name and the terms after it in parentheses with `, ` between them
abbrev mutual
  pub term_printed : RawTree → List ℕ
  term_printed (word name at none) = name
  term_printed (word name at (some t ts)) =
      name ++ codes "(" ++ term_printed t ++ others_printed ts ++ codes ")"

  -- terms, each after `, `
  pub others_printed : RawTrees → List ℕ
  others_printed none = []
  others_printed (some t ts) = codes ", " ++ term_printed t ++ others_printed ts

-- `LEFT = RIGHT`
abbrev pub sides_printed : RawTree → RawTree → List ℕ
sides_printed left right = term_printed left ++ codes " = " ++ term_printed right

-- the same of an equation
abbrev pub equation_printed : RawEq → List ℕ
equation_printed e = sides_printed e.left e.right

-- `NAME(NAME, NAME)`
abbrev pub names_printed : RawNames → List ℕ
names_printed c = c.name ++ listed (map (λ (n : RawName). n.name) c.args)

-- `sort NAME = CONSTRUCTOR | CONSTRUCTOR`
abbrev pub sort_line : RawSort → List ℕ
sort_line s = codes "sort " ++ s.head.name ++ codes " ="
    ++ spaced (codes " | ") (map names_printed s.constructors) ++ codes "\n"

-- `fun NAME(NAME, NAME) : NAME`
abbrev pub fun_line : RawFun → List ℕ
fun_line f = codes "fun " ++ names_printed f.head ++ codes " : " ++ f.result.name ++ codes "\n"

-- `equal NAME, NAME`
abbrev pub equal_line : RawEqual → List ℕ
equal_line e = codes "equal" ++ spaced (codes ", ") (map (λ (n : RawName). n.name) e.names)
    ++ codes "\n"

-- `status NAME(NUMBER, NUMBER)`
abbrev pub status_line : RawStatus → List ℕ
status_line s = codes "status " ++ s.head.name ++ listed (map decimal s.numbers) ++ codes "\n"

-- `NAME = NUMBER`
abbrev pub weight_printed : RawWeight → List ℕ
weight_printed w = w.name.name ++ codes " = " ++ decimal w.weight

-- ` : NAME = NUMBER, NAME = NUMBER`, and nothing if there is no weight
abbrev pub weights_printed : List RawWeight → List ℕ
weights_printed [] = []
weights_printed (w ∷ ws) =
    codes " : " ++ weight_printed w ++ flat_map (λ x. codes ", " ++ weight_printed x) ws

-- `order NAME : NAME = NUMBER, NAME = NUMBER`, if there is such a line
abbrev pub order_line : Option RawOrder → List ℕ
order_line None = []
order_line (Some order) =
    codes "order " ++ order.name.name ++ weights_printed order.weights ++ codes "\n"

-- ` if TEST` or ` unless TEST`
abbrev pub guard_printed : RawGuard → List ℕ
guard_printed g = (if g.wanted then codes " if " else codes " unless ") ++ term_printed g.test

-- `rule LEFT = RIGHT if TEST unless TEST`
abbrev pub rule_line : RawRule → List ℕ
rule_line r = codes "rule " ++ sides_printed r.left r.right
    ++ flat_map guard_printed r.guards ++ codes "\n"

-- `NAME : NAME`
abbrev pub bind_printed : RawBind → List ℕ
bind_printed b = b.name.name ++ codes " : " ++ b.sort.name

-- ` =>`, but nothing if there are conclusions only
abbrev pub arrow_printed : List RawEq → List RawEq → List ℕ
arrow_printed [] (c ∷ cs) = []
arrow_printed _ _ = codes " =>"

-- ` PREMISE, PREMISE => CONCLUSION | CONCLUSION`
abbrev pub clause_printed : List RawEq → List RawEq → List ℕ
clause_printed ps cs = spaced (codes ", ") (map equation_printed ps)
    ++ arrow_printed ps cs ++ spaced (codes " | ") (map equation_printed cs)

-- `goal NAME(NAME : NAME, NAME : NAME) : CLAUSE`
abbrev pub goal_line : RawGoal → List ℕ
goal_line g = codes "goal " ++ g.head.name ++ listed (map bind_printed g.binds) ++ codes " :"
    ++ clause_printed g.premises g.conclusions ++ codes "\n"

-- `spike NUMBER`
abbrev pub header_line : ℕ → List ℕ
header_line version = codes "spike " ++ decimal version ++ codes "\n"

-- the header, the sorts, the functions and how terms are ordered, the rules and the goals
abbrev pub printed : RawSpec → List ℕ
printed raw = header_line raw.version ++ flat_map sort_line raw.sorts ++ flat_map fun_line raw.funs
    ++ flat_map equal_line raw.equals ++ flat_map status_line raw.statuses ++ order_line raw.order
    ++ flat_map rule_line raw.rules ++ flat_map goal_line raw.goals
