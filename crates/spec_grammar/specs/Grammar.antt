-- The grammar: the tokens of each part of a raw specification, each token with the limit that it
-- passes if there is one. Each text is given with what comes after it, `rest`; a number says how
-- many items come before.
use Rattle.std.specs.Prelude.{◌≡◌, ◌≢◌, ℕ, ◌+◌, ◌⊎◌, List, [], ◌∷◌, Option, Some, None, Bool, true, false, length}
use Rattle.spec_grammar.specs.declared.keys.Key.{Key}
use Rattle.spec_grammar.specs.declared.keys.Key.TheVariants.{Spike, Sort, Fun, Rule, Goal, If, Unless, Equal, Status}
use Rattle.spec_grammar.specs.declared.keys.Key.TheVariants.{Order, LeftPar, RightPar, Comma, Colon, Equals, Bar}
use Rattle.spec_grammar.specs.declared.keys.Key.TheVariants.{Arrow}
use Rattle.spec_grammar.specs.declared.limits.LimitKind.{LimitKind}
use Rattle.spec_grammar.specs.declared.raw.RawName.{RawName}
use Rattle.spec_grammar.specs.declared.raw.RawNames.{RawNames}
use Rattle.spec_grammar.specs.declared.raw.RawSort.{RawSort}
use Rattle.spec_grammar.specs.declared.raw.RawFun.{RawFun}
use Rattle.spec_grammar.specs.declared.raw.RawEqual.{RawEqual}
use Rattle.spec_grammar.specs.declared.raw.RawStatus.{RawStatus}
use Rattle.spec_grammar.specs.declared.raw.RawWeight.{RawWeight}
use Rattle.spec_grammar.specs.declared.raw.RawOrder.{RawOrder}
use Rattle.spec_grammar.specs.declared.raw.RawEq.{RawEq}
use Rattle.spec_grammar.specs.declared.raw.RawGuard.{RawGuard}
use Rattle.spec_grammar.specs.declared.raw.RawRule.{RawRule}
use Rattle.spec_grammar.specs.declared.raw.RawBind.{RawBind}
use Rattle.spec_grammar.specs.declared.raw.RawGoal.{RawGoal}
use Rattle.spec_grammar.specs.declared.raw.RawSpec.{RawSpec}
use Rattle.spec_grammar.specs.RawTree.{RawTree, RawTrees, word, none, some}
use Rattle.spec_grammar.specs.Items.{Item, Word, Sign, Number}
use Rattle.spec_grammar.specs.Limits.{name_mark, sort_mark, constructor_mark, fun_mark, arity_mark, term_mark}
use Rattle.spec_grammar.specs.Limits.{rule_mark, guard_mark, goal_mark, variable_mark, premise_mark, conclusion_mark}

-- a token with the limit that it passes
abbrev pub Marked : Type 0
Marked = Item × Option LimitKind

abbrev pub sign : Key → Marked
sign key = (Sign key, None)

abbrev pub number : ℕ → Marked
number n = (Number n, None)

abbrev pub name_text : Option LimitKind → RawName → List Marked → List Marked
name_text mark n rest = (Word n.name n.at, name_mark n.name mark) ∷ rest

-- term = NAME ["(" term {"," term} ")"], with d words above it
abbrev mutual
  pub term_text : ℕ → Option LimitKind → RawTree → List Marked → List Marked
  term_text d mark (word name at ts) rest =
      (Word name at, name_mark name mark) ∷ args_text d ts rest

  pub args_text : ℕ → RawTrees → List Marked → List Marked
  args_text d none rest = rest
  args_text d (some t ts) rest = sign LeftPar
      ∷ term_text (d + 1) (term_mark (d + 1) 0) t (more_text (d + 1) 1 ts (sign RightPar ∷ rest))

  pub more_text : ℕ → ℕ → RawTrees → List Marked → List Marked
  more_text d n none rest = rest
  more_text d n (some t ts) rest =
      sign Comma ∷ term_text d (term_mark d n) t (more_text d (n + 1) ts rest)

-- con = NAME ["(" NAME {"," NAME} ")"]
abbrev pub more_names_text : ℕ → List RawName → List Marked → List Marked
more_names_text n [] rest = rest
more_names_text n (x ∷ xs) rest =
    sign Comma ∷ name_text (arity_mark n) x (more_names_text (n + 1) xs rest)

abbrev pub names_text : List RawName → List Marked → List Marked
names_text [] rest = rest
names_text (x ∷ xs) rest =
    sign LeftPar ∷ name_text (arity_mark 0) x (more_names_text 1 xs (sign RightPar ∷ rest))

abbrev pub con_text : Option LimitKind → RawNames → List Marked → List Marked
con_text mark c rest = (Word c.name c.at, name_mark c.name mark) ∷ names_text c.args rest

-- sort = "sort" NAME "=" con {"|" con}, of a format; t constructors come before in all
abbrev pub constructors_text : ℕ → ℕ → ℕ → List RawNames → List Marked → List Marked
constructors_text version k t [] rest = rest
constructors_text version k t (c ∷ cs) rest = sign Bar ∷ con_text (constructor_mark version k t) c
    (constructors_text version (k + 1) (t + 1) cs rest)

abbrev pub AreSorts : ℕ → ℕ → ℕ → List RawSort → List Marked → List Marked → Type 0
AreSorts version n t [] text rest = text ≡ rest
AreSorts version n t (s ∷ ss) text rest =
    (first : RawNames) × (others : List RawNames) × (after : List Marked)
    × (s.constructors ≡ first ∷ others)
    × (text ≡ (Sign Sort, sort_mark n) ∷ name_text None s.head (sign Equals
    ∷ con_text (constructor_mark version 0 t) first
    (constructors_text version 1 (t + 1) others after)))
    × AreSorts version (n + 1) (t + 1 + length others) ss after rest

-- fun = "fun" NAME ["(" NAME {"," NAME} ")"] ":" NAME
abbrev pub funs_text : ℕ → ℕ → List RawFun → List Marked → List Marked
funs_text version n [] rest = rest
funs_text version n (f ∷ fs) rest = (Sign Fun, fun_mark version n)
    ∷ con_text None f.head (sign Colon ∷ name_text None f.result (funs_text version (n + 1) fs rest))

-- equal = "equal" NAME "," NAME {"," NAME}
abbrev pub more_equal_text : List RawName → List Marked → List Marked
more_equal_text [] rest = rest
more_equal_text (x ∷ xs) rest = sign Comma ∷ name_text None x (more_equal_text xs rest)

abbrev pub AreEquals : List RawEqual → List Marked → List Marked → Type 0
AreEquals [] text rest = text ≡ rest
AreEquals (e ∷ es) text rest =
    (first : RawName) × (second : RawName) × (others : List RawName) × (after : List Marked)
    × (e.names ≡ first ∷ second ∷ others)
    × (text ≡ sign Equal ∷ name_text None first (more_equal_text (second ∷ others) after))
    × AreEquals es after rest

-- status = "status" NAME "(" NUMBER {"," NUMBER} ")"
abbrev pub numeral_text : Option LimitKind → ℕ → List Marked → List Marked
numeral_text mark i rest = (Number i, mark) ∷ rest

abbrev pub more_numbers_text : ℕ → List ℕ → List Marked → List Marked
more_numbers_text n [] rest = rest
more_numbers_text n (i ∷ is) rest =
    sign Comma ∷ numeral_text (arity_mark n) i (more_numbers_text (n + 1) is rest)

abbrev pub AreStatuses : List RawStatus → List Marked → List Marked → Type 0
AreStatuses [] text rest = text ≡ rest
AreStatuses (s ∷ ss) text rest =
    (first : ℕ) × (others : List ℕ) × (after : List Marked) × (s.numbers ≡ first ∷ others)
    × (text ≡ sign Status ∷ name_text None s.head (sign LeftPar
    ∷ numeral_text (arity_mark 0) first (more_numbers_text 1 others (sign RightPar ∷ after))))
    × AreStatuses ss after rest

-- weight = NAME "=" NUMBER
abbrev pub weight_text : RawWeight → List Marked → List Marked
weight_text w rest = name_text None w.name (sign Equals ∷ number w.weight ∷ rest)

abbrev pub more_weights_text : List RawWeight → List Marked → List Marked
more_weights_text [] rest = rest
more_weights_text (w ∷ ws) rest = sign Comma ∷ weight_text w (more_weights_text ws rest)

abbrev pub weights_text : List RawWeight → List Marked → List Marked
weights_text [] rest = rest
weights_text (w ∷ ws) rest = sign Colon ∷ weight_text w (more_weights_text ws rest)

-- order = "order" NAME [":" weight {"," weight}]
abbrev pub order_text : Option RawOrder → List Marked → List Marked
order_text None rest = rest
order_text (Some order) rest = sign Order ∷ name_text None order.name (weights_text order.weights rest)

-- how terms are ordered: {equal} {status} [order]
abbrev pub IsOrderText : RawSpec → List Marked → List Marked → Type 0
IsOrderText raw text rest = (statuses : List Marked) × (order : List Marked)
    × AreEquals raw.equals text statuses × AreStatuses raw.statuses statuses order
    × (order ≡ order_text raw.order rest)

-- rule = "rule" term "=" term {("if" | "unless") term}
abbrev pub guard_key : Bool → Key
guard_key true = If
guard_key false = Unless

abbrev pub guards_text : ℕ → List RawGuard → List Marked → List Marked
guards_text n [] rest = rest
guards_text n (g ∷ gs) rest = (Sign (guard_key g.wanted), guard_mark n)
    ∷ term_text 0 None g.test (guards_text (n + 1) gs rest)

-- eq = term "=" term
abbrev pub sides_text : Option LimitKind → RawTree → RawTree → List Marked → List Marked
sides_text mark left right rest = term_text 0 mark left (sign Equals ∷ term_text 0 None right rest)

abbrev pub rules_text : ℕ → ℕ → List RawRule → List Marked → List Marked
rules_text version n [] rest = rest
rules_text version n (r ∷ rs) rest = (Sign Rule, rule_mark version n)
    ∷ sides_text None r.left r.right (guards_text 0 r.guards (rules_text version (n + 1) rs rest))

-- clause = eq {"|" eq} | [eq {"," eq}] "=>" [eq {"|" eq}]
abbrev pub commas_text : ℕ → List RawEq → List Marked → List Marked
commas_text n [] rest = rest
commas_text n (e ∷ es) rest =
    sign Comma ∷ sides_text (premise_mark n) e.left e.right (commas_text (n + 1) es rest)

abbrev pub premises_text : List RawEq → List Marked → List Marked
premises_text [] rest = rest
premises_text (e ∷ es) rest = sides_text (premise_mark 0) e.left e.right (commas_text 1 es rest)

abbrev pub bars_text : ℕ → List RawEq → List Marked → List Marked
bars_text n [] rest = rest
bars_text n (e ∷ es) rest =
    sign Bar ∷ sides_text (conclusion_mark n) e.left e.right (bars_text (n + 1) es rest)

abbrev pub conclusions_text : List RawEq → List Marked → List Marked
conclusions_text [] rest = rest
conclusions_text (e ∷ es) rest = sides_text (conclusion_mark 0) e.left e.right (bars_text 1 es rest)

-- with the arrow, or without it if there are conclusions only
abbrev pub IsClause : List RawEq → List RawEq → List Marked → List Marked → Type 0
IsClause ps cs text rest =
    (text ≡ premises_text ps (sign Arrow ∷ conclusions_text cs rest))
    ⊎ ((ps ≡ []) × (cs ≢ []) × (text ≡ conclusions_text cs rest))

-- bind = NAME ":" NAME
abbrev pub bind_text : Option LimitKind → RawBind → List Marked → List Marked
bind_text mark b rest = name_text mark b.name (sign Colon ∷ name_text None b.sort rest)

abbrev pub more_binds_text : ℕ → List RawBind → List Marked → List Marked
more_binds_text n [] rest = rest
more_binds_text n (b ∷ bs) rest =
    sign Comma ∷ bind_text (variable_mark n) b (more_binds_text (n + 1) bs rest)

abbrev pub binds_text : List RawBind → List Marked → List Marked
binds_text [] rest = rest
binds_text (b ∷ bs) rest =
    sign LeftPar ∷ bind_text (variable_mark 0) b (more_binds_text 1 bs (sign RightPar ∷ rest))

-- goal = "goal" NAME ["(" bind {"," bind} ")"] ":" clause
abbrev pub AreGoals : ℕ → List RawGoal → List Marked → List Marked → Type 0
AreGoals n [] text rest = text ≡ rest
AreGoals n (g ∷ gs) text rest =
    (clause : List Marked) × (after : List Marked)
    × (text ≡ (Sign Goal, goal_mark n)
    ∷ name_text None g.head (binds_text g.binds (sign Colon ∷ clause)))
    × IsClause g.premises g.conclusions clause after × AreGoals (n + 1) gs after rest

-- format 1 has no line on the order of terms
abbrev pub IsFormat : RawSpec → Type 0
IsFormat raw =
    ((raw.version ≡ 1) × (raw.equals ≡ []) × (raw.statuses ≡ []) × (raw.order ≡ None))
    ⊎ (raw.version ≡ 2)

-- file = "spike" "1" {sort} {fun} {rule} {goal}
--      | "spike" "2" {sort} {fun} {equal} {status} [order] {rule} {goal}
abbrev pub IsSpecText : RawSpec → List Marked → Type 0
IsSpecText raw text =
    (sorts : List Marked) × (order : List Marked) × (goals : List Marked)
    × (text ≡ sign Spike ∷ number raw.version ∷ sorts)
    × AreSorts raw.version 0 0 raw.sorts sorts (funs_text raw.version 0 raw.funs order)
    × IsOrderText raw order (rules_text raw.version 0 raw.rules goals)
    × AreGoals 0 raw.goals goals [] × IsFormat raw

-- one term alone
abbrev pub IsTermText : RawTree → List Marked → Type 0
IsTermText term text = text ≡ term_text 0 None term []
