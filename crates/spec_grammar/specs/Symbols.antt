-- The grammar as a stack of symbols, of which the first reacts to the next token.
use Rattle.std.specs.Prelude.{ℕ, zero, suc, ◌+◌, List, [], ◌∷◌, ◌++◌, Option, Some, None, Bool, true, false, ◌||◌}
use Rattle.std.specs.Prelude.{if◌then◌else◌, ◌==◌, length}
use Rattle.spec_grammar.specs.declared.keys.Key.{Key}
use Rattle.spec_grammar.specs.declared.keys.Key.TheVariants.{Spike, Sort, Fun, Rule, Goal, If, Unless, Equal, Status}
use Rattle.spec_grammar.specs.declared.keys.Key.TheVariants.{Order, LeftPar, RightPar, Comma, Colon, Equals, Bar}
use Rattle.spec_grammar.specs.declared.keys.Key.TheVariants.{Arrow, Stray}
use Rattle.spec_grammar.specs.declared.limits.LimitKind.{LimitKind}
use Rattle.spec_grammar.specs.Items.{Item, Word, Sign, Number}
use Rattle.spec_grammar.specs.Limits.{name_mark, sort_mark, constructor_mark, fun_mark, arity_mark, term_mark}
use Rattle.spec_grammar.specs.Limits.{rule_mark, guard_mark, goal_mark, variable_mark, premise_mark, conclusion_mark}

-- The symbols. A number says how many items of its list were read, d how many words are above; the
-- first number of sorts, functions and rules is their format.
pub data Symbol : Type 0 where
  key : Key → Symbol
  name : Option LimitKind → Symbol
  args : ℕ → Symbol
  more : ℕ → ℕ → Symbol
  names : Symbol
  more_names : ℕ → Symbol
  -- the number of a format, and all that follows it
  format : Symbol
  -- n sorts were read, the last one with k constructors, and t constructors in all
  sorts : ℕ → ℕ → ℕ → ℕ → Symbol
  funs : ℕ → ℕ → Symbol
  equals : Symbol
  more_equal : Symbol
  statuses : Symbol
  numeral : Option LimitKind → Symbol
  more_numbers : ℕ → Symbol
  order : Symbol
  weights : Symbol
  more_weights : Symbol
  rules : ℕ → ℕ → Symbol
  guards : ℕ → Symbol
  goals : ℕ → Symbol
  binds : Symbol
  more_binds : ℕ → Symbol
  -- a clause, and what may follow its first equation
  clause : Symbol
  tail : Symbol
  commas : ℕ → Symbol
  conclusions : Symbol
  bars : ℕ → Symbol

-- A symbol takes the token and leaves symbols, or stands for nothing, or does neither.
pub data Reaction : Type 0 where
  take : Option LimitKind → List Symbol → Reaction
  pass : Reaction
  fail : Reaction

abbrev pub key_code : Key → ℕ
key_code Spike = 0
key_code Sort = 1
key_code Fun = 2
key_code Rule = 3
key_code Goal = 4
key_code If = 5
key_code Unless = 6
key_code Equal = 7
key_code Status = 8
key_code Order = 9
key_code LeftPar = 10
key_code RightPar = 11
key_code Comma = 12
key_code Colon = 13
key_code Equals = 14
key_code Bar = 15
key_code Arrow = 16
key_code Stray = 17

-- a term whose first word may pass a limit, and an equation, before other symbols
abbrev pub term_then : ℕ → Option LimitKind → List Symbol → List Symbol
term_then d mark st = name mark ∷ args d ∷ st

-- the second side of an equation
abbrev pub right_then : List Symbol → List Symbol
right_then st = key Equals ∷ name None ∷ args 0 ∷ st

abbrev pub sides_then : Option LimitKind → List Symbol → List Symbol
sides_then mark st = name mark ∷ args 0 ∷ right_then st

abbrev pub bind_then : Option LimitKind → List Symbol → List Symbol
bind_then mark st = name mark ∷ key Colon ∷ name None ∷ st

abbrev pub react_args : ℕ → Key → Reaction
react_args d LeftPar =
    take None (term_then (d + 1) (term_mark (d + 1) 0) (more (d + 1) 1 ∷ key RightPar ∷ []))
react_args d _ = pass

abbrev pub react_more : ℕ → ℕ → Key → Reaction
react_more d n Comma = take None (term_then d (term_mark d n) (more d (n + 1) ∷ []))
react_more d n _ = pass

abbrev pub react_names : Key → Reaction
react_names LeftPar = take None (name (arity_mark 0) ∷ more_names 1 ∷ key RightPar ∷ [])
react_names _ = pass

abbrev pub react_more_names : ℕ → Key → Reaction
react_more_names n Comma = take None (name (arity_mark n) ∷ more_names (n + 1) ∷ [])
react_more_names n _ = pass

abbrev pub react_bar : ℕ → ℕ → ℕ → ℕ → Reaction
react_bar version n zero t = pass
react_bar version n (suc k) t = take None (name (constructor_mark version (suc k) t) ∷ names
    ∷ sorts version n (suc (suc k)) (t + 1) ∷ [])

abbrev pub react_sorts : ℕ → ℕ → ℕ → ℕ → Key → Reaction
react_sorts version n k t Sort = take (sort_mark n) (name None ∷ key Equals
    ∷ name (constructor_mark version 0 t) ∷ names ∷ sorts version (n + 1) 1 (t + 1) ∷ [])
react_sorts version n k t Bar = react_bar version n k t
react_sorts version n k t _ = pass

abbrev pub react_funs : ℕ → ℕ → Key → Reaction
react_funs version n Fun = take (fun_mark version n)
    (name None ∷ names ∷ key Colon ∷ name None ∷ funs version (n + 1) ∷ [])
react_funs version n _ = pass

abbrev pub react_equals : Key → Reaction
react_equals Equal = take None (name None ∷ key Comma ∷ name None ∷ more_equal ∷ equals ∷ [])
react_equals _ = pass

abbrev pub react_more_equal : Key → Reaction
react_more_equal Comma = take None (name None ∷ more_equal ∷ [])
react_more_equal _ = pass

abbrev pub react_statuses : Key → Reaction
react_statuses Status = take None (name None ∷ key LeftPar ∷ numeral (arity_mark 0)
    ∷ more_numbers 1 ∷ key RightPar ∷ statuses ∷ [])
react_statuses _ = pass

abbrev pub react_more_numbers : ℕ → Key → Reaction
react_more_numbers n Comma = take None (numeral (arity_mark n) ∷ more_numbers (n + 1) ∷ [])
react_more_numbers n _ = pass

-- a weight before other symbols
abbrev pub weight_then : List Symbol → List Symbol
weight_then st = name None ∷ key Equals ∷ numeral None ∷ st

abbrev pub react_order : Key → Reaction
react_order Order = take None (name None ∷ weights ∷ [])
react_order _ = pass

abbrev pub react_weights : Key → Reaction
react_weights Colon = take None (weight_then (more_weights ∷ []))
react_weights _ = pass

abbrev pub react_more_weights : Key → Reaction
react_more_weights Comma = take None (weight_then (more_weights ∷ []))
react_more_weights _ = pass

abbrev pub react_rules : ℕ → ℕ → Key → Reaction
react_rules version n Rule =
    take (rule_mark version n) (sides_then None (guards 0 ∷ rules version (n + 1) ∷ []))
react_rules version n _ = pass

abbrev pub react_guards : ℕ → Key → Reaction
react_guards n If = take (guard_mark n) (term_then 0 None (guards (n + 1) ∷ []))
react_guards n Unless = take (guard_mark n) (term_then 0 None (guards (n + 1) ∷ []))
react_guards n _ = pass

abbrev pub react_goals : ℕ → Key → Reaction
react_goals n Goal =
    take (goal_mark n) (name None ∷ binds ∷ key Colon ∷ clause ∷ goals (n + 1) ∷ [])
react_goals n _ = pass

abbrev pub react_binds : Key → Reaction
react_binds LeftPar = take None (bind_then (variable_mark 0) (more_binds 1 ∷ key RightPar ∷ []))
react_binds _ = pass

abbrev pub react_more_binds : ℕ → Key → Reaction
react_more_binds n Comma = take None (bind_then (variable_mark n) (more_binds (n + 1) ∷ []))
react_more_binds n _ = pass

abbrev pub react_clause : Key → Reaction
react_clause Arrow = take None (conclusions ∷ [])
react_clause _ = fail

abbrev pub react_tail : Key → Reaction
react_tail Comma = take None (sides_then (premise_mark 1) (commas 2 ∷ []))
react_tail Arrow = take None (conclusions ∷ [])
react_tail Bar = take None (sides_then (conclusion_mark 1) (bars 2 ∷ []))
react_tail _ = pass

-- after a comma an arrow has to come
abbrev pub react_commas : ℕ → Key → Reaction
react_commas n Comma = take None (sides_then (premise_mark n) (commas (n + 1) ∷ []))
react_commas n Arrow = take None (conclusions ∷ [])
react_commas n _ = fail

abbrev pub react_bars : ℕ → Key → Reaction
react_bars n Bar = take None (sides_then (conclusion_mark n) (bars (n + 1) ∷ []))
react_bars n _ = pass

abbrev pub react_key : Symbol → Key → Reaction
react_key (key k) j = if key_code j == key_code k then take None [] else fail
react_key (name m) j = fail
react_key (args d) j = react_args d j
react_key (more d n) j = react_more d n j
react_key names j = react_names j
react_key (more_names n) j = react_more_names n j
react_key format j = fail
react_key (sorts version n k t) j = react_sorts version n k t j
react_key (funs version n) j = react_funs version n j
react_key equals j = react_equals j
react_key more_equal j = react_more_equal j
react_key statuses j = react_statuses j
react_key (numeral m) j = fail
react_key (more_numbers n) j = react_more_numbers n j
react_key order j = react_order j
react_key weights j = react_weights j
react_key more_weights j = react_more_weights j
react_key (rules version n) j = react_rules version n j
react_key (guards n) j = react_guards n j
react_key (goals n) j = react_goals n j
react_key binds j = react_binds j
react_key (more_binds n) j = react_more_binds n j
react_key clause j = react_clause j
react_key tail j = react_tail j
react_key (commas n) j = react_commas n j
react_key conclusions j = pass
react_key (bars n) j = react_bars n j

-- a name where an equation may begin is its first word
abbrev pub react_word : Symbol → List ℕ → Reaction
react_word (key k) b = fail
react_word (name m) b = take (name_mark b m) []
react_word format b = fail
react_word (numeral m) b = fail
react_word clause b = take (name_mark b None) (args 0 ∷ right_then (tail ∷ []))
react_word (commas n) b = fail
react_word conclusions b = take (name_mark b None) (args 0 ∷ right_then (bars 1 ∷ []))
react_word _ b = pass

-- the declarations of a format, of which only the second has lines on the order of terms
abbrev pub order_then : Bool → List Symbol → List Symbol
order_then true st = equals ∷ statuses ∷ order ∷ st
order_then false st = st

abbrev pub body : ℕ → List Symbol
body version =
    sorts version 0 0 0 ∷ funs version 0 ∷ order_then (version == 2) (rules version 0 ∷ goals 0 ∷ [])

abbrev pub is_format : ℕ → Bool
is_format version = (version == 1) || (version == 2)

abbrev pub react_number : Symbol → ℕ → Reaction
react_number (key k) m = fail
react_number (name mark) m = fail
react_number format m = if is_format m then take None (body m) else fail
react_number (numeral mark) m = take mark []
react_number clause m = fail
react_number (commas n) m = fail
react_number _ m = pass

abbrev pub react : Symbol → Item → Reaction
react s (Word b a) = react_word s b
react s (Sign j) = react_key s j
react s (Number n) = react_number s n

abbrev pub joined : Reaction → List Symbol → Reaction → Reaction
joined (take m ss) st other = take m (ss ++ st)
joined pass st other = other
joined fail st other = fail

-- what a stack does with the token
abbrev pub feed : List Symbol → Item → Reaction
feed [] token = fail
feed (s ∷ st) token = joined (react s token) st (feed st token)

abbrev pub is_empty : Symbol → Bool
is_empty (key k) = false
is_empty (name m) = false
is_empty format = false
is_empty (numeral m) = false
is_empty clause = false
is_empty (commas n) = false
is_empty _ = true

abbrev pub ends : List Symbol → Bool
ends [] = true
ends (s ∷ st) = if is_empty s then ends st else false

-- how many tokens are left at a fault, and the limit that is passed there
abbrev pub Fault : Type 0
Fault = ℕ × Option LimitKind

abbrev pub after : Reaction → ℕ → (List Symbol → Option Fault) → Option Fault
after (take None st) n next = next st
after (take (Some why) st) n next = Some (n, Some why)
after pass n next = Some (n, None)
after fail n next = Some (n, None)

-- the first fault of the tokens
unfoldable pub run : List Symbol → List Item → Option Fault
run st [] = if ends st then None else Some (0, None)
run st (token ∷ tokens) = after (feed st token) (length (token ∷ tokens)) (λ s. run s tokens)

abbrev pub spec_symbols : List Symbol
spec_symbols = key Spike ∷ format ∷ []

abbrev pub term_symbols : List Symbol
term_symbols = name None ∷ args 0 ∷ []
