-- What a reading function returned, beside the stack of grammar symbols.
use Rattle.std.specs.Prelude.{◌≡◌, ℕ, ◌<◌, ◌≤◌, ◌⊎◌, List, [], ◌∷◌, ◌++◌, Option, Some, None, Result, Ok, Err, length}
use Rattle.spec_grammar.specs.declared.keys.Key.{Key}
use Rattle.spec_grammar.specs.declared.limits.LimitKind.{LimitKind}
use Rattle.spec_grammar.specs.Items.{Item, Word, Sign, Number}
use Rattle.spec_grammar.specs.Grammar.{Marked, sign, number, name_text, commas_text, bars_text, binds_text, IsClause}
use Rattle.spec_grammar.specs.Derives.{clean}
use Rattle.spec_grammar.specs.Limits.{goal_mark}
use Rattle.spec_grammar.specs.declared.raw.RawEq.{RawEq}
use Rattle.spec_grammar.specs.declared.raw.RawGoal.{RawGoal}
use Rattle.spec_grammar.specs.declared.keys.Key.TheVariants.{Comma, Colon, Arrow, Goal}
use Rattle.spec_grammar.specs.Symbols.{Symbol, key, name, format, body, binds, clause, conclusions, commas, bars, run}
use Rattle.spec_syntax.specs.declared.stop.Stop.{Stop}
use Rattle.spec_syntax.specs.declared.stop.Stop.TheVariants.{Fault, OutOfMemory}

-- the key isn't the first of the tokens
abbrev pub Lacks : Key → List Item → Type 0
Lacks k [] = Unit {0}
Lacks k (Word b a ∷ rest) = Unit {0}
Lacks k (Sign j ∷ rest) = j ≡ k → ⊥
Lacks k (Number n ∷ rest) = Unit {0}

-- a name is the first of the tokens
abbrev pub BeginsWord : List Item → Type 0
BeginsWord [] = ⊥
BeginsWord (Word b a ∷ rest) = Unit {0}
BeginsWord (Sign j ∷ rest) = ⊥
BeginsWord (Number n ∷ rest) = ⊥

abbrev pub LacksWord : List Item → Type 0
LacksWord [] = Unit {0}
LacksWord (Word b a ∷ rest) = ⊥
LacksWord (Sign j ∷ rest) = Unit {0}
LacksWord (Number n ∷ rest) = Unit {0}

-- no number is the first of the tokens
abbrev pub LacksNumber : List Item → Type 0
LacksNumber [] = Unit {0}
LacksNumber (Word b a ∷ rest) = Unit {0}
LacksNumber (Sign j ∷ rest) = Unit {0}
LacksNumber (Number n ∷ rest) = ⊥

-- a comma or an arrow is the first of the tokens, as after a premise
abbrev pub BeginsPremises : List Item → Type 0
BeginsPremises [] = ⊥
BeginsPremises (Word b a ∷ rest) = ⊥
BeginsPremises (Sign j ∷ rest) = (j ≡ Comma) ⊎ (j ≡ Arrow)
BeginsPremises (Number n ∷ rest) = ⊥

abbrev pub LacksPremises : List Item → Type 0
LacksPremises items = Lacks Comma items × Lacks Arrow items

-- the limit is passed at the place where this many tokens are left
abbrev pub IsPassed : Option LimitKind → ℕ → Stop → Type 0
IsPassed None n stop = ⊥
IsPassed (Some why) n stop = stop ≡ Fault n (Some why)

-- whatever is below these symbols, the tokens have this fault
abbrev pub Stops : List Symbol → List Item → Stop → Type 0
Stops ss items OutOfMemory = Unit {0}
Stops ss items (Fault left why) = (st : List Symbol) → run (ss ++ st) items ≡ Some (left, why)

-- The tokens are the text of what was read, none of which passes a limit, and a rest. Whatever
-- is below, the first symbols go to the others.
abbrev pub ReadsTo : {X : Type 0} → (X → List Marked → List Marked) → (X → List Item) → List Symbol
    → (X → List Symbol) → List Item → Result X Stop → Type 0
ReadsTo text rest ss left items (Ok x) =
    (clean items ≡ text x (clean (rest x)))
    × ((st : List Symbol) → run (ss ++ st) items ≡ run (left x ++ st) (rest x))
    × (length (rest x) ≤ length items)
ReadsTo text rest ss left items (Err stop) = Stops ss items stop

-- the same if no symbols are left
abbrev pub Reads : {X : Type 0} → (X → List Marked → List Marked) → (X → List Item) → List Symbol
    → List Item → Result X Stop → Type 0
Reads text rest ss items (Ok x) =
    (clean items ≡ text x (clean (rest x)))
    × ((st : List Symbol) → run (ss ++ st) items ≡ run st (rest x))
    × (length (rest x) ≤ length items)
Reads text rest ss items (Err stop) = Stops ss items stop

-- The same of one more item of a list, whose symbol goes to another one; or there is none, and this
-- holds of the tokens.
abbrev pub ReadsItem : {X : Type 0} → (X → List Marked → List Marked) → (X → List Item) → Symbol
    → Symbol → (List Item → Type 0) → List Item → Result (Option X) Stop → Type 0
ReadsItem text rest s next ends items (Ok (Some x)) =
    (clean items ≡ text x (clean (rest x)))
    × ((st : List Symbol) → run (s ∷ st) items ≡ run (next ∷ st) (rest x))
    × (length (rest x) < length items)
ReadsItem text rest s next ends items (Ok None) = ends items
ReadsItem text rest s next ends items (Err stop) = Stops (s ∷ []) items stop

-- the symbol stands for nothing before the tokens
abbrev pub IsPassedOver : Symbol → List Item → Type 0
IsPassedOver s items = (st : List Symbol) → run (s ∷ st) items ≡ run st items

-- one more item, or the list's symbol stands for nothing
abbrev pub ReadsNext : {X : Type 0} → (X → List Marked → List Marked) → (X → List Item) → Symbol
    → Symbol → List Item → Result (Option X) Stop → Type 0
ReadsNext text rest s next items result = ReadsItem text rest s next (IsPassedOver s) items result

-- The same if what was read has several texts: the tokens are one of them, and a rest.
abbrev pub ReadsAs : {X : Type 0} → (X → List Marked → List Marked → Type 0) → (X → List Item)
    → List Symbol → List Item → Result X Stop → Type 0
ReadsAs IsText rest ss items (Ok x) =
    IsText x (clean items) (clean (rest x))
    × ((st : List Symbol) → run (ss ++ st) items ≡ run st (rest x))
    × (length (rest x) ≤ length items)
ReadsAs IsText rest ss items (Err stop) = Stops ss items stop

-- the same of one more item of a list
abbrev pub ReadsNextAs : {X : Type 0} → (X → List Marked → List Marked → Type 0)
    → (X → List Item) → Symbol → Symbol → List Item → Result (Option X) Stop → Type 0
ReadsNextAs IsText rest s next items (Ok (Some x)) =
    IsText x (clean items) (clean (rest x))
    × ((st : List Symbol) → run (s ∷ st) items ≡ run (next ∷ st) (rest x))
    × (length (rest x) < length items)
ReadsNextAs IsText rest s next items (Ok None) = IsPassedOver s items
ReadsNextAs IsText rest s next items (Err stop) = Stops (s ∷ []) items stop

-- The first of the tokens is the number of a format that there is, whose declarations have to follow.
abbrev pub ReadsFormat : {X : Type 0} → (X → ℕ) → (X → List Item) → List Item → Result X Stop
    → Type 0
ReadsFormat version rest items (Ok x) =
    ((version x ≡ 1) ⊎ (version x ≡ 2)) × (clean items ≡ number (version x) ∷ clean (rest x))
    × ((st : List Symbol) → run (format ∷ st) items ≡ run (body (version x) ++ st) (rest x))
    × (length (rest x) ≤ length items)
ReadsFormat version rest items (Err stop) = Stops (format ∷ []) items stop

-- the list begins with this one
abbrev pub BeginsWith : RawEq → List RawEq → Type 0
BeginsWith first [] = ⊥
BeginsWith first (e ∷ es) = e ≡ first

abbrev pub others_of : List RawEq → List RawEq
others_of [] = []
others_of (e ∷ es) = es

-- the conclusions after a first one
abbrev pub ReadsBars : {X : Type 0} → RawEq → (X → List RawEq) → (X → List Item) → List Item
    → Result X Stop → Type 0
ReadsBars first made rest items (Ok x) =
    BeginsWith first (made x) × (clean items ≡ bars_text 1 (others_of (made x)) (clean (rest x)))
    × ((st : List Symbol) → run (bars 1 ∷ st) items ≡ run st (rest x))
    × (length (rest x) ≤ length items)
ReadsBars first made rest items (Err stop) = Stops (bars 1 ∷ []) items stop

-- the premises after a first one, and the arrow after them
abbrev pub ReadsPremises : {X : Type 0} → RawEq → (X → List RawEq) → (X → List Item) → List Item
    → Result X Stop → Type 0
ReadsPremises first made rest items (Ok x) =
    BeginsWith first (made x)
    × (clean items ≡ commas_text 1 (others_of (made x)) (sign Arrow ∷ clean (rest x)))
    × ((st : List Symbol) → run (commas 1 ∷ st) items ≡ run (conclusions ∷ st) (rest x))
    × (length (rest x) ≤ length items)
ReadsPremises first made rest items (Err stop) = Stops (commas 1 ∷ []) items stop

-- the goal's text after its first word, before what comes after it
abbrev pub IsGoalText : RawGoal → List Marked → List Marked → Type 0
IsGoalText g text after =
    (body : List Marked) × (text ≡ name_text None g.head (binds_text g.binds (sign Colon ∷ body)))
    × IsClause g.premises g.conclusions body after

abbrev pub goal_symbols : List Symbol → List Symbol
goal_symbols st = name None ∷ binds ∷ key Colon ∷ clause ∷ st

-- the tokens are one goal, with n goals before it
abbrev pub IsOneGoal : ℕ → RawGoal → List Marked → List Marked → Type 0
IsOneGoal n g text after = (inner : List Marked) × (text ≡ (Sign Goal, goal_mark n) ∷ inner)
    × IsGoalText g inner after
