-- What a function returned that reads all tokens of a text.
use Rattle.std.specs.Prelude.{◌≡◌, ℕ, ◌-◌, List, [], Option, Some, None, Result, Ok, Err, drop, length}
use Rattle.spec_text.specs.Tokens.{AreTokens, IsTextFault}
use Rattle.spec_text.specs.declared.tokens.Token.{Token}
use Rattle.spec_grammar.specs.declared.limits.LimitKind.{LimitKind}
use Rattle.spec_grammar.specs.Derives.{clean, place_of, TextDerives}
use Rattle.spec_grammar.specs.Grammar.{Marked}
use Rattle.spec_grammar.specs.Items.{Item, items_of}
use Rattle.spec_grammar.specs.Symbols.{Symbol, run}
use Rattle.spec_syntax.specs.declared.stop.Stop.{Stop}
use Rattle.spec_syntax.specs.declared.stop.Stop.TheVariants as stops
use Rattle.spec_syntax.specs.declared.fault.SyntaxFault.{SyntaxFault}
use Rattle.spec_syntax.specs.declared.fault.SyntaxFault.TheVariants.{Text, Syntax, Limit, OutOfMemory}

-- the place where this many tokens are left
abbrev pub place_left : List Token → ℕ → ℕ → ℕ
place_left tokens left end = place_of (drop (length tokens - left) tokens) end

abbrev pub fault_at : ℕ → Option LimitKind → SyntaxFault
fault_at at None = Syntax at
fault_at at (Some what) = Limit at what

abbrev pub fault_of_stop : List Token → ℕ → Stop → SyntaxFault
fault_of_stop tokens end (stops.Fault left why) = fault_at (place_left tokens left end) why
fault_of_stop tokens end stops.OutOfMemory = OutOfMemory

-- the stack of symbols stops here
abbrev pub IsStopOf : List Symbol → List Item → Stop → Type 0
IsStopOf start items stops.OutOfMemory = Unit {0}
IsStopOf start items (stops.Fault left why) = run start items ≡ Some (left, why)

abbrev pub ReadsEnd : List Item → Result Unit Stop → Type 0
ReadsEnd items (Ok u) = items ≡ []
ReadsEnd items (Err stop) = IsStopOf [] items stop

-- all the tokens are a text of what was read, or the symbols stop
abbrev pub ReadsWhole : {R : Type 0} → (R → List Marked → Type 0) → List Symbol → List Item
    → Result R Stop → Type 0
ReadsWhole IsText start items (Ok r) = IsText r (clean items)
ReadsWhole IsText start items (Err stop) = IsStopOf start items stop

-- the same of the text's bytes; a fault is reported with its place
abbrev pub StopsAt : List Symbol → List ℕ → ℕ → Option LimitKind → Type 0
StopsAt start bytes at why =
    (tokens : List Token) × (left : ℕ) × AreTokens bytes tokens
    × (run start (items_of bytes tokens) ≡ Some (left, why))
    × (at ≡ place_left tokens left (length bytes))

abbrev pub Settles : {R : Type 0} → (R → List Marked → Type 0) → List Symbol → List ℕ
    → Result R SyntaxFault → Type 0
Settles IsText start bytes (Ok r) = TextDerives IsText bytes r
Settles IsText start bytes (Err (Text at)) = IsTextFault bytes at
Settles IsText start bytes (Err (Syntax at)) = StopsAt start bytes at None
Settles IsText start bytes (Err (Limit at what)) = StopsAt start bytes at (Some what)
Settles IsText start bytes (Err OutOfMemory) = Unit {0}
