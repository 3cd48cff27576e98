-- What a reader answers, and when.
use Rattle.std.specs.Prelude.{◌≡◌, ℕ, List, ◌++◌, Some, None, Result, Ok, Err, codes, decimal}
use Rattle.spec_text.specs.Tokens.{IsTextFault}
use Rattle.spec_grammar.specs.Grammar.{Marked}
use Rattle.spec_grammar.specs.Limits.{limit_word}
use Rattle.spec_grammar.specs.Derives.{TextHasFault}
use Rattle.spec_syntax.specs.declared.fault.SyntaxFault.{SyntaxFault}
use Rattle.spec_syntax.specs.declared.fault.SyntaxFault.TheVariants.{Text, Syntax, Limit, OutOfMemory}

-- the answer is this one, unless memory ran out
abbrev pub IsAnswer : {R : Type 0} → R → Result R SyntaxFault → Type 0
IsAnswer r (Ok x) = x ≡ r
IsAnswer r (Err OutOfMemory) = Unit {0}
IsAnswer r (Err fault) = ⊥

-- the answer is this fault, unless memory ran out
abbrev pub IsSyntaxFault : {R : Type 0} → SyntaxFault → Result R SyntaxFault → Type 0
IsSyntaxFault fault (Ok x) = ⊥
IsSyntaxFault fault (Err OutOfMemory) = Unit {0}
IsSyntaxFault fault (Err other) = other ≡ fault

-- the bytes have this fault as a text of such a kind; want of memory is no fault of theirs
abbrev pub HasFault : {R : Type 0} → (R → List Marked → Type 0) → List ℕ → SyntaxFault → Type 0
HasFault IsText bytes (Text at) = IsTextFault bytes at
HasFault IsText bytes (Syntax at) = TextHasFault IsText bytes at None
HasFault IsText bytes (Limit at what) = TextHasFault IsText bytes at (Some what)
HasFault IsText bytes OutOfMemory = ⊥

-- a fault that is reported is there
abbrev pub TellsFault : {R : Type 0} → (R → List Marked → Type 0) → List ℕ → SyntaxFault → Type 0
TellsFault IsText bytes OutOfMemory = Unit {0}
TellsFault IsText bytes fault = HasFault IsText bytes fault

-- what is printed of a fault
abbrev pub fault_text : SyntaxFault → List ℕ
fault_text (Text at) = codes "text at " ++ decimal at
fault_text (Syntax at) = codes "syntax at " ++ decimal at
fault_text (Limit at what) = codes "limit at " ++ decimal at ++ codes ": " ++ limit_word what
fault_text OutOfMemory = codes "out of memory"
