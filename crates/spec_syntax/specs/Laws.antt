-- What holds of all texts: their faults.
use Rattle.std.specs.Prelude.{◌≡◌, ℕ, List}
use Rattle.spec_grammar.specs.Derives.{TextDerives}
use Rattle.spec_grammar.specs.Grammar.{IsSpecText}
use Rattle.spec_grammar.specs.declared.raw.RawSpec.{RawSpec}
use Rattle.spec_syntax.specs.Faults.{HasFault}
use Rattle.spec_syntax.specs.declared.fault.SyntaxFault.{SyntaxFault}

-- a text that derives a raw specification has no fault, and any text has one fault at most
pub record OneFault : Type 0 where
  pub none : (bytes : List ℕ) (raw : RawSpec) (fault : SyntaxFault)
      → TextDerives IsSpecText bytes raw → HasFault IsSpecText bytes fault → ⊥
  pub one : (bytes : List ℕ) (fault other : SyntaxFault)
      → HasFault IsSpecText bytes fault → HasFault IsSpecText bytes other → fault ≡ other
