-- What holds of all texts.
use Rattle.std.specs.Prelude.{◌≡◌, ℕ, List, Option}
use Rattle.spec_grammar.specs.declared.limits.LimitKind.{LimitKind}
use Rattle.spec_grammar.specs.declared.raw.RawSpec.{RawSpec}
use Rattle.spec_grammar.specs.RawTree.{RawTree}
use Rattle.spec_grammar.specs.Grammar.{IsSpecText, IsTermText}
use Rattle.spec_grammar.specs.Derives.{TextDerives, TextHasFault}
use Rattle.spec_grammar.specs.KeepsLimits.{TermKeepsLimits, KeepsLimits}

-- a text derives one raw specification at most, and one term at most, and none if it has a fault;
-- it has one fault at most
pub record OneReading : Type 0 where
  pub one_spec : (bytes : List ℕ) (raw other : RawSpec)
      → TextDerives IsSpecText bytes raw → TextDerives IsSpecText bytes other → raw ≡ other
  pub one_term : (bytes : List ℕ) (term other : RawTree)
      → TextDerives IsTermText bytes term → TextDerives IsTermText bytes other → term ≡ other
  pub no_fault : (bytes : List ℕ) (raw : RawSpec) (at : ℕ) (why : Option LimitKind)
      → TextDerives IsSpecText bytes raw → TextHasFault IsSpecText bytes at why → ⊥
  pub one_fault : (bytes : List ℕ) (at place : ℕ) (why what : Option LimitKind)
      → TextHasFault IsSpecText bytes at why → TextHasFault IsSpecText bytes place what
      → (at ≡ place) × (why ≡ what)

-- what a text derives keeps the limits, a specification as well as one term alone
pub record WithinLimits : Type 0 where
  pub spec : (bytes : List ℕ) (raw : RawSpec) → TextDerives IsSpecText bytes raw → KeepsLimits raw
  pub term : (bytes : List ℕ) (t : RawTree) → TextDerives IsTermText bytes t → TermKeepsLimits t
