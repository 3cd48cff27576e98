-- What texts stand for.
use Rattle.std.specs.Prelude.{ℕ, List}
use Rattle.term_core.specs.Tree.{Tree}
use Rattle.spec_core.specs.declared.records.Spec.{Spec}
use Rattle.spec_core.specs.Sig.{Sig}
use Rattle.spec_grammar.specs.Derives.{TextDerives}
use Rattle.spec_grammar.specs.Grammar.{IsSpecText, IsTermText}
use Rattle.spec_grammar.specs.RawTree.{RawTree}
use Rattle.spec_grammar.specs.declared.raw.RawSpec.{RawSpec}
use Rattle.sort_check.specs.StandsFor.{StandsFor, TermStandsFor}
use Rattle.spec_order.specs.Orders.{above_of}
use Rattle.clause_core.specs.Admitted.{IsAdmitted}

-- the text derives a raw specification that stands for this one
abbrev pub TextStandsFor : List ℕ → Spec → Type 0
TextStandsFor bytes spec =
    (raw : RawSpec) × TextDerives IsSpecText bytes raw × StandsFor raw spec

-- the text derives the raw specification, and this stands for the other one, which its own order
-- admits
pub record IsAcceptedAs (bytes : List ℕ) (raw : RawSpec) (spec : Spec) : Type 0 where
  pub derived : TextDerives IsSpecText bytes raw
  pub stands : StandsFor raw spec
  pub admitted : IsAdmitted (above_of spec) spec

-- the text is that of a specification which its own order admits
abbrev pub IsAccepted : List ℕ → Type 0
IsAccepted bytes = (raw : RawSpec) × (spec : Spec) × IsAcceptedAs bytes raw spec

-- the text derives a raw term that stands over the signature for this one, without variables
abbrev pub TermTextStandsFor : Sig → List ℕ → Tree → Type 0
TermTextStandsFor sig bytes t =
    (raw : RawTree) × TextDerives IsTermText bytes raw × TermStandsFor sig raw t
