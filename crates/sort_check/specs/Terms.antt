-- The term that a raw term stands for.
use Rattle.std.specs.Prelude.{◌≡◌, ℕ, List, Some, slice_get}
use Rattle.term_core.specs.Tree.{Tree, Trees, var, app, none, some}
use Rattle.spec_core.specs.declared.records.Equation.{Equation}
use Rattle.spec_core.specs.Sig.{Sig, names_of}
use Rattle.spec_core.specs.Declarations.{IsNewName}
use Rattle.spec_grammar.specs.RawTree.{RawTree, RawTrees, word, none as no_raws, some as more_raws}
use Rattle.spec_grammar.specs.declared.raw.RawEq.{RawEq}

module _ (sig : Sig) (names : List (List ℕ)) where
  -- a word alone that is no symbol is the variable of this name; any other word is a symbol before its arguments
  abbrev mutual
    pub TermStands : RawTree → Tree → Type 0
    TermStands (word name at raws) (var n) =
        (raws ≡ no_raws) × IsNewName name (names_of sig) × (slice_get names n ≡ Some name)
    TermStands (word name at raws) (app f ts) =
        (slice_get (names_of sig) f ≡ Some name) × TermsStand raws ts

    pub TermsStand : RawTrees → Trees → Type 0
    TermsStand no_raws none = Unit {0}
    TermsStand (more_raws raw raws) (some t ts) = TermStands raw t × TermsStand raws ts
    TermsStand no_raws (some t ts) = ⊥
    TermsStand (more_raws raw raws) none = ⊥

  abbrev pub EquationStands : RawEq → Equation → Type 0
  EquationStands raw e = TermStands raw.left e.left × TermStands raw.right e.right
