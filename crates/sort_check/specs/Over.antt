-- Terms over variables as they are met, by the places of their names.
use Rattle.std.specs.Prelude.{◌≡◌, List, [], ◌∷◌, ◌++◌, Option, Some, None, unwrap_or}
use Rattle.term_core.specs.Tree.{Tree, Trees, var, app, none, some, trees_of}
use Rattle.term_core.specs.declared.ids.SortId.{SortId}
use Rattle.spec_core.specs.declared.records.VarInfo.{VarInfo}
use Rattle.spec_core.specs.declared.records.Guard.{Guard}
use Rattle.spec_core.specs.declared.records.Equation.{Equation}
use Rattle.spec_core.specs.Sig.{Sig}
use Rattle.spec_core.specs.Declarations.{bool_sort}
use Rattle.spec_grammar.specs.RawTree.{RawTree, RawTrees, word, none as no_raws, some as more_raws}
use Rattle.spec_grammar.specs.declared.raw.RawGuard.{RawGuard}
use Rattle.spec_grammar.specs.declared.raw.RawEq.{RawEq}
use Rattle.sort_check.specs.Entries.{entry_named}
use Rattle.sort_check.specs.Words.{symbol_named}
use Rattle.sort_check.specs.declared.entries.Entry.{Entry}

module _ (sig : Sig) (es : List Entry) where
  -- symbols stand for their numbers and variables for their places
  abbrev mutual
    pub IsOver : RawTree → Tree → Type 0
    IsOver (word name at raws) (var n) =
        (raws ≡ no_raws) × (symbol_named sig name ≡ None) × (entry_named es name ≡ Some n)
    IsOver (word name at raws) (app f ts) = (symbol_named sig name ≡ Some f) × AreOver raws ts

    pub AreOver : RawTrees → Trees → Type 0
    AreOver no_raws none = Unit {0}
    AreOver (more_raws r rs) (some t ts) = IsOver r t × AreOver rs ts
    AreOver no_raws (some t ts) = ⊥
    AreOver (more_raws r rs) none = ⊥

  -- the terms are put after others
  abbrev pub AreOverBehind : RawTrees → List Tree → List Tree → Type 0
  AreOverBehind raws old new = (ts : List Tree) × (new ≡ old ++ ts) × AreOver raws (trees_of ts)

  abbrev pub IsGuardOver : RawGuard → Guard → Type 0
  IsGuardOver raw guard = IsOver raw.test guard.test × (guard.wanted ≡ raw.wanted)

  abbrev pub IsEquationOver : RawEq → Equation → Type 0
  IsEquationOver raw e = IsOver raw.left e.left × IsOver raw.right e.right

-- a variable with the sort that it has
abbrev pub variable_of : Entry → Option SortId → VarInfo
variable_of e sort = record { name = e.name; sort = unwrap_or sort bool_sort }

-- the variables with the sorts that are known of them
abbrev pub variables_of : List Entry → List (Option SortId) → List VarInfo
variables_of [] known = []
variables_of (e ∷ es) [] = []
variables_of (e ∷ es) (o ∷ os) = variable_of e o ∷ variables_of es os
