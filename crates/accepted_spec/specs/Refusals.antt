-- The lines for files and terms that aren't taken.
use Rattle.std.specs.Prelude.{◌≡◌, ℕ, List, ◌++◌, codes}
use Rattle.std.specs.Fmt.{decimal}
use Rattle.spec_grammar.specs.Limits.{limit_word}
use Rattle.spec_syntax.specs.declared.fault.SyntaxFault.{SyntaxFault}
use Rattle.spec_syntax.specs.declared.fault.SyntaxFault.TheVariants.{Text, Syntax, Limit}
use Rattle.spec_syntax.specs.declared.fault.SyntaxFault.TheVariants as syntax
use Rattle.spec_syntax.specs.Faults.{HasFault}
use Rattle.spec_core.specs.declared.records.Spec.{Spec}
use Rattle.spec_core.specs.Sig.{Sig}
use Rattle.spec_order.specs.Orders.{above_of}
use Rattle.spec_admit.specs.FirstFault.{Tells as IsFirstFault}
use Rattle.spec_admit.specs.declared.faults.AdmitFault.{AdmitFault}
use Rattle.spec_grammar.specs.Derives.{TextDerives}
use Rattle.spec_grammar.specs.Grammar.{Marked, IsSpecText, IsTermText}
use Rattle.sort_check.specs.FirstFault.{HasFirstFault, TermHasFirstFault}
use Rattle.sort_check.specs.declared.faults.SortFault.{SortFault}
use Rattle.sort_check.specs.declared.faults.SortFault.TheVariants.{Sort}
use Rattle.sort_check.specs.declared.faults.SortFault.TheVariants as sort
use Rattle.sort_check.specs.declared.faults.SortKind.{SortKind}
use Rattle.sort_check.specs.Texts.{kind_text}
use Rattle.accepted_spec.specs.Meanings.{TextStandsFor}
use Rattle.accepted_spec.specs.AdmitLines.{IsAdmitLine}
use Rattle.accepted_spec.specs.declared.refusals.Subject.{Subject}
use Rattle.accepted_spec.specs.declared.refusals.Subject.TheVariants.{File, Term}

-- what a line begins with: `refused` for a file, and `refused term` for a term
abbrev pub subject_text : Subject → List ℕ
subject_text File = codes "refused "
subject_text Term = codes "refused term "

module _ (subject : Subject) where
  -- the line of a fault; want of memory has none
  abbrev pub IsFaultLine : SyntaxFault → List ℕ → Type 0
  IsFaultLine (Text at) line =
      line ≡ subject_text subject ++ codes "text at " ++ decimal at ++ codes "\n"
  IsFaultLine (Syntax at) line =
      line ≡ subject_text subject ++ codes "syntax at " ++ decimal at ++ codes "\n"
  IsFaultLine (Limit at what) line =
      line
      ≡ subject_text subject ++ codes "limit at " ++ decimal at ++ codes ": " ++ limit_word what
      ++ codes "\n"
  IsFaultLine syntax.OutOfMemory line = ⊥

  -- the line of a sort fault
  abbrev pub IsSortLine : SortFault → List ℕ → Type 0
  IsSortLine (Sort at kind) line =
      line
      ≡ subject_text subject ++ codes "sort at " ++ decimal at ++ codes ": " ++ kind_text kind
      ++ codes "\n"
  IsSortLine sort.OutOfMemory line = ⊥

  -- the line for bytes that are no text of such a thing, or whose thing has this first sort fault
  pub data IsRefusalLine {R : Type 0}
      (IsText : R → List Marked → Type 0) (HasFirst : R → ℕ → SortKind → Type 0)
      (bytes : List ℕ) : List ℕ → Type 0 where
    faulty : {line : List ℕ} (fault : SyntaxFault)
        → HasFault IsText bytes fault → IsFaultLine fault line
        → IsRefusalLine IsText HasFirst bytes line
    unsorted : {line : List ℕ} (raw : R) (at : ℕ) (kind : SortKind)
        → TextDerives IsText bytes raw → HasFirst raw at kind → IsSortLine (Sort at kind) line
        → IsRefusalLine IsText HasFirst bytes line

-- the line for a file's text that stands for no specification
abbrev pub IsTextRefusal : List ℕ → List ℕ → Type 0
IsTextRefusal bytes line = IsRefusalLine File IsSpecText HasFirstFault bytes line

-- the line for a file's text: it stands for no specification, or for one that its own order
-- doesn't admit, which has this first fault
pub data IsRefusalOf (bytes : List ℕ) : List ℕ → Type 0 where
  no_specification : {line : List ℕ} → IsTextRefusal bytes line → IsRefusalOf bytes line
  not_admitted : {line : List ℕ} (spec : Spec) (fault : AdmitFault)
      → TextStandsFor bytes spec → IsFirstFault (above_of spec) spec fault
      → IsAdmitLine spec.sig fault line
      → IsRefusalOf bytes line

-- the line for a term's text that stands for no term over the signature
abbrev pub IsTermRefusal : Sig → List ℕ → List ℕ → Type 0
IsTermRefusal sig bytes line = IsRefusalLine Term IsTermText (TermHasFirstFault sig) bytes line
