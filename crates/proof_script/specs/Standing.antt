-- What may appear in a word of a report, and in the line of a step.
use Rattle.std.specs.Prelude.{◌≡◌, ℕ, ◌≤◌, ◌<◌, ◌^◌, List, Some, length, slice_get}
use Rattle.std.specs.List.{AllByRecursion, range_with_len}
use Rattle.term_core.specs.Tree.{Tree, Trees, var, app, none, some, list_of, tree_depth}
use Rattle.term_core.specs.Variables.{occurrences}
use Rattle.spec_core.specs.declared.records.SymInfo.{SymInfo}
use Rattle.spec_core.specs.Sig.{Sig}
use Rattle.clause_core.specs.declared.steps.Place.{Place}
use Rattle.clause_core.specs.declared.steps.Step.{Step}
use Rattle.proof_script.specs.Names.{IsReportName}
use Rattle.proof_script.specs.Words.{Word, fixed, name, number, variable, equation, place, side, term, terms, patterns}
use Rattle.proof_script.specs.Steps.{step_line}

-- at most nine digits
abbrev pub IsShort : ℕ → Type 0
IsShort n = n < 10 ^ 9

abbrev pub Between : ℕ → ℕ → ℕ → Type 0
Between low high n = (low ≤ n) × (n ≤ high)

pub record PlaceStands (p : Place) : Type 0 where
  pub number : Between 1 9999 p.number
  pub path : AllByRecursion (Between 1 9) p.path

module _ (sig : Sig) where
  -- the symbol is one of the signature's with this number of arguments, and its name may appear in a
  -- report
  abbrev pub SymbolStands : ℕ → ℕ → Type 0
  SymbolStands f arity =
      (text : List ℕ) × (info : SymInfo) × (slice_get sig.table f ≡ Some (text, info))
      × (length info.args ≡ arity) × IsReportName text

  -- the symbols of the term may appear, and its variables have short numbers
  abbrev mutual
    pub SymbolsStand : Tree → Type 0
    SymbolsStand (var n) = IsShort n
    SymbolsStand (app f ts) = SymbolStands f (length (list_of ts)) × AllSymbolsStand ts

    pub AllSymbolsStand : Trees → Type 0
    AllSymbolsStand none = Unit {0}
    AllSymbolsStand (some t ts) = SymbolsStand t × AllSymbolsStand ts

  pub record TermStands (t : Tree) : Type 0 where
    pub symbols : SymbolsStand t
    pub depth : tree_depth t ≤ 100

  -- the variables of a pattern are numbered from 0 on, and each occurs once
  pub record PatternStands (p : Tree) : Type 0 where
    pub stands : TermStands p
    pub numbered : occurrences p ≡ range_with_len 0 (length (occurrences p))

  abbrev pub WordStands : Word → Type 0
  WordStands (fixed text) = Unit {0}
  WordStands (name text) = IsReportName text
  WordStands (number n) = IsShort n
  WordStands (variable n) = IsShort n
  WordStands (equation conclusion n) = Between 1 9999 n
  WordStands (place p) = PlaceStands p
  WordStands (side left) = Unit {0}
  WordStands (term t) = TermStands t
  WordStands (terms ts) = AllByRecursion TermStands ts
  WordStands (patterns ps) = (1 ≤ length ps) × AllByRecursion PatternStands ps

  abbrev pub StepStands : Step → Type 0
  StepStands step = AllByRecursion WordStands (step_line step).words
