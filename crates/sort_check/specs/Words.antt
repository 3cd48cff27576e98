-- What is tested at the words of a term, from the root, a symbol before its arguments and these from the left.
use Rattle.std.specs.Prelude.{◌≢◌, ℕ, ◌+◌, ◌≤◌, List, [], ◌∷◌, Option, Some, None, position, length, unwrap_or}
use Rattle.std.specs.Str.{bytes_eq}
use Rattle.term_core.specs.declared.ids.SortId.{SortId}
use Rattle.spec_core.specs.declared.records.SymInfo.{SymInfo}
use Rattle.spec_core.specs.Sig.{Sig, info_of, names_of, IsConstructor}
use Rattle.spec_core.specs.Declarations.{bool_symbol}
use Rattle.spec_core.specs.Findings.{Search, nothing, test, then}
use Rattle.spec_grammar.specs.RawTree.{RawTree, RawTrees, word, none as no_raws, some as more_raws}
use Rattle.sort_check.specs.Entries.{entry_named, sort_so_far, Differ, with_variable}
use Rattle.sort_check.specs.declared.entries.Entry.{Entry}
use Rattle.sort_check.specs.declared.faults.SortFault.{SortFault}
use Rattle.sort_check.specs.declared.faults.SortFault.TheVariants.{Sort}
use Rattle.sort_check.specs.declared.faults.SortKind.{SortKind}
use Rattle.sort_check.specs.declared.faults.SortKind.TheVariants.{UnknownName, WrongNumberOfArguments, NotOnTheLeft}
use Rattle.sort_check.specs.declared.faults.SortKind.TheVariants.{DefinedInPattern, TooManyVariables, WrongSort}
use Rattle.sort_check.specs.declared.faults.Part.{Part}
use Rattle.sort_check.specs.declared.faults.Part.TheVariants.{Left, Right, Goal, Ground}

abbrev pub count : RawTrees → ℕ
count no_raws = 0
count (more_raws t ts) = 1 + count ts

-- a word that is a variable with this number, or none so far; `wrong` is the kind of another sort than its place's
abbrev pub variable_tests : Part → List Entry → SortKind → ℕ → Option SortId → Option ℕ
    → Search SortFault
variable_tests part es wrong at place (Some n) =
    test (Sort at wrong) (Differ (sort_so_far es n) place)
variable_tests Left es wrong at place None = test (Sort at TooManyVariables) (16 ≤ length es)
variable_tests Goal es wrong at place None = test (Sort at TooManyVariables) (16 ≤ length es)
variable_tests Right es wrong at place None = test (Sort at NotOnTheLeft) (Unit {0})
variable_tests Ground es wrong at place None = test (Sort at UnknownName) (Unit {0})

-- a word that is no symbol: a variable if it stands alone
abbrev pub other_tests : Part → List Entry → SortKind → List ℕ → ℕ → RawTrees → Option SortId
    → Search SortFault
other_tests part es wrong name at no_raws place =
    variable_tests part es wrong at place (entry_named es name)
other_tests part es wrong name at (more_raws t ts) place = test (Sort at UnknownName) (Unit {0})

module _ (sig : Sig) where
  abbrev pub symbol_named : List ℕ → Option ℕ
  symbol_named name = position (bytes_eq name) (names_of sig)

  abbrev pub info_at : ℕ → SymInfo
  info_at f = unwrap_or (info_of sig f) bool_symbol

  -- the variables after a word: those after its arguments if it is a symbol
  abbrev pub after_word : List Entry → List ℕ → ℕ → Option SortId → (ℕ → List Entry) → Option ℕ
      → List Entry
  after_word es name at place after (Some f) = after f
  after_word es name at place after None = with_variable es name at place (entry_named es name)

  abbrev mutual
    -- the variables after a term at a place that may have a sort
    pub entries_after : List Entry → RawTree → Option SortId → List Entry
    entries_after es (word name at args) place =
        after_word es name at place (λ f. entries_after_all es args (info_at f).args)
        (symbol_named name)

    pub entries_after_all : List Entry → RawTrees → List SortId → List Entry
    entries_after_all es no_raws ss = es
    entries_after_all es (more_raws t ts) [] = es
    entries_after_all es (more_raws t ts) (s ∷ ss) =
        entries_after_all (entries_after es t (Some s)) ts ss

  -- a function inside a left side
  abbrev pub pattern_test : Part → ℕ → ℕ → Search SortFault
  pattern_test Left at f = test (Sort at DefinedInPattern) (¬ (IsConstructor sig f))
  pattern_test Right at f = nothing
  pattern_test Goal at f = nothing
  pattern_test Ground at f = nothing

  -- a symbol of another sort than its place's
  abbrev pub place_test : SortKind → ℕ → ℕ → Option SortId → Search SortFault
  place_test wrong at f None = nothing
  place_test wrong at f (Some s) = test (Sort at wrong) ((info_at f).result ≢ s)

  -- a symbol before this many arguments
  abbrev pub symbol_tests : Part → SortKind → ℕ → ℕ → ℕ → Option SortId → Search SortFault
  symbol_tests part wrong at f n place =
      then (pattern_test part at f) (then
      (test (Sort at WrongNumberOfArguments) (n ≢ length (info_at f).args))
      (place_test wrong at f place))

  abbrev pub word_tests : Part → List Entry → SortKind → List ℕ → ℕ → RawTrees → Option SortId
      → (ℕ → Search SortFault) → Option ℕ → Search SortFault
  word_tests part es wrong name at args place inside (Some f) =
      then (symbol_tests part wrong at f (count args) place) (inside f)
  word_tests part es wrong name at args place inside None =
      other_tests part es wrong name at args place

  abbrev mutual
    -- the tests of a term at a place that may have a sort, after these variables
    pub term_tests : Part → List Entry → SortKind → RawTree → Option SortId → Search SortFault
    term_tests part es wrong (word name at args) place =
        word_tests part es wrong name at args place
        (λ f. terms_tests part es args (info_at f).args) (symbol_named name)

    pub terms_tests : Part → List Entry → RawTrees → List SortId → Search SortFault
    terms_tests part es no_raws ss = nothing
    terms_tests part es (more_raws t ts) [] = nothing
    terms_tests part es (more_raws t ts) (s ∷ ss) =
        then (term_tests part es WrongSort t (Some s))
        (terms_tests part (entries_after es t (Some s)) ts ss)
