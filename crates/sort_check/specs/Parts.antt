-- Parts of rules and goals on the way.
use Rattle.std.specs.Prelude.{◌≡◌, ℕ, ◌<◌, List, Option, Some, None, slice_index, length}
use Rattle.term_core.specs.declared.ids.SortId.{SortId}
use Rattle.spec_core.specs.declared.records.VarInfo.{VarInfo}
use Rattle.spec_core.specs.Sig.{Sig, IsConstructor}
use Rattle.spec_core.specs.Findings.{Search}
use Rattle.spec_grammar.specs.RawTree.{RawTree, RawTrees, word}
use Rattle.spec_grammar.specs.Sizes.{words}
use Rattle.spec_grammar.specs.declared.raw.RawEq.{RawEq}
use Rattle.spec_grammar.specs.declared.raw.RawRule.{RawRule}
use Rattle.sort_check.specs.Entries.{entry_named, sort_so_far}
use Rattle.sort_check.specs.GoalTests.{own_sort, opposed_by, inferred}
use Rattle.sort_check.specs.Over.{variables_of}
use Rattle.sort_check.specs.Words.{count, symbol_named, info_at}
use Rattle.sort_check.specs.RuleTests.{root_tests, rules_of, inner_tests}
use Rattle.sort_check.specs.declared.entries.Entry.{Entry}
use Rattle.sort_check.specs.declared.entries.Pair.{Pair}
use Rattle.sort_check.specs.declared.faults.SortFault.{SortFault}

-- each variable has a sort
abbrev pub AreSorted : List Entry → Type 0
AreSorted es = (n : ℕ) → n < length es → (s : SortId) × (sort_so_far es n ≡ Some s)

-- the name, the place and the arguments of a term's root
abbrev pub root_name : RawTree → List ℕ
root_name (word name at args) = name

abbrev pub root_place : RawTree → ℕ
root_place (word name at args) = at

abbrev pub arguments_of : RawTree → RawTrees
arguments_of (word name at args) = args

-- the number that is counted for a symbol
abbrev pub counted : List ℕ → Option ℕ → ℕ
counted counts (Some f) = slice_index counts f
counted counts None = 0

-- the numbers count the rules of each function
abbrev pub AreCounts : Sig → List RawRule → List ℕ → Type 0
AreCounts sig rules counts = (name : List ℕ) (f : ℕ) → symbol_named sig name ≡ Some f
    → slice_index counts f ≡ rules_of name rules

module _ (sig : Sig) where
  -- the tests of a left side's root, if a function may have this many rules, and this many of each come before
  abbrev pub counted_tests : ℕ → List ℕ → RawTree → Search SortFault
  counted_tests most counts (word name at args) =
      root_tests sig most at (words (word name at args)) (counted counts (symbol_named sig name)) args
      (symbol_named sig name)

  -- the root is this function, before as many arguments as it takes
  abbrev pub IsRoot : RawTree → ℕ → Type 0
  IsRoot (word name at args) f = (symbol_named sig name ≡ Some f) × ¬ (IsConstructor sig f)
      × (count args ≡ length (info_at sig f).args)

  -- what is tested below a root
  abbrev pub below_tests : RawTree → RawRule → Search SortFault
  below_tests (word name at args) rule = inner_tests sig args rule (symbol_named sig name)

-- both variables of an equation are there
abbrev pub IsWithin : List (Option SortId) → Pair → Type 0
IsWithin known p = (p.left < length known) × (p.right < length known)

module _ (sig : Sig) (es : List Entry) where
  -- a side that is a variable is one of these
  abbrev pub IsFound : RawTree → Type 0
  IsFound raw = own_sort sig raw ≡ None → (n : ℕ) × (entry_named es (root_name raw) ≡ Some n)

  abbrev pub AreFound : RawEq → Type 0
  AreFound e = IsFound e.left × IsFound e.right

  -- these variables with the sorts that the equations give them
  abbrev pub inferred_variables : List RawEq → List VarInfo
  inferred_variables eqs =
      variables_of (opposed_by sig es eqs) (inferred sig (opposed_by sig es eqs) eqs)
