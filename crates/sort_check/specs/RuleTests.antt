-- What is tested at a rule: its left side, its right side and its guards, in order.
use Rattle.std.specs.Prelude.{◌≢◌, ℕ, ◌<◌, ◌≤◌, List, [], Option, Some, None, Bool, length, count_by}
use Rattle.std.specs.Str.{bytes_eq}
use Rattle.term_core.specs.declared.ids.SortId.{SortId}
use Rattle.spec_core.specs.Sig.{Sig, IsConstructor}
use Rattle.spec_core.specs.Declarations.{bool_sort}
use Rattle.spec_core.specs.Findings.{Search, nothing, test, then, each}
use Rattle.spec_grammar.specs.RawTree.{RawTree, RawTrees, word, none as no_raws, some as more_raws}
use Rattle.spec_grammar.specs.Sizes.{words}
use Rattle.spec_grammar.specs.declared.raw.RawGuard.{RawGuard}
use Rattle.spec_grammar.specs.declared.raw.RawRule.{RawRule}
use Rattle.sort_check.specs.Words.{count, symbol_named, info_at, entries_after_all, term_tests, terms_tests}
use Rattle.sort_check.specs.declared.entries.Entry.{Entry}
use Rattle.sort_check.specs.declared.faults.SortFault.{SortFault}
use Rattle.sort_check.specs.declared.faults.SortFault.TheVariants.{Sort}
use Rattle.sort_check.specs.declared.faults.SortKind.TheVariants.{UnknownName, WrongNumberOfArguments, WrongSort}
use Rattle.sort_check.specs.declared.faults.SortKind.TheVariants.{NoFunction, GuardNotBool, LeftTooLarge, TooManyRules}
use Rattle.sort_check.specs.declared.faults.Part.TheVariants.{Left, Right}

-- the test whether this is the word at the term's root
abbrev pub has_root : List ℕ → RawTree → Bool
has_root root (word name at args) = bytes_eq root name

-- how many of these rules are of the function with this name
abbrev pub rules_of : List ℕ → List RawRule → ℕ
rules_of name rules = count_by (λ (r : RawRule). has_root name r.left) rules

module _ (sig : Sig) where
  abbrev pub guard_tests : List Entry → RawGuard → Search SortFault
  guard_tests es g = term_tests sig Right es GuardNotBool g.test (Some bool_sort)

  -- the right side and the guards, over the variables of the left side
  abbrev pub body_tests : List Entry → RawRule → SortId → Search SortFault
  body_tests es rule s = then (term_tests sig Right es WrongSort rule.right (Some s))
      (each (guard_tests es) rule.guards)

  -- the left side below its root, and then the rest of the rule
  abbrev pub inner_tests : RawTrees → RawRule → Option ℕ → Search SortFault
  inner_tests args rule (Some f) = then (terms_tests sig Left [] args (info_at sig f).args)
      (body_tests (entries_after_all sig [] args (info_at sig f).args) rule (info_at sig f).result)
  inner_tests args rule None = nothing

  -- if a function may have this many rules
  module _ (most : ℕ) where
    -- the root of a left side of this many words, if this many rules before are of this function
    abbrev pub root_tests : ℕ → ℕ → ℕ → RawTrees → Option ℕ → Search SortFault
    root_tests at size before args (Some f) =
        then (test (Sort at NoFunction) (IsConstructor sig f))
        (then (test (Sort at TooManyRules) (most ≤ before))
        (then (test (Sort at LeftTooLarge) (200 < size))
        (test (Sort at WrongNumberOfArguments) (count args ≢ length (info_at sig f).args))))
    root_tests at size before no_raws None = test (Sort at NoFunction) (Unit {0})
    root_tests at size before (more_raws t ts) None = test (Sort at UnknownName) (Unit {0})

    abbrev pub left_tests : List RawRule → RawTree → RawRule → Search SortFault
    left_tests before (word name at args) rule =
        then (root_tests at (words (word name at args)) (rules_of name before) args
        (symbol_named sig name)) (inner_tests args rule (symbol_named sig name))

    -- a rule with those before it
    abbrev pub rule_tests : List RawRule → RawRule → Search SortFault
    rule_tests before rule = left_tests before rule.left rule
