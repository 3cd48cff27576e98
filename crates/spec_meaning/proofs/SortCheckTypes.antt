-- What sort_check's definitions speak of without exporting it: variables as they are known,
-- equations of two variables, and the part of a declaration that a term occurs in. Each is described
-- here by a definition that uses it.
use Rattle.std.proofs.Common.{◌≡◌, ℕ, List, [], Some, None, refl}
use Rattle.spec_core.specs.Sig.{Sig}
use Rattle.spec_core.specs.Declarations.{bool_sort}
use Rattle.spec_core.specs.Findings.{then}
use Rattle.spec_grammar.specs.RawTree.{RawTrees}
use Rattle.spec_grammar.specs.declared.raw.RawEq.{RawEq}
use Rattle.spec_grammar.specs.declared.raw.RawGuard.{RawGuard}
use Rattle.spec_grammar.specs.declared.raw.RawRule.{RawRule}
use Rattle.sort_check.specs.Rounds.{after_pair}
use Rattle.sort_check.specs.GoalTests.{bound, own_sort, wanted, sides_tests}
use Rattle.sort_check.specs.RuleTests.{guard_tests, body_tests, inner_tests}
use Rattle.sort_check.specs.Words.{info_at, entries_after, entries_after_all, term_tests, terms_tests}
use Rattle.sort_check.specs.declared.faults.SortKind.TheVariants.{WrongSort, GuardNotBool}

-- the second argument and the result of a function
abbrev pub second_type : {A B C : Type 0} → (A → B → C) → Type 0
second_type {A} {B} {C} f = B

abbrev pub second_of_search : {A B : Type 0} {C : Type 1} → (A → B → C) → Type 0
second_of_search {A} {B} {C} f = B

abbrev pub result_type : {A B C : Type 0} → (A → B → C) → Type 0
result_type {A} {B} {C} f = C

abbrev pub Entry : Type 0
Entry = result_type bound

abbrev pub Pair : Type 0
Pair = second_type after_pair

abbrev pub Part : Type 0
Part = second_of_search term_tests

-- the part with which these tests are what is written
abbrev pub part_of_guards : {p : Part} →
    ((sig : Sig) (es : List Entry) (g : RawGuard) →
    guard_tests sig es g ≡ term_tests sig p es GuardNotBool g.test (Some bool_sort)) → Part
part_of_guards {p} h = p

abbrev pub part_of_patterns : {p : Part} →
    ((sig : Sig) (args : RawTrees) (r : RawRule) (f : ℕ) →
    inner_tests sig args r (Some f) ≡ then (terms_tests sig p [] args (info_at sig f).args)
    (body_tests sig (entries_after_all sig [] args (info_at sig f).args) r
    (info_at sig f).result)) → Part
part_of_patterns {p} h = p

abbrev pub part_of_sides : {p : Part} →
    ((sig : Sig) (es : List Entry) (e : RawEq) →
    sides_tests sig es e ≡ then (term_tests sig p es WrongSort e.left None)
    (term_tests sig p (entries_after sig es e.left None) WrongSort e.right
    (wanted (own_sort sig e.left) (own_sort sig e.right)))) → Part
part_of_sides {p} h = p

-- right sides and guards, what is inside a left side, and sides of goals
abbrev pub right_part : Part
right_part = part_of_guards (λ sig es g. refl)

abbrev pub left_part : Part
left_part = part_of_patterns (λ sig args r f. refl)

abbrev pub goal_part : Part
goal_part = part_of_sides (λ sig es e. refl)
