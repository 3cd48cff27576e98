-- Laws of code and of left sides' tests.
use Rattle.std.specs.Prelude.{◌≡◌, ℕ, List, Some, length, slice_get}
use Rattle.term_core.specs.Tree.{Tree, var, app, instance, trees_of}
use Rattle.spec_core.specs.declared.records.Spec.{Spec}
use Rattle.spec_core.specs.WellSorted.{IsWellSorted}
use Rattle.spec_core.specs.Gives.{Gives}
use Rattle.rule_code.specs.declared.tests.Test.{Test}
use Rattle.rule_code.specs.Code.{Step, End, Does, entries}
use Rattle.rule_code.specs.Compiled.{IsBody, Holds}
use Rattle.rule_code.specs.Matching.{Opens, HaveHomes, Unpacks, Fails}

-- what the code of a term gives, the term gives
abbrev pub CodeIsRight : Type 0
CodeIsRight = (spec : Spec) (homes : List ℕ) (env xs : List Tree) (t : Tree) (steps : List Step)
    (end : End) (w : Tree) (n : ℕ) → IsWellSorted spec
    → IsBody spec.sig homes t (length env) steps end → Holds spec.sig homes env xs
    → Does spec env steps end w n → Gives spec (instance xs t) w n

-- what a term gives, its code gives
abbrev pub CodeIsWhole : Type 0
CodeIsWhole = (spec : Spec) (homes : List ℕ) (env xs : List Tree) (t : Tree) (steps : List Step)
    (end : End) (w : Tree) (n : ℕ) → IsWellSorted spec
    → IsBody spec.sig homes t (length env) steps end → Holds spec.sig homes env xs
    → Gives spec (instance xs t) w n → Does spec env steps end w n

-- if the tests of a left side pass and the slots of each variable have one value, it is the call with the values,
-- under the values of the variables' slots
abbrev pub TestsMatch : Type 0
TestsMatch = (f : ℕ) (pats all env grown : List Tree) (tests : List Test) (homes : List ℕ)
    → Opens pats 0 tests all → HaveHomes all homes grown → length env ≡ length pats
    → Unpacks env tests grown → instance (entries grown homes) (app f (trees_of pats))
    ≡ app f (trees_of env)

-- and if one of them fails, it is so under no entries
abbrev pub TestsDecide : Type 0
TestsDecide = (f : ℕ) (pats all env xs : List Tree) (tests : List Test) → Opens pats 0 tests all
    → Fails env tests → instance xs (app f (trees_of pats)) ≡ app f (trees_of env) → ⊥

-- and if two slots of one variable differ, it is so under no entries
abbrev pub RepeatsDecide : Type 0
RepeatsDecide = (f : ℕ) (pats all env grown xs : List Tree) (tests : List Test) (h s n : ℕ)
    → Opens pats 0 tests all → Unpacks env tests grown → slice_get all h ≡ Some (var n)
    → slice_get all s ≡ Some (var n) → instance xs (app f (trees_of pats)) ≡ app f (trees_of env)
    → instance grown (var h) ≡ instance grown (var s)
