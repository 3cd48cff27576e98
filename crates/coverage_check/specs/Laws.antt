-- Laws of the definitions.
use Rattle.std.specs.Prelude.{◌≡◌, ◌↔◌, List}
use Rattle.std.specs.List.{AllByRecursion}
use Rattle.term_core.specs.Tree.{Tree, trees_of}
use Rattle.term_core.specs.declared.ids.SortId.{SortId}
use Rattle.spec_core.specs.declared.records.Spec.{Spec}
use Rattle.spec_core.specs.Sig.{Sig}
use Rattle.spec_core.specs.Groups.{group}
use Rattle.coverage_check.specs.Values.{MatchesRow, IsMissing}
use Rattle.coverage_check.specs.Rows.{IsRow}
use Rattle.coverage_check.specs.Admits.{AdmitAll}
use Rattle.coverage_check.specs.Named.{IsNamed}
use Rattle.coverage_check.specs.declared.answers.Tree.{Tree as Answer}
use Rattle.coverage_check.specs.GroupTree.{IsRuleNumber, numbered_guards, rules_with, IsTree}

-- a row of linear patterns admits the values that it has as an instance
abbrev pub AdmitsInstances : Type 0
AdmitsInstances =
    (sig : Sig) (sorts : List SortId) (row vs : List Tree) →
    IsRow sig sorts row →
    AdmitAll (trees_of row) (trees_of vs) ↔ MatchesRow row vs

-- what is named for rows and sorts is missing, and nothing else is named for them
abbrev pub OneNamed : Type 0
OneNamed =
    (sig : Sig) (rows : List (List Tree)) (sorts : List SortId) (vs ws : List Tree) →
    IsNamed sig rows sorts vs →
    IsNamed sig rows sorts ws →
    IsMissing sig rows sorts vs × (vs ≡ ws)

-- `tree` takes the numbers of the rules with a left side, and what it answers of them is right
-- if and only if it is right of the guards of the left side's group
abbrev pub TreeDecidesGroups : Type 0
TreeDecidesGroups =
    (spec : Spec) (left : Tree) →
    let numbers = rules_with left spec.rules in
    AllByRecursion (IsRuleNumber spec) numbers
    × ((answer : Answer) →
    IsTree (numbered_guards spec numbers) answer ↔ IsTree (group left 0 spec.rules) answer)
