-- What the rows make of a rule, by the substitution that makes its left side the term of the place.
use Rattle.std.specs.Prelude.{◌≡◌, List, Option, MatchOption, map, filter}
use Rattle.std.specs.List.{AllByRecursion}
use Rattle.std.specs.Global.{Vec}
use Rattle.term_core.specs.Tree.{Tree}
use Rattle.term_core.specs.Same.{same_tree}
use Rattle.spec_core.specs.declared.records.Equation.{Equation}
use Rattle.spec_core.specs.declared.records.Guard.{Guard}
use Rattle.spec_core.specs.declared.records.Rule.{Rule}
use Rattle.spec_core.specs.Gives.{boolean}
use Rattle.substitutions.specs.Substitution.{apply}
use Rattle.clause_core.specs.declared.clauses.Clause.{Clause}
use Rattle.clause_core.specs.declared.steps.Place.{Place}
use Rattle.clause_core.specs.Places.{TermAt, holding}
use Rattle.clause_core.specs.Limits.{IsWithin}
use Rattle.clause_core.specs.Tidied.{tidied}
use Rattle.clause_core.specs.CaseSplitting.{with_premises}

-- the instance of the guard's test, equated to the constant that it wants
abbrev pub applied_guard : List (Option Tree) → Guard → Equation
applied_guard entries g = record { left = apply entries g.test; right = boolean g.wanted }

-- the place holds the instance of the right side, and the guards are added to the premises
abbrev pub applied_case :
    {c : Clause} {place : Place} → TermAt c place → List (Option Tree) → Rule → Clause
applied_case p entries rule =
    with_premises (holding p (apply entries rule.right)) (map (applied_guard entries) rule.guards)

-- the children of `case` by the rules of this left side, in their order, before they are tidied
abbrev pub applied_cases :
    {c : Clause} {place : Place} → TermAt c place → List (Option Tree) → List Rule → Tree →
    List Clause
applied_cases p entries rules left =
    map (applied_case p entries) (filter (λ (r : Rule). same_tree left r.left) rules)

-- the children, tidied, if each is within the limits, and else none
abbrev pub AreCasesWithin :
    {c : Clause} {place : Place} → TermAt c place → List (Option Tree) → List Rule → Tree →
    Option (Vec Clause) → Type 0
AreCasesWithin p entries rules left answer =
    let children : List Clause = map tidied (applied_cases p entries rules left) in
    MatchOption answer (AllByRecursion IsWithin children → ⊥)
    (λ made. (made.items ≡ children) × AllByRecursion IsWithin children)
