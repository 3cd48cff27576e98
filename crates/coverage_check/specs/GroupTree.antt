-- The guards of a group of rules, and what is said of them.
use Rattle.std.specs.Prelude.{ℕ, ◌-◌, ◌≤◌, List, [], ◌∷◌, Option, Some, None, length, map, slice_get}
use Rattle.term_core.specs.Tree.{Tree as TermTree}
use Rattle.spec_core.specs.declared.records.Rule.{Rule}
use Rattle.spec_core.specs.declared.records.Guard.{Guard}
use Rattle.spec_core.specs.declared.records.Spec.{Spec}
use Rattle.spec_core.specs.Groups.{Whole as FormTree, group}
use Rattle.coverage_check.specs.declared.answers.Tree.{Tree}
use Rattle.coverage_check.specs.declared.answers.Tree.TheVariants.{Whole, Gap}

-- some rule has the number, where the first one has the number 1
abbrev pub IsRuleNumber : Spec → ℕ → Type 0
IsRuleNumber spec n = (1 ≤ n) × (n ≤ length spec.rules)

-- the guards of the rule that is found
abbrev pub guards_of : Option Rule → List Guard
guards_of (Some rule) = rule.guards
guards_of None = []

-- the numbers with the guards of their rules
abbrev pub numbered_guards : Spec → List ℕ → List (ℕ × List Guard)
numbered_guards spec [] = []
numbered_guards spec (n ∷ ns) =
    (n, guards_of (slice_get spec.rules (n - 1))) ∷ numbered_guards spec ns

-- the numbers of the rules with this left side, in order
abbrev pub rules_with : TermTree → List Rule → List ℕ
rules_with left rules = map (λ (m : ℕ × List Guard). m.0) (group left 1 rules)

-- the answer says whether the guard lists form a complete decision tree
abbrev pub IsTree : List (ℕ × List Guard) → Tree → Type 0
IsTree ms Whole = FormTree ms
IsTree ms Gap = FormTree ms → ⊥
