-- The numbers of a function's rules.
use Rattle.std.proofs.Common.{◌≡◌, ℕ, List, Some}
use Rattle.std.specs.Prelude.{slice_get}
use Rattle.term_core.specs.Tree.{Tree, Trees, app, instance}
use Rattle.spec_core.specs.declared.records.Rule.{Rule}
use Rattle.spec_core.specs.declared.records.Spec.{Spec}
use Rattle.spec_core.specs.WellSorted.{IsWellSorted}
use Rattle.spec_core.specs.RuleTables.{numbers_of}
use Rattle.spec_core.proofs.RuleTables.{instance_head, rule_has_place}

-- a rule whose left side matches a call is one of the function's
pub match_listed : (spec : Spec) → IsWellSorted spec → (f k : ℕ) (rule : Rule) (xs : List Tree) (vs : Trees) →
    slice_get spec.rules k ≡ Some rule → instance xs rule.left ≡ app f vs →
    (j : ℕ) × (slice_get (numbers_of f 0 spec.rules) j ≡ Some k)
match_listed spec fine f k rule xs vs at is =
    rule_has_place f spec.rules k rule at (instance_head spec.sig rule.left f xs vs (fine.rules k rule at).left is)
