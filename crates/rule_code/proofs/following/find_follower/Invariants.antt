use Rattle.std.proofs.Common.{◌≡◌, ℕ, ◌<◌, Some}
use Rattle.std.specs.Prelude.{slice_get}
use Rattle.spec_core.specs.declared.records.Rule.{Rule}
use Rattle.spec_core.specs.Gives.{boolean}
use Rattle.rule_code.specs.Tests.{GoesOn}
use Rattle.rule_code.proofs.following.find_follower.Given as goal

abbrev pub invariant-loop-number : goal.invariant-loop-number
invariant-loop-number l = (j : ℕ) (next : Rule) → j < l.number → slice_get l.rules j ≡ Some next →
    next.left ≡ l.rule.left → GoesOn l.asked (boolean l.answer) l.rule.guards next.guards → ⊥
