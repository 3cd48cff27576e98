-- A raw specification has at most one numbering, and stands for at most one.
use Rattle.std.proofs.Common.{◌≡◌, sym, subst}
use Rattle.std.specs.List.{AllZip}
use Rattle.spec_core.specs.declared.records.Spec.{Spec}
use Rattle.spec_core.specs.Sig.{Sig}
use Rattle.spec_grammar.specs.declared.raw.RawSpec.{RawSpec}
use Rattle.sort_check.specs.Rules.{RuleStands}
use Rattle.sort_check.specs.Goals.{GoalStands}
use Rattle.sort_check.specs.Orders.{OrderStands}
use Rattle.sort_check.specs.StandsFor.{IsNumbered, StandsFor}
use Rattle.sort_check.proofs.Pairs.{pairs_one}
use Rattle.sort_check.proofs.OneSignature.{one_signature}
use Rattle.sort_check.proofs.OneRule.{one_rule}
use Rattle.sort_check.proofs.OneGoal.{one_goal}
use Rattle.sort_check.proofs.Precedences.{one_order}

pub one_numbering : (raw : RawSpec) (s t : Spec) → IsNumbered raw s → IsNumbered raw t → s ≡ t
one_numbering raw s t is too =
    let sig : s.sig ≡ t.sig = one_signature raw s.sig t.sig is.declared is.signature too.signature in
    let rules : s.rules ≡ t.rules = pairs_one (RuleStands s.sig) (one_rule s.sig is.declared) raw.rules s.rules
    t.rules is.rules (subst (λ (g : Sig). AllZip (RuleStands g) raw.rules t.rules) (sym sig) too.rules) in
    let goals : s.goals ≡ t.goals = pairs_one (GoalStands s.sig) (one_goal s.sig is.declared) raw.goals s.goals
    t.goals is.goals (subst (λ (g : Sig). AllZip (GoalStands g) raw.goals t.goals) (sym sig) too.goals) in
    let order : s.order ≡ t.order = one_order s.sig raw s.order t.order is.order
    (subst (λ (g : Sig). OrderStands raw g t.order) (sym sig) too.order) in
    λ i. record { sig = sig i; order = order i; rules = rules i; goals = goals i }

pub one_spec : (raw : RawSpec) (s t : Spec) → StandsFor raw s → StandsFor raw t → s ≡ t
one_spec raw s t is too = one_numbering raw s t is.numbered too.numbered
