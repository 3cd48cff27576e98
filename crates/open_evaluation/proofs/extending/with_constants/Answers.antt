use Rattle.std.proofs.Common.{ap, ◌∙◌, map, length, subst, sym}
use Rattle.spec_core.specs.declared.records.Spec.{Spec}
use Rattle.spec_core.specs.Orders.{IsOrderOf}
use Rattle.spec_core.proofs.ByNumber.{is_order_by_number}
use Rattle.open_evaluation.specs.Shifted.{IsExtended, shifted_rule}
use Rattle.open_evaluation.proofs.MarkedSigs.{is_extended}
use Rattle.open_evaluation.proofs.ShiftedRules.{well_sorted}
use Rattle.open_evaluation.proofs.extending.with_constants.Goals as goal
use Rattle.open_evaluation.proofs.extending.with_constants.Goals.{After-new}

abbrev made : After-new → Spec
made c = record {
  sig = c.in_ok-sig.sig;
  order = c.in_ok-order.order;
  rules = c.in_ok-rules.rules;
  goals = c.new.result;
}

extended : (c : After-new) → IsExtended c.args.spec.now (made c) c.args.sorts.now
extended c =
    let u = length c.args.sorts.now in
    let sig = c.in_ok-sig.ensures.made in
    let rules =
    c.in_ok-rules.ensures
    ∙ ap (λ k. map (shifted_rule k u) c.as_slice.result.now) c.constructors.ensures.count
    ∙ ap (λ rs. map (shifted_rule c.args.spec.now.sig.constructors u) rs) c.as_slice.ensures
    in
    is_extended c.args.spec.now (made c) c.args.sorts.now sig.0 c.requires.fine.signature sig.1 rules c.new.ensures

pub returns-clause-extended : goal.returns-clause-extended
returns-clause-extended c = extended c

pub returns-clause-fine : goal.returns-clause-fine
returns-clause-fine c =
    let sig = c.in_ok-sig.sig in
    let order = subst (λ o. IsOrderOf sig o) (sym c.in_ok-order.ensures) (is_order_by_number sig) in
    well_sorted c.args.spec.now (made c) c.args.sorts.now (extended c) c.requires.fine
    c.in_ok-sig.ensures.declared order
