use Rattle.std.proofs.Common.{◌≡◌, ◌≤◌, ◌++◌, List, ap, sym, ◌∙◌, subst, length}
use Rattle.std.specs.List.{AllByRecursion}
use Rattle.term_core.specs.declared.ids.SortId.{SortId}
use Rattle.spec_core.specs.Sig.{IsSort}
use Rattle.spec_core.specs.WellSorted.{sorts_of}
use Rattle.open_evaluation.specs.Shifted.{IsNoBoolean}
use Rattle.ground_eval.specs.Opened.{HaveConstants}
use Rattle.ground_eval.proofs.ConstantSorts.{filled_constants, filled_others, filled_in_range, filled_few}
use Rattle.ground_eval.proofs.ConstantSorts.{other_in_range, none_needed}
use Rattle.ground_eval.proofs.open_spec.constant_sorts.Goals as goal

pub returns-in-None-clause-constants : goal.returns-in-None-clause-constants
returns-in-None-clause-constants c = none_needed c.args.vars.now c.new-sorts.result.items c.in-None.ensures

pub returns-in_ok-fill_sorts-in-Some-clause-constants : goal.returns-in_ok-fill_sorts-in-Some-clause-constants
returns-in_ok-fill_sorts-in-Some-clause-constants c =
    let h = c.in_ok-fill_sorts-in-Some.ensures in
    let e : c.fill_sorts.new.sorts.items ≡ h.0 = h.1 ∙ ap (λ xs. xs ++ h.0) c.new-sorts.ensures.items in
    subst (λ (ss : List SortId). HaveConstants (sorts_of c.args.vars.now) ss) (sym e)
    (filled_constants c.in-Some.other c.args.vars.now h.0 h.2)

pub returns-in_ok-fill_sorts-in-Some-clause-no_booleans : goal.returns-in_ok-fill_sorts-in-Some-clause-no_booleans
returns-in_ok-fill_sorts-in-Some-clause-no_booleans c =
    let h = c.in_ok-fill_sorts-in-Some.ensures in
    let e : c.fill_sorts.new.sorts.items ≡ h.0 = h.1 ∙ ap (λ xs. xs ++ h.0) c.new-sorts.ensures.items in
    subst (λ (ss : List SortId). AllByRecursion IsNoBoolean ss) (sym e)
    (filled_others c.in-Some.other c.args.vars.now h.0 c.in-Some.ensures.0 h.2)

pub returns-in_ok-fill_sorts-in-Some-clause-in_range : goal.returns-in_ok-fill_sorts-in-Some-clause-in_range
returns-in_ok-fill_sorts-in-Some-clause-in_range c sig all =
    let h = c.in_ok-fill_sorts-in-Some.ensures in
    let e : c.fill_sorts.new.sorts.items ≡ h.0 = h.1 ∙ ap (λ xs. xs ++ h.0) c.new-sorts.ensures.items in
    let other : IsSort sig c.in-Some.other = other_in_range sig c.args.vars.now c.in-Some.other
    c.in-Some.ensures.1 all c.in-Some.ensures.2 in
    subst (λ (ss : List SortId). AllByRecursion (IsSort sig) ss) (sym e)
    (filled_in_range sig c.in-Some.other c.args.vars.now h.0 other all h.2)

pub returns-in_ok-fill_sorts-in-Some-clause-few : goal.returns-in_ok-fill_sorts-in-Some-clause-few
returns-in_ok-fill_sorts-in-Some-clause-few c =
    let h = c.in_ok-fill_sorts-in-Some.ensures in
    let e : c.fill_sorts.new.sorts.items ≡ h.0 = h.1 ∙ ap (λ xs. xs ++ h.0) c.new-sorts.ensures.items in
    subst (λ (ss : List SortId). length ss ≤ length c.args.vars.now) (sym e)
    (filled_few c.in-Some.other c.args.vars.now h.0 h.2)
