use Rattle.std.proofs.Common.{◌≡◌, ap, sym, ◌∙◌, subst, arith}
use Rattle.spec_core.specs.declared.records.Spec.{Spec}
use Rattle.spec_core.specs.declared.records.Goal.{Goal}
use Rattle.spec_core.specs.WellSorted.{GoalIsSorted}
use Rattle.rule_code.specs.Lengths.{rules_length}
use Rattle.open_evaluation.proofs.ShiftedRules.{shifted_goal_sorted}
use Rattle.ground_eval.specs.Opened.{IsOpened}
use Rattle.ground_eval.proofs.parts.PartialGoal.new.Goals as goal

pub compile_goal-requires : goal.compile_goal-requires
compile_goal-requires c =
    let o = c.requires.opened in
    let g : GoalIsSorted c.args.opened.now.spec.sig c.args.opened.now.goal = subst
    (λ (x : Goal). GoalIsSorted c.args.opened.now.spec.sig x) (sym o.same)
    (shifted_goal_sorted c.args.spec.now c.args.opened.now.spec o.sorts o.extends.more
    c.requires.fine.signature c.args.goal.now (c.requires.fine.goals c.requires.listed.0 c.args.goal.now
    c.requires.listed.1)) in
    subst (λ (s : Spec). GoalIsSorted s.sig c.args.opened.now.goal) (sym c.in_ok-machine.ensures.spec) g

pub invariant_of-result : goal.invariant_of-result
invariant_of-result c =
    let spec : c.in_ok-machine-2.machine.spec ≡ c.args.opened.now.spec = c.in_ok-machine-2.ensures.spec
    ∙ c.in_ok-machine.ensures.spec in
    record {
      opened = subst (λ (s : Spec). IsOpened c.args.spec.now c.args.goal.now s c.args.opened.now.goal)
          (sym spec) c.requires.opened;
      prepared = c.in_ok-machine-2.ensures.code;
      first = c.constructors.ensures.count;
      past = c.constructors-2.ensures.count ∙ ap (λ (s : Spec). s.sig.constructors) (sym spec);
      short = omega (
        arith,
        c.in_ok-machine.ensures.few,
        c.in_ok-machine-2.ensures.few,
        ap (λ (s : Spec). rules_length s.rules) spec,
      );
    }
