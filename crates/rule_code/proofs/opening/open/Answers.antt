use Rattle.std.proofs.Common.{◌++◌, ap, sym, ◌∙◌, arith}
use Rattle.term_core.specs.View.{tree_of}
use Rattle.rule_code.proofs.Opened.{opening_begins, opening_passes, opening_opens, opening_ends, passes_falls}
use Rattle.rule_code.proofs.Opened.{opens_falls}
use Rattle.rule_code.proofs.opening.open.Goals as goal
use Rattle.rule_code.proofs.opening.open.Goals.{in-Var, in-App+in_ok-push-in-App+in_ok-add-in-App}

pub loop-slot-init : goal.loop-slot-init
loop-slot-init c = opening_begins c.args.patterns.now c.add.new.self c.new-tests.result.items
    (c.in_ok-add.ensures ∙ ap (λ z. z ++ c.args.patterns.now) c.new-opened.ensures) c.new-tests.ensures.items

pub loop-slot-smaller : goal.loop-slot-smaller
loop-slot-smaller c =
    elim c.match-pattern.branch [
      | in-Var w ↦ rw w.opened-is (passes_falls c.loop-slot.opened c.loop-slot.slot c.at-pattern.result.now
          c.at-pattern.ensures)
      | in-App+in_ok-push-in-App+in_ok-add-in-App w ↦ opens_falls c.loop-slot.opened c.match-pattern.opened
          c.loop-slot.slot w.in-App.sym.0 w.in-App.args c.at-pattern.result.now
          (omega (arith, c.loop-slot-test.true, c.len.ensures)) c.at-pattern.ensures
          (ap tree_of (sym w.in-App.is) ∙ c.pattern.view_is) (w.opened-is ∙ w.in_ok-add-in-App.ensures
          ∙ ap (λ z. c.loop-slot.opened ++ z) w.as_slice.ensures)
    ]

pub loop-slot-preserved : goal.loop-slot-preserved
loop-slot-preserved c =
    elim c.match-pattern.branch [
      | in-Var w ↦ rw (
        w.tests-is,
        w.opened-is,
      ) (opening_passes c.args.patterns.now c.loop-slot.opened c.loop-slot.slot _
          c.loop-slot.tests.items c.at-pattern.result.now c.at-pattern.ensures (ap tree_of (sym w.in-Var.is)
          ∙ c.pattern.view_is) c.loop-slot.invariant)
      | in-App+in_ok-push-in-App+in_ok-add-in-App w ↦ rw w.tests-is
          (opening_opens c.args.patterns.now c.loop-slot.opened c.match-pattern.opened c.loop-slot.slot
          w.in-App.sym.0 w.len-in-App.result w.in-App.args c.loop-slot.tests.items w.push.new.self.items
          c.at-pattern.result.now c.at-pattern.ensures (ap tree_of (sym w.in-App.is) ∙ c.pattern.view_is)
          w.len-in-App.ensures (w.opened-is ∙ w.in_ok-add-in-App.ensures
          ∙ ap (λ z. c.loop-slot.opened ++ z) w.as_slice.ensures) w.in_ok-push-in-App.ensures.items
          c.loop-slot.invariant)
    ]

pub returns : goal.returns
returns c = opening_ends c.args.patterns.now c.loop-slot.opened c.loop-slot.slot c.loop-slot.tests.items
    (omega (arith, c.loop-slot-test.false, c.len.ensures)) c.loop-slot.invariant
