use Rattle.std.proofs.Common.{◌≡◌, Some, ap, sym, ◌∙◌, subst, arith, get_or}
use Rattle.std.specs.Prelude.{slice_get}
use Rattle.std.proofs.lemmas.Option.{slice_get-get_or}
use Rattle.term_core.specs.Tree.{var, app, trees_of}
use Rattle.term_core.specs.View.{tree_of}
use Rattle.rule_code.proofs.Homes.{repeats_stay, repeat_added, repeats_are, var_number, no_var}
use Rattle.rule_code.proofs.Matches.{some_same}
use Rattle.rule_code.proofs.left_sides.find_repeats.Goals as goal
use Rattle.rule_code.proofs.left_sides.find_repeats.Goals.{in-App, in-Var+then-first-slot+in_ok-push-in-Var}
use Rattle.rule_code.proofs.left_sides.find_repeats.Goals.{in-Var+else-first-slot}

pub loop-slot-preserved : goal.loop-slot-preserved
loop-slot-preserved c =
    let all = c.args.patterns.now in
    let homes = c.args.homes.now in
    let i = c.loop-slot.slot in
    elim c.match-at.branch [
      | in-App w ↦
          let e : app w.in-App.field-0.0 (trees_of w.in-App.field-1) ≡ c.at.result.now = ap tree_of
          (sym w.in-App.is) ∙ c.behind-patterns.view_is in
          rw w.repeats-is (repeats_stay all homes i c.loop-slot.repeats.items
          (λ n h at home. absurd
          (no_var n _ _ (e ∙ some_same (slice_get all i) c.at.result.now (var n) c.at.ensures at)))
          c.loop-slot.invariant)
      | in-Var+then-first-slot+in_ok-push-in-Var w ↦
          let n = w.in-Var.var.0 in
          let at : slice_get all i ≡ Some (var n) = c.at.ensures
          ∙ ap Some (sym (ap tree_of (sym w.in-Var.is) ∙ c.behind-patterns.view_is)) in
          let home : slice_get homes n ≡ Some (get_or homes n 0) = slice_get-get_or homes n 0
          (c.requires.variables i n at) in
          rw w.repeats-is (repeat_added all homes i n (get_or homes n 0) c.loop-slot.repeats.items
          w.push.new.self.items c.requires.homes at home w.in_ok-push-in-Var.ensures.items c.loop-slot.invariant)
      | in-Var+else-first-slot w ↦
          let n = w.in-Var.var.0 in
          let at : slice_get all i ≡ Some (var n) = c.at.ensures
          ∙ ap Some (sym (ap tree_of (sym w.in-Var.is) ∙ c.behind-patterns.view_is)) in
          let home : slice_get homes n ≡ Some (get_or homes n 0) = slice_get-get_or homes n 0
          (c.requires.variables i n at) in
          rw w.repeats-is (repeats_stay all homes i c.loop-slot.repeats.items (λ m h at' home'.
          let q = var_number n m (some_same (slice_get all i) (var n) (var m) at at') in
          sym (some_same (slice_get homes n) (get_or homes n 0) h home
          (subst (λ z. slice_get homes z ≡ Some h) (sym q) home')) ∙ w.if-first-slot.false) c.loop-slot.invariant)
    ]

pub returns : goal.returns
returns c = repeats_are c.args.patterns.now c.args.homes.now c.loop-slot.slot c.loop-slot.repeats.items
    (omega (arith, c.loop-slot-test.false, c.len-slot-end.ensures)) c.loop-slot.invariant
