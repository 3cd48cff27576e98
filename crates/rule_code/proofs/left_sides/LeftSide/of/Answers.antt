use Rattle.std.proofs.Common.{◌≡◌, ap, sym, ◌∙◌, subst, length, arith}
use Rattle.term_core.specs.Tree.{app, trees_of}
use Rattle.term_core.specs.View.{tree_of}
use Rattle.spec_core.specs.declared.records.Rule.{Rule}
use Rattle.rule_code.specs.Homes.{AreHomes, AreRepeats}
use Rattle.rule_code.proofs.Homes.{each_has_slot, slots_within}
use Rattle.rule_code.proofs.left_sides.LeftSide.of.Goals as goal

pub find_homes-requires : goal.find_homes-requires
find_homes-requires c n lt =
    let e : c.args.rule.now.left ≡ app c.in-App.field-0.0 (trees_of c.as_slice.result.now) = sym
    (ap tree_of (sym c.in-App.is) ∙ ap (λ (r : Rule). r.left) c.rule.view_is)
    ∙ ap (λ z. app c.in-App.field-0.0 (trees_of z)) (sym c.as_slice.ensures) in
    each_has_slot c.args.sig.now c.args.rule.now c.requires _ _ c.in_ok-tests-in-App.patterns _ e
    c.in_ok-tests-in-App.ensures n
    (omega (arith, lt, c.len.ensures, ap (λ (r : Rule). length r.vars) c.rule.view_is))

pub find_repeats-requires-clause-variables : goal.find_repeats-requires-clause-variables
find_repeats-requires-clause-variables c s n at =
    let e : c.args.rule.now.left ≡ app c.in-App.field-0.0 (trees_of c.as_slice.result.now) = sym
    (ap tree_of (sym c.in-App.is) ∙ ap (λ (r : Rule). r.left) c.rule.view_is)
    ∙ ap (λ z. app c.in-App.field-0.0 (trees_of z)) (sym c.as_slice.ensures) in
    let w = slots_within c.args.sig.now c.args.rule.now c.requires _ _ c.in_ok-tests-in-App.patterns _ e
    c.in_ok-tests-in-App.ensures s n at in
    omega (
      arith,
      w,
      c.len.ensures,
      ap (λ (r : Rule). length r.vars) c.rule.view_is,
      c.in_ok-homes-in-App.ensures.counted,
      ap length c.deref.ensures.value,
    )

pub returns : goal.returns
returns c =
    let e : c.args.rule.now.left ≡ app c.in-App.field-0.0 (trees_of c.as_slice.result.now) = sym
    (ap tree_of (sym c.in-App.is) ∙ ap (λ (r : Rule). r.left) c.rule.view_is)
    ∙ ap (λ z. app c.in-App.field-0.0 (trees_of z)) (sym c.as_slice.ensures) in
    record {
      function = c.in-App.field-0.0;
      patterns = c.as_slice.result.now;
      all = c.in_ok-tests-in-App.patterns;
      is = e;
      opens = c.in_ok-tests-in-App.ensures;
      homes = subst (λ n. AreHomes c.in_ok-tests-in-App.patterns n c.in_ok-homes-in-App.homes.items)
          (c.len.ensures ∙ ap (λ (r : Rule). length r.vars) c.rule.view_is) c.in_ok-homes-in-App.ensures;
      repeats = subst (λ hs. AreRepeats c.in_ok-tests-in-App.patterns hs c.in_ok-repeats-in-App.repeats.items)
          c.deref.ensures.value c.in_ok-repeats-in-App.ensures;
      variables = slots_within c.args.sig.now c.args.rule.now c.requires _ _ c.in_ok-tests-in-App.patterns _ e
          c.in_ok-tests-in-App.ensures;
      width = c.len-in-App.ensures;
    }
