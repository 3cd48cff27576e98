use Rattle.std.proofs.Common.{◌<◌, ap, refl, arith, length}
use Rattle.std.proofs.lemmas.Option.{slice_get_read}
use Rattle.clause_core.specs.declared.answers.Children.{Children}
use Rattle.block_steps.proofs.ChildNumbers.{all_children}
use Rattle.script_trim.proofs.given_cuts.nodes_before.Goals as goal

pub overflow_add-before : goal.overflow_add-before
overflow_add-before c =
    let lt : c.loop-number.number < length c.args.links.now = omega (arith, c.loop-number-test.true, c.requires.there)
    in
    let at = slice_get_read c.args.links.now (length c.args.links.now) c.loop-number.number c.index-links-number.result
    refl lt c.index-links-number.is in
    omega (
      arith,
      c.loop-number.invariant,
      all_children c.args.links.now c.loop-number.number
          c.index-links-number.result at,
      c.requires.whole.few,
      c.requires.whole.counted,
      c.len-before.ensures,
      ap
          (λ (m : Children). length m.clauses) c.index-links-number.is,
    )
