use Rattle.std.proofs.Common.{◌+◌, ◌≤◌, ap, ◌∙◌, subst, length, arith}
use Rattle.rule_code.specs.Blocks.{AddsCode}
use Rattle.rule_code.specs.Lengths.{term_length}
use Rattle.rule_code.specs.Programs.{Program}
use Rattle.rule_code.proofs.Placed.{block_adds}
use Rattle.rule_code.proofs.Lengths.{body_length}
use Rattle.rule_code.proofs.Grown.{first_numbers_count, program_kept, side_added}
use Rattle.bank_machine.proofs.machine.Machine.with_term.Goals as goal

pub emit_body-requires-clause-variables : goal.emit_body-requires-clause-variables
emit_body-requires-clause-variables c n o = omega (
  arith,
  c.requires.variables n o,
  ap length c.deref.ensures.value,
  ap length c.in_ok-homes.ensures,
  first_numbers_count c.args.variables,
)

pub invariant_of-made : goal.invariant_of-made
invariant_of-made c = program_kept c.self.inside.spec.now c.self.inside.code c.emit_body.new.code
    c.self.inside.rules.items c.self.inside.trees.items
    (block_adds c.self.inside.code c.emit_body.new.code c.in_ok-emit_body.ensures) c.self.invariant

pub returns-clause-side : goal.returns-clause-side
returns-clause-side c = side_added c.self.inside.spec.now c.self.inside.code c.emit_body.new.code
    c.len-place.result c.args.variables c.deref.result.now c.args.term.now c.len-place.ensures
    (c.deref.ensures.value ∙ c.in_ok-homes.ensures) c.in_ok-emit_body.ensures

pub returns-clause-adds : goal.returns-clause-adds
returns-clause-adds c = subst (λ (p : Program). AddsCode p.code c.emit_body.new.code) c.self.view_is
    (block_adds c.self.inside.code c.emit_body.new.code c.in_ok-emit_body.ensures)

pub returns-clause-few : goal.returns-clause-few
returns-clause-few c = subst (λ (p : Program). length c.emit_body.new.code ≤ length p.code + term_length
    c.args.term.now) c.self.view_is (body_length c.self.inside.spec.now.sig c.deref.result.now c.args.term.now
    c.args.variables c.self.inside.code c.emit_body.new.code c.in_ok-emit_body.ensures)
