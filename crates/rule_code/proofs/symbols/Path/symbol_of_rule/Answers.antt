use Rattle.std.proofs.Common.{◌≡◌, Some, refl, ap, ◌∙◌, arith}
use Rattle.std.specs.Prelude.{slice_get}
use Rattle.std.proofs.lemmas.Option.{slice_get_within}
use Rattle.spec_core.specs.declared.records.Rule.{Rule}
use Rattle.rule_code.specs.Symbols.{symbol_in}
use Rattle.rule_code.proofs.Matches.{some_same}
use Rattle.rule_code.proofs.Ranges.{item_listed}
use Rattle.rule_code.proofs.symbols.Path.symbol_of_rule.Goals as goal

pub returns-in-None : goal.returns-in-None
returns-in-None c rule at = absurd (omega (
  arith,
  slice_get_within c.args.rules.now c.args.number rule at,
  c.in-None.ensures.lookup.3,
))

pub returns-in-Some : goal.returns-in-Some
returns-in-Some c rule at =
    let there : slice_get c.args.rules.now c.args.number ≡ Some c.in-Some.rule.now = item_listed
    c.args.rules.now c.args.rules.now c.args.number c.in-Some.rule.now refl c.in-Some.ensures.lookup.3.0
    c.in-Some.ensures.lookup.1 in
    let same : c.in-Some.rule.now ≡ rule = some_same (slice_get c.args.rules.now c.args.number)
    c.in-Some.rule.now rule there at in
    c.symbol_in.ensures ∙ ap (λ (r : Rule). symbol_in c.args.self.now r) same
