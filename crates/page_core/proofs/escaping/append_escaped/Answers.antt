use Rattle.std.proofs.Common.{sym, arith}
use Rattle.std.proofs.lemmas.Grind.{common_steps}
use Rattle.std.proofs.lemmas.List.Quantifiers.{position-Some}
use Rattle.page_core.specs.Html.{is_special}
use Rattle.page_core.proofs.FirstSpecial.{escaped_at, escaped_whole}
use Rattle.page_core.proofs.escaping.append_escaped.Goals as goal

pub entity_of-requires : goal.entity_of-requires
entity_of-requires c = (position-Some is_special c.loop-at.rest.now c.in-Some.at 0 (sym c.in-Some.ensures)).1

pub loop-at-preserved : goal.loop-at-preserved
loop-at-preserved c =
    let split = escaped_at c.loop-at.rest.now c.in-Some.at (sym c.in-Some.ensures) in
    grind (arith, common_steps, split)

pub returns : goal.returns
returns c =
    let whole = escaped_whole c.loop-at.rest.now (sym c.in_default.ensures) in
    grind (arith, common_steps, whole)
