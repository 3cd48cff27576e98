use Rattle.std.proofs.Common.{sym, subst}
use Rattle.term_core.proofs.Items.{if_ok_map}
use Rattle.ground_eval.specs.Opened.{Partial, AreFirstValues, IsPart}
use Rattle.ground_eval.proofs.LentBanks.{stand_once}
use Rattle.ground_eval.proofs.over_bank.verdict_part.Goals as goal

pub verdict_part-requires-clause-values : goal.verdict_part-requires-clause-values
verdict_part-requires-clause-values c =
    let v = c.requires.values in
    (v.0, v.1, subst (λ (z : Partial). AreFirstValues z.spec z.goal v.0) (sym c.in_ok-partial.ensures) v.2)

pub returns-clause-part : goal.returns-clause-part
returns-clause-part c =
    let v = c.requires.values in
    if_ok_map c.verdict_part.result _ _
    (λ part h terms stand.
    let one = stand_once c.args.bank.now c.args.fixed.now v.0 terms v.1 stand in
    let first : AreFirstValues c.args.spec.now c.args.goal.now terms =
    subst (λ ts. AreFirstValues c.args.spec.now c.args.goal.now ts) one v.2 in
    subst (λ (z : Partial). IsPart z.spec z.goal terms c.args.budget part) c.in_ok-partial.ensures
    (h terms stand (subst (λ (z : Partial). AreFirstValues z.spec z.goal terms) (sym c.in_ok-partial.ensures) first)))
    c.verdict_part.ensures.part
