use Rattle.std.proofs.Common.{sym, subst}
use Rattle.script_trim.specs.Laws.{CutsTrim}
use Rattle.script_trim.specs.Trimmed.{LeadsTo}
use Rattle.script_trim.proofs.trimming.trim.Goals as goal

pub returns-clause-leads : goal.returns-clause-leads
returns-clause-leads g c =
    let report = c.args.report.now in
    subst (λ cs. LeadsTo (g.O.TermOrder.above c.args.admitted.now.order) c.args.admitted.now.spec report
    (record { steps = report.steps; claims = cs })) (sym c.from_vec-claims.ensures) c.in_ok-claims.ensures

pub returns-clause-trims : goal.returns-clause-trims
returns-clause-trims g c =
    let report = c.args.report.now in
    let laws : CutsTrim (g.O.TermOrder.above c.args.admitted.now.order) =
    rw (← c.admitted.view_is) c.cuts_trim.ensures in
    laws.trims c.args.admitted.now.spec report _ c.requires
    (subst (λ cs. LeadsTo (g.O.TermOrder.above c.args.admitted.now.order) c.args.admitted.now.spec report
    (record { steps = report.steps; claims = cs })) (sym c.from_vec-claims.ensures) c.in_ok-claims.ensures)
