use Rattle.std.proofs.Common.{ℕ, sym, ◌∙◌, subst, List, codes}
use Rattle.std.proofs.lemmas.Result.{err_from_is_err_and}
use Rattle.std.proofs.lemmas.Slice.Eq.{bytes_eq-Decides}
use Rattle.clause_core.specs.declared.reports.Claim.{Claim}
use Rattle.clause_core.specs.declared.reports.Report.{Report}
use Rattle.proof_script.proofs.LineParts.{empty_is, not_empty}
use Rattle.proof_script.proofs.NextWords.{no_match}
use Rattle.report_reader.specs.Answers.{TellsFault}
use Rattle.report_reader.specs.Behind.{IsBehind}
use Rattle.report_reader.specs.Lines.{IsNext}
use Rattle.report_reader.specs.Stages.{between}
use Rattle.report_reader.proofs.Moves.{first_moved, fewer_left}
use Rattle.report_reader.proofs.Stops.{stops, no_first, whole_report, follows_last}
use Rattle.report_reader.proofs.reports.read_report.Goals as goal

pub returns-in_err-steps : goal.returns-in_err-steps
returns-in_err-steps c =
    let p = err_from_is_err_and c.from_residual.result c.from_residual.ensures.1 in
    rw (p.1, p.2) (c.in_err-steps.ensures c.args.sig.now c.requires)

pub returns-in_err-line : goal.returns-in_err-line
returns-in_err-line c =
    let k = c.loop-claims in
    let so_far : Report = record { steps = c.in_ok-steps.steps; claims = k.claims } in
    let p = err_from_is_err_and c.from_residual-in_err-line.result c.from_residual-in_err-line.ensures.1 in
    rw (p.1, p.2) (stops c.args.sig.now c.requires c.args.bytes.now k.lines (between so_far) k.invariant
    c.in_err-line.field-0.0 tt c.in_err-line.ensures)

pub returns-then-is_empty : goal.returns-then-is_empty
returns-then-is_empty c =
    let k = c.loop-claims in
    let w = c.in_ok-line in
    let so_far : Report = record { steps = c.in_ok-steps.steps; claims = k.claims } in
    let same = (bytes_eq-Decides w.line.now c.as_slice.result.now).0 (sym c.if-eq.ensures) ∙ c.as_slice.ensures in
    let next : IsNext k.lines (codes "done") w.behind = subst (λ (z : List ℕ). IsNext k.lines z w.behind) same
    w.ensures in
    whole_report c.args.sig.now c.requires c.args.bytes.now k.lines so_far w.behind k.invariant next
    (empty_is w.behind.rest.now c.if-is_empty.ensures)

pub returns-then-eq : goal.returns-then-eq
returns-then-eq c =
    let k = c.loop-claims in
    let w = c.in_ok-line in
    let so_far : Report = record { steps = c.in_ok-steps.steps; claims = k.claims } in
    let same = (bytes_eq-Decides w.line.now c.as_slice.result.now).0 (sym c.if-eq.ensures) ∙ c.as_slice.ensures in
    let next : IsNext k.lines (codes "done") w.behind = subst (λ (z : List ℕ). IsNext k.lines z w.behind) same
    w.ensures in
    subst (λ e. TellsFault c.args.sig.now c.args.bytes.now e) (sym c.fault.ensures)
    (follows_last c.args.sig.now c.requires c.args.bytes.now k.lines so_far w.behind k.invariant next
    (not_empty w.behind.rest.now c.is_empty.result c.is_empty.ensures c.if-is_empty.false))

pub returns-in_default : goal.returns-in_default
returns-in_default c =
    let k = c.loop-claims in
    let w = c.in_ok-line in
    let so_far : Report = record { steps = c.in_ok-steps.steps; claims = k.claims } in
    let none = (rw c.in_default.is at c.in_ok-first.ensures) c.args.sig.now c.requires in
    subst (λ e. TellsFault c.args.sig.now c.args.bytes.now e) (sym c.fault-in_default.ensures)
    (no_first c.args.sig.now c.requires c.args.bytes.now k.lines so_far w.line.now w.behind w.ensures
    k.invariant (λ e. no_match w.line.now c.as_slice.result.now c.if-eq.ensures (e ∙ sym c.as_slice.ensures)) none)

pub returns-in_err-claim : goal.returns-in_err-claim
returns-in_err-claim c =
    let k = c.loop-claims in
    let w = c.in_ok-line in
    let so_far : Report = record { steps = c.in_ok-steps.steps; claims = k.claims } in
    let found = (rw c.in-Some.is at c.in_ok-first.ensures) c.args.sig.now in
    let p = err_from_is_err_and c.from_residual-in_err-claim.result c.from_residual-in_err-claim.ensures.1 in
    rw (p.1, p.2) (c.in_err-claim.ensures c.args.bytes.now so_far k.invariant.read
    (first_moved c.args.sig.now c.args.bytes.now k.lines so_far w.line.now w.behind c.in-Some.first
    k.invariant w.ensures found))

pub loop-claims-smaller : goal.loop-claims-smaller
loop-claims-smaller c =
    let k = c.loop-claims in
    let w = c.in_ok-line in
    let so_far : Report = record { steps = c.in_ok-steps.steps; claims = k.claims } in
    let found = (rw c.in-Some.is at c.in_ok-first.ensures) c.args.sig.now in
    let got = c.in_ok-claim.ensures c.args.bytes.now so_far k.invariant.read
    (first_moved c.args.sig.now c.args.bytes.now k.lines so_far w.line.now w.behind c.in-Some.first
    k.invariant w.ensures found) in
    fewer_left c.args.sig.now c.args.bytes.now k.lines c.in_ok-claim.next so_far c.in_ok-claim.claim k.invariant got

pub loop-claims-preserved : goal.loop-claims-preserved
loop-claims-preserved c =
    let k = c.loop-claims in
    let w = c.in_ok-line in
    let so_far : Report = record { steps = c.in_ok-steps.steps; claims = k.claims } in
    let found = (rw c.in-Some.is at c.in_ok-first.ensures) c.args.sig.now in
    let got = c.in_ok-claim.ensures c.args.bytes.now so_far k.invariant.read
    (first_moved c.args.sig.now c.args.bytes.now k.lines so_far w.line.now w.behind c.in-Some.first
    k.invariant w.ensures found) in
    subst (λ (cs : List Claim). IsBehind c.args.sig.now c.args.bytes.now c.in_ok-claim.next
    (between (record { steps = c.in_ok-steps.steps; claims = cs }))) (sym c.in_ok-push.ensures.pushed) got
