use Rattle.std.proofs.Common.{◌≡◌, ◌∙◌, List, ℕ, Some, ap, subst, Vec, Global}
use Rattle.clause_core.specs.declared.reports.Claim.{Claim}
use Rattle.reply_lines.specs.Lines.{load_lines}
use Rattle.spike_cli.specs.Loads.{IsLoad, SomeReport}
use Rattle.spike_cli.proofs.LoadedGoals.{if_ok_more, load_told}
use Rattle.spike_cli.proofs.loading.lines.Goals as goal

pub returns : goal.returns
returns c =
    let goals = c.args.goals in
    let spec = c.in_ok-accepted.accepted.admitted.spec in
    let bytes = c.bytes.result.now in
    let told : SomeReport spec c.in_ok-sink.sink = c.in_ok-sink.ensures in
    let same : Some c.in_ok-sink.sink ≡ Some bytes = c.bytes.ensures in
    let equal : c.in_ok-sink.sink ≡ bytes = cc in
    let some : SomeReport spec bytes = subst (λ (b : List ℕ). SomeReport spec b) equal told in
    if_ok_more (λ (t : Vec ℕ Global). t.items ≡ load_lines goals c.as_slice.result.now)
    (λ (t : Vec ℕ Global). IsLoad goals t.items)
    (λ t is. load_told c.one_report.ensures goals spec bytes c.in_ok-report.report
    c.in_ok-accepted.ensures.is c.in_ok-accepted.ensures.reported.fine some
    c.in_ok-report.ensures t.items
    (is ∙ ap (λ (cs : List Claim). load_lines goals cs) c.as_slice.ensures)) c.load_lines.result
    c.load_lines.ensures
