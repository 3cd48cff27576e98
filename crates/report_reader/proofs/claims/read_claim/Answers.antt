use Rattle.std.proofs.Common.{subst}
use Rattle.std.proofs.lemmas.Result.{err_from_is_err_and}
use Rattle.report_reader.specs.Behind.{IsBehind}
use Rattle.report_reader.specs.Stages.{behind_first}
use Rattle.report_reader.proofs.Moves.{proved_whole, refuted_whole}
use Rattle.report_reader.proofs.claims.read_claim.Goals as goal

pub returns-in_err-steps-in-Proved : goal.returns-in_err-steps-in-Proved
returns-in_err-steps-in-Proved c =
    let a = c.args in
    let p = err_from_is_err_and c.from_residual.result c.from_residual.ensures.1 in
    λ text report size b. rw (p.1, p.2) (c.in_err-steps-in-Proved.ensures text report c.in-Proved.goal size
    (subst (λ f. IsBehind a.sig.now text a.at (behind_first report f)) c.in-Proved.is b))

pub returns-in_ok-steps-in-Proved : goal.returns-in_ok-steps-in-Proved
returns-in_ok-steps-in-Proved c =
    let a = c.args in
    let w = c.in_ok-steps-in-Proved in
    λ text report size b.
    let got = w.ensures text report c.in-Proved.goal size
    (subst (λ f. IsBehind a.sig.now text a.at (behind_first report f)) c.in-Proved.is b) in
    proved_whole a.sig.now text w.behind report c.in-Proved.goal c.in-Proved.nodes w.steps got.0 got.1

pub returns-in_err-values-in-Refuted : goal.returns-in_err-values-in-Refuted
returns-in_err-values-in-Refuted c =
    let a = c.args in
    let p = err_from_is_err_and c.from_residual-in_err-values-in-Refuted.result
    c.from_residual-in_err-values-in-Refuted.ensures.1 in
    λ text report size b. rw (p.1, p.2) (c.in_err-values-in-Refuted.ensures text report c.in-Refuted.goal
    c.in-Refuted.index size (subst (λ f. IsBehind a.sig.now text a.at (behind_first report f)) c.in-Refuted.is b))

pub returns-in_ok-values-in-Refuted : goal.returns-in_ok-values-in-Refuted
returns-in_ok-values-in-Refuted c =
    let a = c.args in
    let w = c.in_ok-values-in-Refuted in
    λ text report size b.
    let got = w.ensures text report c.in-Refuted.goal c.in-Refuted.index size
    (subst (λ f. IsBehind a.sig.now text a.at (behind_first report f)) c.in-Refuted.is b) in
    refuted_whole a.sig.now text w.behind report c.in-Refuted.goal c.in-Refuted.index c.in-Refuted.values
    w.values got.0 got.1
