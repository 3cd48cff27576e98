use Rattle.std.proofs.Common.{◌<◌, ◌∷◌, [], List, Err, ap, sym, ◌∙◌, subst, length, length-append, arith}
use Rattle.std.proofs.lemmas.Result.{err_from_is_err_and}
use Rattle.clause_core.specs.declared.steps.Step.{Step}
use Rattle.report_reader.specs.Answers.{TellsFault}
use Rattle.report_reader.specs.Behind.{IsBehind}
use Rattle.report_reader.specs.Stages.{proving}
use Rattle.report_reader.proofs.Moves.{step_moved}
use Rattle.report_reader.proofs.Stops.{proving_stops, no_step}
use Rattle.report_reader.proofs.claims.read_steps.Goals as goal

pub returns-in_err-line : goal.returns-in_err-line
returns-in_err-line c =
    let a = c.args in
    let k = c.loop-node in
    let asked : length k.steps < a.nodes = omega (arith, k.invariant.many, c.loop-node-test.true) in
    let p = err_from_is_err_and c.from_residual.result c.from_residual.ensures.1 in
    λ text report goal size b. rw (p.1, p.2) (proving_stops a.sig.now c.requires.declared text k.lines report
    goal a.nodes k.steps a.start c.in_err-line.field-0.0 (k.invariant.behind text report goal size b) asked
    size c.in_err-line.ensures)

pub returns-in-Err-NotAStep : goal.returns-in-Err-NotAStep
returns-in-Err-NotAStep c =
    let a = c.args in
    let k = c.loop-node in
    let w = c.in_ok-line in
    let asked : length k.steps < a.nodes = omega (arith, k.invariant.many, c.loop-node-test.true) in
    let fault = c.in-Err-NotAStep.is ∙ ap Err c.in-Err-NotAStep.field-0-is in
    let none = c.read_step.ensures.no_step fault in
    λ text report goal size b.
    subst (λ e. TellsFault a.sig.now text e) (sym c.fault.ensures)
    (no_step a.sig.now c.requires.declared text k.lines report w.line.now w.behind w.ensures.0 goal a.nodes k.steps
    (k.invariant.behind text report goal size b) asked none)

pub loop-node-preserved : goal.loop-node-preserved
loop-node-preserved c =
    let a = c.args in
    let k = c.loop-node in
    let w = c.in_ok-line in
    let step = c.in-Ok.step in
    let asked : length k.steps < a.nodes = omega (arith, k.invariant.many, c.loop-node-test.true) in
    let pushed = c.in_ok-push.ensures.pushed in
    let found = rw c.in-Ok.is at c.read_step.ensures.ok in
    record {
      within = omega (arith, w.ensures.0.read, k.invariant.within);
      many = omega (
        arith,
        k.invariant.many,
        ap (λ (ts : List Step). length ts) pushed,
        length-append k.steps (step ∷ []),
      );
      behind = λ text report goal size b.
          subst (λ (ts : List Step). IsBehind a.sig.now text w.behind (proving report goal a.nodes ts)) (sym pushed)
          (step_moved a.sig.now text k.lines report goal a.nodes k.steps w.line.now w.behind step
          (k.invariant.behind text report goal size b) w.ensures.0 found asked (omega (arith, w.ensures.1, size)));
    }
