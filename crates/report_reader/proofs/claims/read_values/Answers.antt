use Rattle.std.proofs.Common.{◌<◌, ◌∷◌, [], ℕ, List, ap, sym, subst, length, length-append, arith}
use Rattle.std.proofs.lemmas.Result.{err_from_is_err_and}
use Rattle.term_core.specs.Tree.{Tree}
use Rattle.report_reader.specs.Answers.{TellsFault}
use Rattle.report_reader.specs.Behind.{IsBehind}
use Rattle.report_reader.specs.Stages.{refuting}
use Rattle.report_reader.proofs.Moves.{value_moved}
use Rattle.report_reader.proofs.Stops.{refuting_stops, no_value}
use Rattle.report_reader.proofs.claims.read_values.Goals as goal

pub returns-in_err-line : goal.returns-in_err-line
returns-in_err-line c =
    let a = c.args in
    let k = c.loop-value in
    let asked : length k.values < a.count = omega (arith, k.invariant.many, c.loop-value-test.true) in
    let p = err_from_is_err_and c.from_residual.result c.from_residual.ensures.1 in
    λ text report goal index size b. rw (
      p.1,
      p.2,
    ) (refuting_stops a.sig.now c.requires.declared text k.lines report goal index a.count k.values
    a.start c.in_err-line.field-0.0 (k.invariant.behind text report goal index size b) asked size
    c.in_err-line.ensures)

pub returns-in_default : goal.returns-in_default
returns-in_default c =
    let a = c.args in
    let k = c.loop-value in
    let w = c.in_ok-line in
    let asked : length k.values < a.count = omega (arith, k.invariant.many, c.loop-value-test.true) in
    let none = rw c.in_default.is at c.in_ok-value.ensures in
    λ text report goal index size b. subst (λ e. TellsFault a.sig.now text e) (sym c.fault.ensures)
    (no_value a.sig.now c.requires.declared text k.lines report w.line.now w.behind w.ensures.0 goal index
    a.count k.values (k.invariant.behind text report goal index size b) asked none)

pub loop-value-preserved : goal.loop-value-preserved
loop-value-preserved c =
    let a = c.args in
    let k = c.loop-value in
    let w = c.in_ok-line in
    let value = c.in-Some.value in
    let asked : length k.values < a.count = omega (arith, k.invariant.many, c.loop-value-test.true) in
    let pushed = c.in_ok-push.ensures.pushed in
    let found = rw c.in-Some.is at c.in_ok-value.ensures in
    record {
      within = omega (arith, w.ensures.0.read, k.invariant.within);
      many = omega (
        arith,
        k.invariant.many,
        ap (λ (vs : List (List ℕ × Tree)). length vs) pushed,
        length-append k.values (value ∷ []),
      );
      behind = λ text report goal index size b.
          subst (λ (vs : List (List ℕ × Tree)). IsBehind a.sig.now text w.behind
          (refuting report goal index a.count vs)) (sym pushed)
          (value_moved a.sig.now text k.lines report goal index a.count k.values w.line.now w.behind value.0
          value.1 (k.invariant.behind text report goal index size b) w.ensures.0 found asked
          (omega (arith, w.ensures.1, size)));
    }
