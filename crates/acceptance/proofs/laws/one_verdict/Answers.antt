use Rattle.std.proofs.Common.{◌≡◌}
use Rattle.spec_core.proofs.Findings.{one_first, not_both}
use Rattle.clause_core.proofs.OneRelation.{one_relation}
use Rattle.acceptance.specs.Refusals.{report_tests, Refusal}
use Rattle.acceptance.proofs.NoRefusal.{accepted_clean}
use Rattle.acceptance.proofs.laws.one_verdict.Goals as goal

pub returns : goal.returns
returns g k = λ o.
    let above = g.O.TermOrder.above o in
    let clean = accepted_clean above (one_relation above) in
    record {
      no_refusal = λ spec report fine a. clean spec fine report a;
      not_both = λ spec report line why fine a p.
          not_both (report_tests above spec report) (line, why) (clean spec fine report a) p;
      one_refusal = λ spec report line other why reason p q.
          let e : ◌≡◌ {A = Refusal} (line, why) (other, reason) =
          one_first (report_tests above spec report) (line, why) (other, reason) p q in
          (λ i. (e i).0, λ i. (e i).1);
    }
