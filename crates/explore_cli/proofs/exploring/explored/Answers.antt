use Rattle.std.proofs.Common.{subst}
use Rattle.spec_core.specs.declared.records.Spec.{Spec}
use Rattle.explore_cli.specs.Statuses.{IsStatusOf}
use Rattle.explore_cli.proofs.exploring.explored.Goals as goal

pub returns : goal.returns
returns g c =
    let found = c.in_ok-found.found in
    record {
      text = found.text.items;
      raw = found.accepted.raw;
      new = found.accepted.admitted.spec;
      report_text = found.report_text.items;
      report = found.report;
      explores = c.in_ok-found.ensures;
      is_written = c.chosen-text.ensures;
      gives = subst (λ (s : Spec). IsStatusOf s found.report c.status_of-status.result)
          c.spec.ensures.is c.status_of-status.ensures;
    }
