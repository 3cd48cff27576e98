use Rattle.sample_specs.specs.SumOrder.{AboveInSums}
use Rattle.clause_core.proofs.OneRelation.{one_relation}
use Rattle.acceptance.proofs.RefusedReports.{accepted, behind_open, circular, step_too_many, unfinished, claimed_twice}
use Rattle.acceptance.proofs.RefusedReports.{case_left_out, by_itself, by_open, refuted, not_refuted, exchanged_names}
use Rattle.acceptance.proofs.RefusedReports.{unknown_goal}
use Rattle.acceptance.proofs.UnitProof.{by_proved}
use Rattle.acceptance.proofs.laws.worked_examples.Goals as goal

pub returns : goal.returns
returns c =
    let numbers = c.worked_examples-2.ensures in
    let whole = c.worked_examples.ensures.naturals_are_admitted.whole in
    let relation = one_relation AboveInSums in
    let fine = numbers.well_sorted in
    record {
      accepted = accepted;
      behind_open = behind_open;
      by_proved = by_proved;
      circular = circular relation fine;
      step_too_many = step_too_many relation fine;
      unfinished = unfinished relation fine;
      claimed_twice = claimed_twice relation fine;
      case_left_out = case_left_out relation fine;
      by_itself = by_itself relation fine;
      by_open = by_open relation fine;
      refuted = refuted relation fine numbers.verdict_fails;
      not_refuted = not_refuted relation fine c.one_value.ensures numbers.apart whole;
      exchanged_names = exchanged_names;
      unknown_goal = unknown_goal;
    }
