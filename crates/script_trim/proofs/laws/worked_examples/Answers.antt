use Rattle.sample_specs.specs.SumOrder.{AboveInSums}
use Rattle.clause_core.proofs.OneRelation.{one_relation}
use Rattle.script_trim.proofs.Fixed.{leads, trims}
use Rattle.script_trim.proofs.Worked.{accepted, accepted_cut, closes, sorted}
use Rattle.script_trim.proofs.laws.worked_examples.Goals as goal

pub returns : goal.returns
returns c =
    let one = one_relation AboveInSums in
    let fine = sorted c.worked_examples.ensures.well_sorted in
    record {
      accepted = accepted;
      closes = closes one fine;
      accepted_cut = accepted_cut one fine;
      leads =
          leads one fine;
      trims = trims one fine;
    }
