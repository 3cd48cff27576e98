use Rattle.sample_specs.specs.SumOrder.{AboveInSums}
use Rattle.clause_core.proofs.OneRelation.{one_relation}
use Rattle.session_core.proofs.Worked.{proved_session, circular_session, lemma_session, refused_session}
use Rattle.session_core.proofs.laws.worked_examples.Goals as goal

pub returns : goal.returns
returns c =
    let one = one_relation AboveInSums in
    let fine = c.worked_examples.ensures.well_sorted in
    record {
      proved = proved_session one fine;
      not_smaller = circular_session one fine;
      refused = refused_session;
      by_lemma = lemma_session one fine;
    }
