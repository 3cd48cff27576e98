-- Each example, computed.
use Rattle.matching.proofs.SampleMatches.{matched, one_too_many, not_matched}
use Rattle.matching.proofs.laws.worked_examples.Goals as goal

pub returns : goal.returns
returns c = record {
  matched = matched;
  one_too_many = one_too_many;
  not_matched = not_matched;
}
