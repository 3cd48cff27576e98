use Rattle.spec_text.proofs.SpanLemmas.{spans_hold}
use Rattle.spec_text.proofs.laws.spans.Goals as goal

pub returns : goal.returns
returns c = spans_hold
