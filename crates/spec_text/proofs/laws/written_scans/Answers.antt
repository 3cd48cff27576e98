use Rattle.spec_text.proofs.WrittenLemmas.{written_tokens}
use Rattle.spec_text.proofs.laws.written_scans.Goals as goal

pub returns : goal.returns
returns c = written_tokens
