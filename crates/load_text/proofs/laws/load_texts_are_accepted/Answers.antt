use Rattle.load_text.proofs.Accepted.{load_accepted}
use Rattle.load_text.proofs.laws.load_texts_are_accepted.Goals as goal

pub returns : goal.returns
returns c = λ n some few. load_accepted n few
