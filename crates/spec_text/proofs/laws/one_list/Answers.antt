use Rattle.spec_text.proofs.laws.one_list.Goals as goal
use Rattle.spec_text.proofs.TokenLemmas as tokens

pub returns : goal.returns
returns c = tokens.one_list
