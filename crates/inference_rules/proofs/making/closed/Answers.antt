use Rattle.inference_rules.proofs.Ends.{nothing_made}
use Rattle.inference_rules.proofs.making.closed.Goals as goal

pub returns : goal.returns
returns c = λ d. nothing_made (λ t s. ⊥) d _ c.new.ensures c.new-2.ensures
