use Rattle.load_text.proofs.Accepted.{accepted_text}
use Rattle.load_text.proofs.text.load_text.Goals as goal

pub returns-clause-accepted : goal.returns-clause-accepted
returns-clause-accepted c = accepted_text (λ r. r.items)
    c.args.n c.generated.result c.requires.few c.generated.ensures
