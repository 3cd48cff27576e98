use Rattle.show_words.proofs.OneRequest.{one_task, no_help, not_nothing}
use Rattle.show_words.proofs.laws.one_request.Goals as goal

pub returns : goal.returns
returns c = record { one_task = one_task; no_help = no_help; not_nothing = not_nothing }
