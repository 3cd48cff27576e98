use Rattle.explore_words.proofs.OneRequest.{one_exploration, no_help, not_nothing}
use Rattle.explore_words.proofs.laws.one_request.Goals as goal

pub returns : goal.returns
returns c =
    record { one_exploration = one_exploration; no_help = no_help; not_nothing = not_nothing }
