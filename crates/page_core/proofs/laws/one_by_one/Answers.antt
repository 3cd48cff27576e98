use Rattle.page_core.proofs.Pages.{after-after}
use Rattle.page_core.proofs.laws.one_by_one.Goals as goal

pub returns : goal.returns
returns c = after-after
