use Rattle.std.proofs.Common.{refl}
use Rattle.std.specs.Fmt.{digits}
use Rattle.page_core.specs.Pages.{after, drawn}
use Rattle.page_core.proofs.laws.worked_examples.Goals as goal

pub returns : goal.returns
unfolding after drawn digits
returns c = record { escapes = refl; html = refl; plain = refl; marked = refl; empty = refl }
