use Rattle.page_core.proofs.MarkupPages.{document_markup}
use Rattle.page_core.proofs.laws.well_formed.Goals as goal

pub returns : goal.returns
returns c = document_markup
