use Rattle.search_claims.proofs.SearchReports.{reports_stand}
use Rattle.search_claims.proofs.laws.search_reports_stand.Goals as goal

pub returns : goal.returns
returns c = reports_stand
