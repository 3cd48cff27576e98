use Rattle.clause_places.proofs.ListedTerms.{as_many_references}
use Rattle.clause_places.proofs.spots.Spots.len.Goals as goal

pub returns : goal.returns
returns c =
    as_many_references c.self.inside.clause.now c.self.inside.terms c.args.self.now
    c.self.invariant.terms c.self.view_is c.as_slice.result.now c.as_slice.ensures
