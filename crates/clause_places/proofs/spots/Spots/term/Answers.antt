use Rattle.std.proofs.Common.{arith}
use Rattle.clause_places.proofs.ListedTerms.{as_many, term_of_spot}
use Rattle.clause_places.proofs.spots.Spots.term.Goals as goal

pub at-requires : goal.at-requires
at-requires c =
    omega (
      arith,
      c.requires,
      as_many c.self.inside.clause.now c.self.inside.terms c.args.self.now
          c.self.invariant.terms c.self.view_is,
    )

pub returns : goal.returns
returns c =
    term_of_spot c.self.inside.clause.now c.self.inside.terms c.args.self.now
    c.self.invariant.terms c.self.view_is c.args.index c.at.result.now c.requires c.at.ensures
