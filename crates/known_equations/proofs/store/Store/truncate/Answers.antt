use Rattle.std.proofs.Common.{map, refl}
use Rattle.known_equations.proofs.KnownClauses.{first_ones}
use Rattle.known_equations.specs.declared.clauses.KnownClause.{KnownClause}
use Rattle.known_equations.proofs.store.Store.truncate.Goals as goal

pub returns : goal.returns
returns g c =
    let i = c.self.inside in
    first_ones (record {
      spec = i.spec.now;
      order = i.order.now;
      clauses = map (λ (k : KnownClause). k.clause) i.clauses.items;
    })
    c.args.self.now i.clauses.items c.truncate.new.self.items c.args.count c.self.view_is refl
    c.truncate.ensures.items
