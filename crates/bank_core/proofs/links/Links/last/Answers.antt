use Rattle.std.proofs.Common.{arith}
use Rattle.bank_core.proofs.LinkItems.{last_chain, last_found}
use Rattle.bank_core.proofs.links.Links.last.Goals as goal

pub among-requires-clause-linked : goal.among-requires-clause-linked
among-requires-clause-linked c = rw (c.deref.ensures.value, c.deref-2.ensures.value) c.self.invariant

pub among-requires-clause-within : goal.among-requires-clause-within
among-requires-clause-within c =
    let chain = last_chain c.self.inside.first.items c.self.inside.links.items c.args.self.now
    c.self.view_is c.self.invariant c.args.hash c.len.result c.bucket.result c.index-at.result.now
    (omega (arith, c.len.ensures)) c.bucket.ensures.is c.bucket.ensures.within c.index-at.ensures in
    rw c.deref-2.ensures.value chain.within

pub among-requires-clause-chained : goal.among-requires-clause-chained
among-requires-clause-chained c =
    let chain = last_chain c.self.inside.first.items c.self.inside.links.items c.args.self.now
    c.self.view_is c.self.invariant c.args.hash c.len.result c.bucket.result c.index-at.result.now
    (omega (arith, c.len.ensures)) c.bucket.ensures.is c.bucket.ensures.within c.index-at.ensures in
    rw (c.deref.ensures.value, c.deref-2.ensures.value) chain.has

pub returns : goal.returns
returns c =
    last_found c.self.inside.first.items c.self.inside.links.items c.args.self.now
    c.self.view_is c.self.invariant c.args.hash c.len.result c.bucket.result c.index-at.result.now
    (omega (arith, c.len.ensures)) c.bucket.ensures.is c.bucket.ensures.within c.index-at.ensures
    c.among.result (rw (← c.deref-2.ensures.value) c.among.ensures)
