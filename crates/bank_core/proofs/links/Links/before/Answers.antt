use Rattle.bank_core.proofs.LinkItems.{before_chain, before_within, before_found}
use Rattle.bank_core.proofs.links.Links.before.Goals as goal

pub among-requires-clause-linked : goal.among-requires-clause-linked
among-requires-clause-linked c = rw (c.deref.ensures.value, c.deref-2.ensures.value) c.self.invariant

pub among-requires-clause-within : goal.among-requires-clause-within
among-requires-clause-within c = rw c.deref-2.ensures.value (before_within c.self.inside.first.items
    c.self.inside.links.items c.args.self.now c.self.view_is c.self.invariant c.args.hash c.args.at
    c.index-link.result.now c.requires.some c.requires.there c.requires.has c.index-link.ensures)

pub among-requires-clause-chained : goal.among-requires-clause-chained
among-requires-clause-chained c = rw (c.deref.ensures.value, c.deref-2.ensures.value) (before_chain
    c.self.inside.first.items c.self.inside.links.items c.args.self.now c.self.view_is c.self.invariant
    c.args.hash c.args.at c.index-link.result.now c.requires.some c.requires.there c.requires.has
    c.index-link.ensures).has

pub returns : goal.returns
returns c = before_found c.self.inside.first.items c.self.inside.links.items c.args.self.now c.self.view_is
    c.self.invariant c.args.hash c.args.at c.index-link.result.now c.requires.some c.requires.there
    c.requires.has c.index-link.ensures c.among.result (rw (← c.deref-2.ensures.value) c.among.ensures)
