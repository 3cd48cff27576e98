use Rattle.std.proofs.Common.{◌≡◌, ◌∙◌, ap}
use Rattle.std.proofs.lemmas.Iterator.{YieldsList-from_slice, YieldsList-from_zip}
use Rattle.std.proofs.lemmas.Iterator.Adapters.{YieldsList-from_vec}
use Rattle.std.proofs.lemmas.Iterator.Consumers.{YieldsList-at, YieldsList-end}
use Rattle.script_trim.proofs.StayingItems.{kept_of, kept_staying, pair_kept, pair_left}
use Rattle.script_trim.proofs.flags.keep.Goals as goal

pub loop-item-preserved-in-Continue-1 : goal.loop-item-preserved-in-Continue-1
loop-item-preserved-in-Continue-1 g c =
    pair_kept c.loop-item.yielded (c.in-Some.item, c.in-Some.stay) c.loop-item.kept.items
    c.push.new.self.items c.if-stay.true c.loop-item.invariant c.in_ok-push.ensures.items

pub loop-item-preserved : goal.loop-item-preserved
loop-item-preserved g c =
    pair_left c.loop-item.yielded (c.in-Some.item, c.in-Some.stay) c.loop-item.kept.items
    c.if-stay.false c.loop-item.invariant

pub returns : goal.returns
returns g c =
    let items = YieldsList-at c.zip-item-items.ensures.first
    (YieldsList-from_vec c.args.items.items c.into_iter.ensures.rest (c.into_iter.ensures.len ∙ c.args.items.ok.0)) in
    let flags : c.zip-item-items.result.b.rest.now ≡ c.args.stays.now = c.zip-item-items.ensures.second.0 in
    let road = YieldsList-at c.into_iter-item-iterator.ensures.into_iter_gives
    (YieldsList-from_zip items (YieldsList-from_slice {s = c.zip-item-items.result.b} c.args.stays.now flags)) in
    let t = YieldsList-end road c.loop-item.yielded c.loop-item.item-iterator c.loop-item.yielded_by c.next.result
    c.next.new.self c.in-None.is c.next.ensures.steps in
    c.loop-item.invariant
    ∙ ap (λ ps. kept_of ps) t.0
    ∙ kept_staying c.args.items.items c.args.stays.now c.requires
