use Rattle.std.proofs.Common.{◌≡◌, ◌<◌, ◌++◌, ◌∙◌, ap, subst, length, take, drop}
use Rattle.unifier.specs.Readiness.{marks}
use Rattle.unifier.proofs.Lists.{written_back}
use Rattle.unifier.proofs.Readiness.{marks_fall, all_decided}
use Rattle.unifier.proofs.unification.occurs.is_acyclic.Goals as goal

pub loop-smaller : goal.loop-smaller
loop-smaller c =
    marks_fall (length c.args.graph.now) c.loop.ready.len c.loop.ready.items c.mark_ready.new.ready
    c.loop.ready.ok.0 (c.mark_ready.auto.ready ∙ ap (λ bs. length bs) c.deref_mut.ensures.value)
    c.loop.invariant.long (subst (λ bs. marks bs < marks c.mark_ready.new.ready) c.deref_mut.ensures.value
    c.loop-test.ensures.found)

pub returns : goal.returns
returns c =
    let long : length c.mark_ready.new.ready ≡ length c.loop.ready.items = c.mark_ready.auto.ready
    ∙ ap (λ bs. length bs) c.deref_mut.ensures.value in
    let w : take c.loop.ready.len (c.mark_ready.new.ready
    ++ drop (length c.mark_ready.new.ready) c.loop.ready.items) ≡ c.mark_ready.new.ready = written_back
    c.loop.ready.items c.mark_ready.new.ready c.loop.ready.len c.loop.ready.ok.0 long in
    all_decided c.args.graph.now c.args.roots.now c.mark_ready.new.ready c.deref.result.now c.all_ready.result
    (c.deref.ensures.value ∙ w) c.requires.graph c.requires.roots (long ∙ c.loop.invariant.long)
    c.mark_ready.ensures.marked c.loop-test.ensures.found c.all_ready.ensures
