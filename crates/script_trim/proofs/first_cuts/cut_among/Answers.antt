use Rattle.std.proofs.Common.{refl, ◌≡◌, List, [], ◌∷◌, length, sym, ◌∙◌, subst, suc, drop}
use Rattle.std.proofs.lemmas.Iterator.Adapters.{YieldsList-from_vec}
use Rattle.std.proofs.lemmas.Iterator.Consumers.{YieldsList-end, YieldsList-so_far, YieldsList-turn}
use Rattle.std.proofs.lemmas.List.{map-id}
use Rattle.std.specs.List.{AllByRecursion}
use Rattle.term_core.proofs.Items.{all_append, all_at_or}
use Rattle.clause_core.specs.declared.steps.Step.{Step}
use Rattle.script_trim.specs.declared.blocks.Fit.{Fit}
use Rattle.script_trim.specs.Cutting.{ClosesAt, FitsAt}
use Rattle.script_trim.proofs.FirstFits.{NotBy, match_none, match_some, yielded_parts}
use Rattle.script_trim.proofs.first_cuts.cut_among.Goals as goal

pub rest_of-requires-clause-fits : goal.rest_of-requires-clause-fits
rest_of-requires-clause-fits g c = λ k.
    let above = g.O.TermOrder.above c.args.admitted.now.order in
    let Fits = FitsAt above c.args.admitted.now.spec c.args.place.now.report.now c.args.place.now.number
    c.args.block.now k c.args.node in
    let given = c.into_iter-fit-iterator.ensures.into_iter_gives in
    let all = c.args.fits in
    let y = YieldsList-from_vec all.items given.0 (given.1 ∙ all.ok.0) in
    let seen = c.loop-fit.yielded in
    let turn = YieldsList-turn y seen c.loop-fit.fit-iterator c.loop-fit.yielded_by c.next.result c.next.new.self
    c.in-Some.fit c.in-Some.is c.next.ensures.steps in
    subst Fits (sym turn.1) (all_at_or Fits all.items (length seen) c.in-Some.fit (c.requires.fits k) turn.0)

pub returns-in-Some-rest : goal.returns-in-Some-rest
returns-in-Some-rest g c = λ k.
    let above = g.O.TermOrder.above c.args.admitted.now.order in
    let spec = c.args.admitted.now.spec in
    let report = c.args.place.now.report.now in
    let number = c.args.place.now.number in
    let block = c.args.block.now in
    let given = c.into_iter-fit-iterator.ensures.into_iter_gives in
    let all = c.args.fits in
    let y = YieldsList-from_vec all.items given.0 (given.1 ∙ all.ok.0) in
    let seen = c.loop-fit.yielded in
    let far = YieldsList-so_far y seen c.loop-fit.fit-iterator c.loop-fit.yielded_by in
    let turn = YieldsList-turn y seen c.loop-fit.fit-iterator c.loop-fit.yielded_by c.next.result c.next.new.self
    c.in-Some.fit c.in-Some.is c.next.ensures.steps in
    let is = yielded_parts all.items seen c.in-Some.fit far turn.0 turn.1 in
    let closes = match_some c.in_ok-rest.rest c.in-Some-rest.rest
    ((others : List Step) → ClosesAt above spec report number block k c.args.node c.in-Some.fit.step others → ⊥)
    (λ steps. ClosesAt above spec report number block k c.args.node c.in-Some.fit.step steps.items)
    c.in-Some-rest.is (c.in_ok-rest.ensures k) in (
      seen,
      drop (suc (length seen)) all.items,
      is,
      refl,
      c.loop-fit.invariant k,
      closes,
    )

pub loop-fit-preserved : goal.loop-fit-preserved
loop-fit-preserved g c = λ k.
    let above = g.O.TermOrder.above c.args.admitted.now.order in
    let spec = c.args.admitted.now.spec in
    let report = c.args.place.now.report.now in
    let number = c.args.place.now.number in
    let block = c.args.block.now in
    let not = match_none c.in_ok-rest.rest ((others : List Step) →
    ClosesAt above spec report number block k c.args.node c.in-Some.fit.step others → ⊥)
    (λ steps. ClosesAt above spec report number block k c.args.node c.in-Some.fit.step steps.items)
    c.in_default.is (c.in_ok-rest.ensures k) in
    all_append (λ (f : Fit). NotBy above spec report number block k c.args.node f.step) c.loop-fit.yielded
    (c.in-Some.fit ∷ []) (c.loop-fit.invariant k) (not, tt)

pub returns : goal.returns
returns g c = λ k.
    let above = g.O.TermOrder.above c.args.admitted.now.order in
    let spec = c.args.admitted.now.spec in
    let report = c.args.place.now.report.now in
    let number = c.args.place.now.number in
    let block = c.args.block.now in
    let given = c.into_iter-fit-iterator.ensures.into_iter_gives in
    let all = c.args.fits in
    let y = YieldsList-from_vec all.items given.0 (given.1 ∙ all.ok.0) in
    let t = YieldsList-end y c.loop-fit.yielded c.loop-fit.fit-iterator c.loop-fit.yielded_by c.next.result
    c.next.new.self c.in-None.is c.next.ensures.steps in
    let whole : c.loop-fit.yielded ≡ all.items = sym (map-id c.loop-fit.yielded) ∙ t.0 in
    subst (λ fs. AllByRecursion (λ (f : Fit). NotBy above spec report number block k c.args.node f.step) fs)
    whole (c.loop-fit.invariant k)
