use Rattle.std.proofs.Common.{◌≡◌, Some, get_or, sym, ◌∙◌, subst, take}
use Rattle.std.proofs.lemmas.List.{take_all, take_more}
use Rattle.term_core.specs.declared.ids.SortId.{SortId}
use Rattle.spec_core.specs.declared.records.Spec.{Spec}
use Rattle.spec_core.specs.Sig.{info_of}
use Rattle.sample_values.specs.Evaluators.{HaveValues}
use Rattle.sample_values.proofs.Applying.{no_values, more_values}
use Rattle.sample_values.proofs.pool.ValuePool.places.Goals as goal

abbrev first_sort : SortId
first_sort = record { 0 = 0 }

pub loop-number-init : goal.loop-number-init
loop-number-init c = no_values c.args.self.now c.in_ok-places.places.items c.in_ok-places.ensures.items

pub loop-number-preserved : goal.loop-number-preserved
loop-number-preserved c =
    let sorts = c.as_slice-sorts.result.now in
    let n = c.loop-number.number in
    let more = take_more sorts n first_sort c.loop-number-test.true in
    subst (λ ss. HaveValues c.args.self.now c.push.new.self.items ss) (sym more)
    (more_values c.args.self.now c.loop-number.places.items c.push.new.self.items (take n sorts) c.in-Some.place
    (get_or sorts n first_sort) c.in_ok-push.ensures.items c.loop-number.invariant c.in-Some.ensures)

pub returns : goal.returns
returns c =
    let sorts = c.as_slice-sorts.result.now in
    let all = take_all c.loop-number.number sorts c.loop-number-test.false in
    record {
      info = c.info.result.now;
      declared = subst (λ (s : Spec). info_of s.sig c.args.sym.0 ≡ Some c.info.result.now) c.spec.ensures.spec
          c.info.ensures;
      args = subst (λ ss. HaveValues c.args.self.now c.loop-number.places.items ss) (all ∙ c.as_slice-sorts.ensures)
          c.loop-number.invariant;
    }
