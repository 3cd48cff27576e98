use Rattle.std.proofs.Common.{◌≡◌, false, true, refl, sym, ◌∙◌, ap, subst, length, arith}
use Rattle.std.specs.Prelude.{Some, slice_get}
use Rattle.std.proofs.lemmas.Option.{slice_get_read}
use Rattle.replay_check.proofs.NamedValues.{all_named, each_named, named_more}
use Rattle.replay_check.proofs.values.are_named_values.Goals as goal
use Rattle.replay_check.proofs.values.are_named_values.Goals.{After-index-vars-place}

var_at : (c : After-index-vars-place) →
    slice_get c.args.goal.now.vars c.loop-place.place ≡ Some c.index-vars-place.result
var_at c =
    subst (λ vs. slice_get vs c.loop-place.place ≡ Some c.index-vars-place.result) c.as_slice-vars.ensures
    (slice_get_read c.as_slice-vars.result.now (length c.as_slice-vars.result.now) c.loop-place.place
    c.index-vars-place.result refl (omega arith) c.index-vars-place.is)

value_at : (c : After-index-vars-place) →
    slice_get c.args.values.now c.loop-place.place ≡ Some c.index-values-place.result
value_at c = slice_get_read c.args.values.now (length c.args.values.now) c.loop-place.place
    c.index-values-place.result refl c.loop-place-test.true c.index-values-place.is

pub returns-then-not-is_named_value : goal.returns-then-not-is_named_value
returns-then-not-is_named_value c =
    let b = (goal.at.returns-then-not-is_named_value c).After-index-vars-place in (
      λ h. absurd (let e : false ≡ true = h in cc),
      λ h. c.if-not-is_named_value.ensures.1 (each_named c.args.spec.now c.args.goal.now c.args.values.now h
          c.loop-place.place c.index-vars-place.result c.index-values-place.result (var_at b) (value_at b)),
    )

pub loop-place-preserved : goal.loop-place-preserved
loop-place-preserved c =
    let b = (goal.at.loop-place-preserved c).After-index-vars-place in
    named_more c.args.spec.now c.args.goal.now.vars c.args.values.now c.loop-place.place
    c.index-vars-place.result c.index-values-place.result (var_at b) (value_at b) c.loop-place.invariant
    (c.if-not-is_named_value.ensures.0 refl)

pub returns : goal.returns
returns c = (
  λ h. all_named c.args.spec.now c.args.goal.now c.args.values.now (sym (ap length c.as_slice-vars.ensures)
      ∙ c.if-vars-values.false) (λ k v n lt. c.loop-place.invariant k v n (omega (arith, lt))),
  λ h. refl,
)
