use Rattle.std.proofs.Common.{◌≡◌, [], ◌∷◌, ◌++◌, true, false, length, get_or, ap, sym, ◌∙◌, subst, arith}
use Rattle.std.proofs.lemmas.Bool.{eqb-true, eq-eqb}
use Rattle.routine_proof.specs.Ways.{Node}
use Rattle.proof_search.proofs.Climbing.{Climbs, parent_of, cover_is, climb_move, climb_before, climb_on, climb_ends}
use Rattle.proof_search.proofs.Climbing.{no_length}
use Rattle.proof_search.proofs.building.Building.ancestors.Goals as goal
use Rattle.proof_search.proofs.building.Building.ancestors.Goals.{then-not-is_empty-via-then-not-is_empty}
use Rattle.proof_search.proofs.building.Building.ancestors.Goals.{then-not-is_empty-via-else-not-is_empty+then-not-is_cover}

pub bounds-steps-here : goal.bounds-steps-here
bounds-steps-here c =
    let up =
    parent_of c.args.self.now c.requires.whole c.as_slice-parents.result.now
    c.as_slice-parents.ensures.value c.loop-here.here c.loop-here-test.true
    c.loop-here.invariant.0 in
    omega (arith, up.stepped, ap length c.as_slice-steps.ensures.value)

pub loop-here-smaller-in-loop-here : goal.loop-here-smaller-in-loop-here
loop-here-smaller-in-loop-here c =
    let up =
    parent_of c.args.self.now c.requires.whole c.as_slice-parents.result.now
    c.as_slice-parents.ensures.value c.loop-here.here c.loop-here-test.true
    c.loop-here.invariant.0 in
    omega (arith, up.is, up.earlier)

pub loop-here-preserved-in-loop-here : goal.loop-here-preserved-in-loop-here
loop-here-preserved-in-loop-here c =
    let up =
    parent_of c.args.self.now c.requires.whole c.as_slice-parents.result.now
    c.as_slice-parents.ensures.value c.loop-here.here c.loop-here-test.true
    c.loop-here.invariant.0 in
    let p = get_or c.as_slice-parents.result.now c.loop-here.here 0 in
    let more : Node → Type 0 =
    λ from. Climbs c.args.self.now from p (c.loop-here.found.items ++ p ∷ []) in (
      omega (arith, up.is, up.earlier, c.loop-here.invariant.0),
      λ from at.
          subst (λ ns. Climbs c.args.self.now from p ns) (sym c.in_ok-push.ensures.items)
          (elim c.then-not-is_empty.branch as (λ _. more from) [
            | then-not-is_empty-via-then-not-is_empty w ↦
                climb_before c.args.self.now from c.loop-here.here p c.loop-here.found.items
                c.requires.whole up (c.loop-here.invariant.1 from at)
                (λ none.
                let z : c.loop-here.found.len ≡ 0 =
                omega (arith, ap length none, c.loop-here.found.ok.0) in
                let e : true ≡ false =
                sym (eq-eqb c.loop-here.found.len 0 z) ∙ sym c.is_empty.ensures
                ∙ w.if-not-is_empty.true in
                cc)
            | then-not-is_empty-via-else-not-is_empty+then-not-is_cover w ↦
                climb_move c.args.self.now from c.loop-here.here p c.loop-here.found.items
                c.requires.whole up (c.loop-here.invariant.1 from at)
                (cover_is c.args.self.now c.as_slice-steps.result.now
                c.as_slice-steps.ensures.value p
                (omega (arith, up.stepped, ap length c.as_slice-steps.ensures.value))
                w.index-steps-here.result w.index-steps-here.is false
                (sym w.is_cover.ensures ∙ w.if-not-is_cover.true))
          ]),
    )

pub loop-here-smaller : goal.loop-here-smaller
loop-here-smaller c =
    let up =
    parent_of c.args.self.now c.requires.whole c.as_slice-parents.result.now
    c.as_slice-parents.ensures.value c.loop-here.here c.loop-here-test.true
    c.loop-here.invariant.0 in
    omega (arith, up.is, up.earlier)

pub loop-here-preserved : goal.loop-here-preserved
loop-here-preserved c =
    let up =
    parent_of c.args.self.now c.requires.whole c.as_slice-parents.result.now
    c.as_slice-parents.ensures.value c.loop-here.here c.loop-here-test.true
    c.loop-here.invariant.0 in
    let p = get_or c.as_slice-parents.result.now c.loop-here.here 0 in
    let z = eqb-true c.loop-here.found.len 0 (sym c.is_empty.ensures ∙ c.if-not-is_empty.false) in
    let none : c.loop-here.found.items ≡ [] =
    no_length c.loop-here.found.items (omega (arith, z, c.loop-here.found.ok.0)) in (
      omega (arith, up.is, up.earlier, c.loop-here.invariant.0),
      λ from at.
          climb_on c.args.self.now from c.loop-here.here p c.loop-here.found.items
          c.requires.whole up (c.loop-here.invariant.1 from at) none
          (cover_is c.args.self.now c.as_slice-steps.result.now
          c.as_slice-steps.ensures.value p
          (omega (arith, up.stepped, ap length c.as_slice-steps.ensures.value))
          c.index-steps-here.result c.index-steps-here.is true
          (sym c.is_cover.ensures ∙ c.if-not-is_cover.false)),
    )

pub returns : goal.returns
returns c = λ from at.
    c.reverse.ensures.items
    ∙ climb_ends c.args.self.now from c.loop-here.here c.loop-here.found.items
    c.loop-here-test.false (c.loop-here.invariant.1 from at)
