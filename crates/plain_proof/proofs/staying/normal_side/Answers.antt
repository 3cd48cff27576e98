use Rattle.std.proofs.Common.{◌≡◌, ◌-◌, ◌<◌, ◌∙◌, ℕ, Option, Some, None, true, false, sym, subst, arith}
use Rattle.std.specs.Global.{Vec}
use Rattle.term_core.specs.Tree.{Tree}
use Rattle.spec_core.specs.declared.records.Spec.{Spec}
use Rattle.normalization.specs.Firsts.{HasFirst}
use Rattle.normalization.specs.FirstUses.{IsFirstUse}
use Rattle.plain_proof.specs.Staying.{HasSide}
use Rattle.plain_proof.proofs.NarrowTerms.{use_narrow}
use Rattle.plain_proof.proofs.Walking.{goes_from_start, goes_one_further, goes_to_normal, side_out, side_zero}
use Rattle.plain_proof.proofs.staying.normal_side.Goals as goal

-- what the first use is, by the specification
its : (r s : Spec) (t : Tree) (o p : Option (Vec ℕ × ℕ)) → r ≡ s → o ≡ p → HasFirst r t o → HasFirst s t p
its r s t o p e q h =
    subst (λ (z : Option (Vec ℕ × ℕ)). HasFirst s t z) q (subst (λ (z : Spec). HasFirst z t o) e h)

pub loop-uses-init : goal.loop-uses-init
loop-uses-init c =
    (goes_from_start c.args.spec.now c.args.other.now c.args.term c.args.budget, c.requires.narrow)

pub returns-in_default : goal.returns-in_default
returns-in_default c =
    let normal = its c.args.rewriter.now c.args.spec.now c.loop-uses.last c.in_ok-place.field-0 None c.requires.its
    c.in_default.is c.in_ok-place.ensures in
    goes_to_normal c.args.spec.now c.args.other.now c.args.term c.loop-uses.last c.args.budget c.loop-uses.uses
    c.loop-uses.invariant.0 normal

pub after_use-requires : goal.after_use-requires
after_use-requires c =
    let h = its c.args.rewriter.now c.args.spec.now c.loop-uses.last c.in_ok-place.field-0
    (Some (c.in-Some.place, c.in-Some.number)) c.requires.its c.in-Some.is c.in_ok-place.ensures in
    record {
      fine = c.requires.fine;
      first = (
        h.0,
        subst (λ p. IsFirstUse c.args.spec.now c.loop-uses.last p c.in-Some.number h.0)
            (sym c.as_slice.ensures.value) h.1,
      );
    }

pub returns-then-not-branch : goal.returns-then-not-branch
returns-then-not-branch c =
    c.loop-uses.invariant.0.none (side_out c.args.spec.now c.requires.fine c.args.other.now c.loop-uses.last
    c.in_ok-next.next c.as_slice.result.now c.in-Some.number (c.args.budget - c.loop-uses.uses)
    c.in_ok-next.ensures
    (λ h. let q : false ≡ true = sym c.if-not-branch.true ∙ c.in_ok-are_within.ensures.1 h in cc))

pub loop-uses-preserved : goal.loop-uses-preserved
loop-uses-preserved c =
    let less : c.loop-uses.uses < c.args.budget = c.loop-uses-test.true in (
      goes_one_further c.args.spec.now c.requires.fine c.args.other.now c.args.term c.loop-uses.last
          c.in_ok-next.next c.as_slice.result.now c.in-Some.number c.args.budget c.loop-uses.uses less
          c.in_ok-next.ensures (c.in_ok-are_within.ensures.0 c.if-not-branch.false) c.loop-uses.invariant.0,
      use_narrow c.args.spec.now c.requires.fine c.loop-uses.last c.in_ok-next.next c.as_slice.result.now
          c.in-Some.number c.in_ok-next.ensures c.loop-uses.invariant.1,
    )

pub returns-in-None : goal.returns-in-None
returns-in-None c =
    let normal = its c.args.rewriter.now c.args.spec.now c.loop-uses.last c.in_ok-first_use.field-0 None
    c.requires.its c.in-None.is c.in_ok-first_use.ensures in
    let all : c.loop-uses.uses ≡ c.args.budget = omega (arith, c.loop-uses-test.false, c.loop-uses.auto.uses-end) in
    subst (λ n. HasSide c.args.spec.now c.args.other.now c.args.term c.args.budget (Some (c.loop-uses.last, n))) all
    (goes_to_normal c.args.spec.now c.args.other.now c.args.term c.loop-uses.last c.args.budget c.loop-uses.uses
    c.loop-uses.invariant.0 normal)

pub returns-in-Some-2 : goal.returns-in-Some-2
returns-in-Some-2 c =
    let first = its c.args.rewriter.now c.args.spec.now c.loop-uses.last c.in_ok-first_use.field-0
    (Some c.in-Some-2.field-0) c.requires.its c.in-Some-2.is c.in_ok-first_use.ensures in
    let none_left : c.args.budget - c.loop-uses.uses ≡ 0 = omega (arith, c.loop-uses-test.false) in
    c.loop-uses.invariant.0.none (side_zero c.args.spec.now c.requires.fine c.args.other.now c.loop-uses.last
    first.0 c.in-Some-2.field-0.0.items c.in-Some-2.field-0.1 (c.args.budget - c.loop-uses.uses) first.1
    none_left)
