use Rattle.std.proofs.Common.{◌≡◌, ℕ, ◌<◌, List, false, true, length, get_or, refl, sym, ◌∙◌, ap, subst, arith}
use Rattle.std.proofs.Common.{below_more}
use Rattle.std.specs.Prelude.{Some, slice_get}
use Rattle.std.proofs.lemmas.Option.{slice_get_read, slice_get_within}
use Rattle.spec_core.specs.declared.records.Goal.{Goal}
use Rattle.spec_core.proofs.records.Spec.goal_named.Goals as goal

-- the item is read from the goals
read_goal : (items goals : List Goal) (i : ℕ) (g : Goal) → items ≡ goals → i < length items →
    g ≡ get_or items i g → slice_get goals i ≡ Some g
read_goal items goals i g e lt is = subst (λ gs. slice_get gs i ≡ Some g) e
    (slice_get_read items (length items) i g refl lt is)

pub returns-then-has_name : goal.returns-then-has_name
returns-then-has_name c = (
  read_goal c.as_slice-goal-items.result.now c.args.self.now.goals c.loop-number.number
      c.goal-item.result c.as_slice-goal-items.ensures c.loop-number-test.true c.goal-item.is,
  c.has_name.ensures.0 c.if-has_name.true,
)

pub loop-number-preserved : goal.loop-number-preserved
loop-number-preserved c =
    below_more (λ k. (g : Goal) → slice_get c.args.self.now.goals k ≡ Some g → g.name ≡ c.args.name.now →
    ⊥) c.loop-number.number c.loop-number.invariant
    (λ g at named.
    let here = read_goal c.as_slice-goal-items.result.now c.args.self.now.goals c.loop-number.number
    c.goal-item.result c.as_slice-goal-items.ensures c.loop-number-test.true c.goal-item.is in
    let q : Some c.goal-item.result ≡ Some g = sym here ∙ at in
    let e : c.goal-item.result ≡ g = cc in
    let t : c.has_name.result ≡ true = c.has_name.ensures.1 (ap (λ (x : Goal). x.name) e ∙ named) in
    let f : c.has_name.result ≡ false = c.if-has_name.false in
    absurd (let b : true ≡ false = sym t ∙ f in cc))

pub returns : goal.returns
returns c = λ number g at named.
    let lt : number < c.loop-number.number = omega (
      arith,
      slice_get_within c.args.self.now.goals number g at,
      ap length c.as_slice-goal-items.ensures,
      c.loop-number-test.false,
    ) in
    c.loop-number.invariant number lt g at named
