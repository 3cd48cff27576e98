-- The cells that are added are few.
use Rattle.std.proofs.Common.{◌≡◌, ℕ, suc, ◌+◌, ◌*◌, ◌^◌, ◌<◌, ◌≤◌, List, Some, ap, sym, ◌∙◌, subst, arith, drop}
use Rattle.std.proofs.Common.{length}
use Rattle.std.specs.Prelude.{slice_get}
use Rattle.std.proofs.Math.Nat.{suc-mul, add-mul, mul-le-mul_left, mul-le-mul_right, two-pow-succ}
use Rattle.std.proofs.Math.Pow.{pow_mono}
use Rattle.std.proofs.lemmas.List.{length-map}
use Rattle.std.proofs.lemmas.Nat.{pow_pos}
use Rattle.term_core.proofs.Items.{drop_here}
use Rattle.term_core.specs.Tree.{Tree, trees_of, tree_size, sizes}
use Rattle.spec_core.specs.declared.records.Goal.{Goal}
use Rattle.spec_core.specs.declared.records.Spec.{Spec}
use Rattle.rule_code.specs.Lengths.{rules_length}
use Rattle.rule_code.specs.Programs.{Program}
use Rattle.bank_machine.specs.Fuel.{most_guards, most_added}
use Rattle.ground_eval.specs.declared.comparing.SidePair.{SidePair}
use Rattle.ground_eval.specs.declared.marks.Constants.{Constants}
use Rattle.ground_eval.specs.Looked.{most_compared, most_run, most_evaluated, most_over, most_looked}
use Rattle.ground_eval.specs.Opened.{Partial, partial}
use Rattle.ground_eval.specs.OpenSides.{IsPartial}
use Rattle.ground_eval.specs.Prepared.{goal_length}
use Rattle.ground_eval.proofs.CodeLengths.{rules_shifted, guards_shifted, goal_shifted}

-- one more value is put into the bank
pub values_few : (old mid new : ℕ) (values : List Tree) (k : ℕ) (v : Tree) → slice_get values k ≡ Some v →
    mid + sizes (trees_of (drop k values)) ≤ old + sizes (trees_of values) → new ≤ mid + tree_size v →
    new + sizes (trees_of (drop (k + 1) values)) ≤ old + sizes (trees_of values)
values_few old mid new values k v at h one = omega (
  arith,
  h,
  one,
  ap (λ ts. sizes (trees_of ts)) (drop_here values k v at),
)

module _ (p : Program) (budget : ℕ) where
  compared_next : (k : ℕ) → most_compared p (suc k) budget ≡ most_compared p k budget + 2 * most_added p budget
  unfolding most_compared
  compared_next k = suc-mul k (2 * most_added p budget)

  compared_less : (k n : ℕ) → k ≤ n → most_compared p k budget ≤ most_compared p n budget
  unfolding most_compared
  compared_less k n le = mul-le-mul_right (2 * most_added p budget) le

  compared_both : (m n : ℕ) → most_compared p (m + n) budget ≡ most_compared p m budget + most_compared p n budget
  unfolding most_compared
  compared_both m n = add-mul m n (2 * most_added p budget)

  -- one more equation is compared
  pub few_next : (old mid new k n : ℕ) → k < n → mid ≤ old + most_compared p k budget →
      new ≤ mid + 2 * most_added p budget → new ≤ old + most_compared p n budget
  few_next old mid new k n lt h one = omega (
    arith,
    h,
    one,
    compared_next k,
    compared_less (suc k) n (omega (arith, lt)),
  )

  -- and no more are
  pub few_all : (old new k n : ℕ) → k ≤ n → new ≤ old + most_compared p k budget → new ≤ old + most_compared p n budget
  few_all old new k n le h = omega (arith, h, compared_less k n le)

  pub few_both : (old mid new m n : ℕ) → mid ≤ old + most_compared p m budget →
      new ≤ mid + most_compared p n budget → new ≤ old + most_compared p (m + n) budget
  few_both old mid new m n h k = omega (arith, h, k, compared_both m n)

-- the goal is evaluated if its pairs of sides are compared
module _ {old : Spec} {goal : Goal} {p : Program} {shifted : Goal} {constants : Constants}
    {premises conclusions : List SidePair} (inside : IsPartial old goal p shifted constants premises conclusions) where
  code_short : length p.code ≤ rules_length old.rules + goal_length goal
  code_short =
      let c = old.sig.constructors in
      let u = length inside.opened.sorts in
      let rules : rules_length p.spec.rules ≡ rules_length old.rules = ap rules_length
      inside.opened.extends.more.rules ∙ rules_shifted c u old.rules in
      let sides : goal_length shifted ≡ goal_length goal = ap (λ (g : Goal). goal_length g) inside.opened.same
      ∙ goal_shifted c u goal in
      omega (arith, inside.short, rules, sides)

  added_run : (budget : ℕ) → most_added p budget ≤ most_run (partial old goal p.spec) budget
  unfolding most_added most_run
  added_run budget =
      let c = old.sig.constructors in
      let u = length inside.opened.sorts in
      let guards : most_guards p.spec.rules ≡ most_guards old.rules = ap most_guards
      inside.opened.extends.more.rules ∙ guards_shifted c u old.rules in
      let le : suc (length p.code) * suc (most_guards old.rules) ≤ suc
      (rules_length old.rules + goal_length goal) * suc (most_guards old.rules) = mul-le-mul_right
      (suc (most_guards old.rules)) (omega (arith, code_short)) in
      subst (λ n. suc budget * (suc (length p.code) * suc n) ≤ suc budget *
      (suc (rules_length old.rules + goal_length goal) * suc (most_guards old.rules))) (sym guards)
      (mul-le-mul_left (suc budget) le)

  equations_count : (ps qs : List SidePair) → ps ≡ premises → qs ≡ conclusions →
      length ps + length qs ≡ length goal.premises + length goal.conclusions
  equations_count ps qs e d =
      let a : length premises ≡ length goal.premises = inside.prepared.of_premises.count
      ∙ ap (λ (g : Goal). length g.premises) inside.opened.same ∙ length-map goal.premises _ in
      let b : length conclusions ≡ length goal.conclusions = inside.prepared.of_conclusions.count
      ∙ ap (λ (g : Goal). length g.conclusions) inside.opened.same ∙ length-map goal.conclusions _ in
      omega (arith, a, b, ap (λ (zs : List SidePair). length zs) e, ap (λ (zs : List SidePair). length zs) d)

  compared_evaluated : (budget : ℕ) (ps qs : List SidePair) → ps ≡ premises → qs ≡ conclusions →
      most_compared p (length ps + length qs) budget ≤ most_evaluated (partial old goal p.spec) budget
  unfolding most_compared most_evaluated
  compared_evaluated budget ps qs e d =
      let n = length goal.premises + length goal.conclusions in
      let two : 2 * most_added p budget ≤ 2 * most_run (partial old goal p.spec) budget = omega (
        arith,
        added_run budget,
      ) in
      subst (λ m. m * (2 * most_added p budget) ≤ n * (2 * most_run (partial old goal p.spec) budget))
      (sym (equations_count ps qs e d)) (mul-le-mul_left n two)

  pub few_evaluated : (budget before after : ℕ) (ps qs : List SidePair) → ps ≡ premises → qs ≡ conclusions →
      after ≤ before + most_compared p (length ps + length qs) budget →
      after ≤ before + most_evaluated (partial old goal p.spec) budget
  few_evaluated budget before after ps qs e d h = omega (arith, h, compared_evaluated budget ps qs e d)

module _ (g : Partial) (budget : ℕ) where
  over_next : (k : ℕ) → most_over g (suc k) budget ≡ most_over g k budget + most_over g k budget
  unfolding most_over
  over_next k = ap (λ n. n * (2 + most_evaluated g budget)) (two-pow-succ k)
      ∙ add-mul (2 ^ k) (2 ^ k) (2 + most_evaluated g budget)

  over_some : (k : ℕ) → 2 + most_evaluated g budget ≤ most_over g k budget
  unfolding most_over
  over_some k =
      let le : 1 * (2 + most_evaluated g budget) ≤ 2 ^ k * (2 + most_evaluated g budget) = mul-le-mul_right
      (2 + most_evaluated g budget) (omega (arith, pow_pos k)) in
      omega (arith, le)

  over_less : (k : ℕ) → k ≤ length g.goal.vars → most_over g k budget ≤ most_looked g budget
  unfolding most_over most_looked
  over_less k le = mul-le-mul_right (2 + most_evaluated g budget) (pow_mono le)

  -- something stands for each variable
  pub few_at : (k old new : ℕ) → new ≤ old + most_evaluated g budget → 2 + new ≤ old + most_over g k budget
  few_at k old new h = omega (arith, h, over_some k)

  -- a constant is added for the next variable, or the one Boolean alone
  pub few_one : (k j old mid new : ℕ) → k ≡ suc j → mid ≤ suc old → 2 + new ≤ mid + most_over g j budget →
      2 + new ≤ old + most_over g k budget
  few_one k j old mid new e one h =
      let both : most_over g k budget ≡ most_over g j budget + most_over g j budget = ap
      (λ n. most_over g n budget) e ∙ over_next j in
      omega (arith, one, h, over_some j, both)

  -- both Booleans are
  pub few_two : (k i j old mid first next new : ℕ) → k ≡ suc i → k ≡ suc j → mid ≤ suc old →
      2 + first ≤ mid + most_over g i budget → next ≤ suc first → 2 + new ≤ next + most_over g j budget →
      2 + new ≤ old + most_over g k budget
  few_two k i j old mid first next new e d one h two l =
      let same : i ≡ j = omega (arith, e, d) in
      let both : most_over g k budget ≡ most_over g j budget + most_over g j budget = ap
      (λ n. most_over g n budget) d ∙ over_next j in
      omega (arith, one, h, two, l, both, ap (λ n. most_over g n budget) same)

  pub few_looked : (old new : ℕ) → new ≤ old + most_evaluated g budget → new ≤ old + most_looked g budget
  few_looked old new h = omega (arith, h, over_some 0, over_less 0 (omega arith))

  pub few_over : (k old new : ℕ) → k ≤ length g.goal.vars → 2 + new ≤ old + most_over g k budget →
      new ≤ old + most_looked g budget
  few_over k old new le h = omega (arith, h, over_less k le)
