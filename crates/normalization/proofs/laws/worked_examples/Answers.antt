use Rattle.std.proofs.Common.{◌≡◌, ℕ, zero, suc, ◌<◌, List, [], ◌∷◌, Option, Some, None, refl, sym, subst, arith}
use Rattle.std.specs.Prelude.{slice_get}
use Rattle.term_core.specs.Tree.{Tree, var, app, none, some}
use Rattle.spec_core.specs.declared.records.Rule.{Rule}
use Rattle.spec_core.specs.Naturals.{naturals, overlapping, zero_term, succ_term, plus_term, plus_zero_rule}
use Rattle.spec_core.specs.Naturals.{plus_succ_rule}
use Rattle.substitutions.specs.Substitution.{apply}
use Rattle.normalization.specs.declared.normal.Normal.TheVariants.{Spent}
use Rattle.normalization.specs.Uses.{Use, IsStuck}
use Rattle.normalization.specs.FirstUses.{IsFirstUse}
use Rattle.normalization.specs.NormalForms.{IsNormal, Runs}
use Rattle.normalization.specs.Normals.{IsNormalizing}
use Rattle.normalization.specs.Examples.{sum, normal_sum}
use Rattle.normalization.proofs.NormalTerms.{app_normal}
use Rattle.normalization.proofs.Steps.{args_stuck_normal, normal_before}
use Rattle.normalization.proofs.Chains.{use_below}
use Rattle.normalization.proofs.OneRun.{one_normal}
use Rattle.spec_core.proofs.SortedNaturals.{well_sorted}
use Rattle.normalization.proofs.laws.worked_examples.Goals as goal

-- a term is stuck if neither left side fits
stuck : (t : Tree) → ((s : List (Option Tree)) → apply s plus_zero_rule.left ≡ t → ⊥) →
    ((s : List (Option Tree)) → apply s plus_succ_rule.left ≡ t → ⊥) → IsStuck naturals t
stuck t a b number u w = by w.listed.0 w.rule w.listed.2 w.entries w.left
  where
    by : (k : ℕ) (rule : Rule) → slice_get naturals.rules k ≡ Some rule → (s : List (Option Tree)) →
        apply s rule.left ≡ t → ⊥
    by zero rule at s e =
        let q : Some plus_zero_rule ≡ Some rule = at in
        let r : rule ≡ plus_zero_rule = cc in
        a s (subst (λ (x : Rule). apply s x.left ≡ t) r e)
    by (suc zero) rule at s e =
        let q : Some plus_succ_rule ≡ Some rule = at in
        let r : rule ≡ plus_succ_rule = cc in
        b s (subst (λ (x : Rule). apply s x.left ≡ t) r e)
    by (suc (suc k)) rule at s e = absurd (let q : None ≡ Some rule = at in cc)

variable : (n : ℕ) → IsNormal naturals (var n)
variable n = args_stuck_normal naturals (var n) tt
    (stuck (var n) (λ s e. let q : app 4 (some zero_term (some (apply s (var 0)) none)) ≡ var n = e in
    cc) (λ s e. let q : app 4 (some (succ_term (apply s (var 0))) (some (apply s (var 1)) none)) ≡ var n = e in cc))

nothing : IsNormal naturals zero_term
nothing = app_normal naturals 2 none tt (stuck zero_term (λ s e. other s e) (λ s e. another s e))
  where
    other : (s : List (Option Tree)) → app 4 (some zero_term (some (apply s (var 0)) none)) ≡ zero_term → ⊥
    other s e =
        let k : ◌≡◌ {A = ℕ} 4 2 = cc in
        absurd (omega (arith, k))

    another : (s : List (Option Tree)) →
        app 4 (some (succ_term (apply s (var 0))) (some (apply s (var 1)) none)) ≡ zero_term → ⊥
    another s e =
        let k : ◌≡◌ {A = ℕ} 4 2 = cc in
        absurd (omega (arith, k))

successor : (t : Tree) → IsNormal naturals t → IsNormal naturals (succ_term t)
successor t normal = app_normal naturals 3 (some t none) (
  normal,
  tt,
) (stuck (succ_term t) (λ s e. other s e) (λ s e. another s e))
  where
    other : (s : List (Option Tree)) → app 4 (some zero_term (some (apply s (var 0)) none)) ≡ succ_term t → ⊥
    other s e =
        let k : ◌≡◌ {A = ℕ} 4 3 = cc in
        absurd (omega (arith, k))

    another : (s : List (Option Tree)) →
        app 4 (some (succ_term (apply s (var 0))) (some (apply s (var 1)) none)) ≡ succ_term t → ⊥
    another s e =
        let k : ◌≡◌ {A = ℕ} 4 3 = cc in
        absurd (omega (arith, k))

open_sum : IsNormal naturals (plus_term (var 0) zero_term)
open_sum = app_normal naturals 4 (some (var 0) (some zero_term none)) (variable 0, (nothing, tt))
    (stuck (plus_term (var 0) zero_term) (λ s e. other s e) (λ s e. another s e))
  where
    other : (s : List (Option Tree)) → app 4 (some zero_term (some (apply s (var 0)) none)) ≡ plus_term (var 0)
        zero_term → ⊥
    other s e =
        let k : app 2 none ≡ var 0 = cc in
        cc

    another : (s : List (Option Tree)) →
        app 4 (some (succ_term (apply s (var 0))) (some (apply s (var 1)) none)) ≡ plus_term (var 0) zero_term → ⊥
    another s e =
        let k : succ_term (apply s (var 0)) ≡ var 0 = cc in
        cc

sum_used : IsFirstUse naturals sum [] 2 normal_sum
sum_used = record {
  old = sum;
  new = normal_sum;
  at = refl;
  rule = record {
    rule = plus_succ_rule;
    entries = Some (var 0) ∷ Some zero_term ∷ [];
    listed = (
      1,
      refl,
      refl,
    );
    unguarded = refl;
    left = refl;
    right = refl;
  };
  made = refl;
  first = normal_before naturals 4 (some (succ_term (var 0)) (some zero_term none))
      (successor (var 0) (variable 0), (nothing, tt));
  least = λ m v less w. lower m w.listed.0 w.rule w.entries less w.listed.1 w.listed.2 w.left;
}
  where
    lower : (m k : ℕ) (rule : Rule) (s : List (Option Tree)) → m < 2 → m ≡ suc k →
        slice_get naturals.rules k ≡ Some rule → apply s rule.left ≡ sum → ⊥
    lower m (suc k) rule s less e at is = absurd (omega (arith, e, less))
    lower m zero rule s less e at is =
        let q : Some plus_zero_rule ≡ Some rule = at in
        let r : rule ≡ plus_zero_rule = cc in
        let h : app 4 (some zero_term (some (apply s (var 0)) none)) ≡ sum = subst
        (λ (x : Rule). apply s x.left ≡ sum) r is in
        let k : app 2 none ≡ app 3 (some (var 0) none) = cc in
        let n : ◌≡◌ {A = ℕ} 2 3 = cc in
        absurd (omega (arith, n))

inner_rule : Use naturals 1 (plus_term zero_term (var 0)) (var 0)
inner_rule = record {
  rule = plus_zero_rule;
  entries = Some (var 0) ∷ [];
  listed = (
    0,
    refl,
    refl,
  );
  unguarded = refl;
  left = refl;
  right = refl;
}

inner_used : IsFirstUse naturals (plus_term zero_term (var 0)) [] 1 (var 0)
inner_used = record {
  old = plus_term zero_term (var 0);
  new = var 0;
  at = refl;
  rule = inner_rule;
  made = refl;
  first = normal_before naturals 4 (some zero_term (some (var 0) none)) (nothing, (variable 0, tt));
  least = λ m v less w. absurd (omega (arith, w.listed.1, less));
}

chain : Runs naturals sum (([], 2) ∷ []) normal_sum
chain = (normal_sum, sum_used, tt, refl)

normal : IsNormal naturals normal_sum
normal = successor (plus_term (var 0) zero_term) open_sum

not_spent : IsNormalizing naturals sum 1 Spent → ⊥
not_spent w =
    let r = one_normal naturals well_sorted sum w.1 normal_sum (([], 2) ∷ []) w.0 chain normal w.2 in
    absurd (omega (arith, r.0, w.3))

zero_used : Use overlapping 1 (plus_term zero_term (var 0)) (var 0)
zero_used = record {
  rule = plus_zero_rule;
  entries = Some (var 0) ∷ [];
  listed = (
    0,
    refl,
    refl,
  );
  unguarded = refl;
  left = refl;
  right = refl;
}

pub returns : goal.returns
returns c = record {
  done = (chain, normal, omega arith);
  just = (chain, normal, omega arith);
  spent = (([], 2) ∷ [], normal_sum, chain, refl);
  not_spent = not_spent;
  innermost = use_below naturals 4 (zero_term ∷ []) [] (nothing, tt) (plus_term zero_term (var 0)) (var 0) [] 1
      inner_used;
  not_outermost = λ w. w.first (2 ∷ []) (plus_term zero_term (var 0)) tt (
    plus_term zero_term (var 0),
    (1, refl, refl),
    refl,
  ) 1 (var 0) inner_rule;
  not_second = λ w. w.least 1 (var 0) (omega arith) (subst (λ x. Use overlapping 1 x (var 0)) (sym w.at) zero_used);
}
