-- Naturals with addition have linear left sides and one for all values, and what is near to them hasn't.
use Rattle.std.proofs.Common.{◌≡◌, ℕ, zero, suc, ◌<◌, List, [], ◌∷◌, Some, None, inl, inr, refl, ap, sym, ◌∙◌, subst}
use Rattle.std.proofs.Common.{arith}
use Rattle.term_core.specs.Tree.{Tree, Trees, var, app, none, some, instance}
use Rattle.term_core.specs.declared.ids.SortId.{SortId}
use Rattle.spec_core.specs.declared.records.SymInfo.{SymInfo}
use Rattle.spec_core.specs.declared.records.Rule.{Rule}
use Rattle.spec_core.specs.Sorts.{Sorted, SortedAll, IsBuilt, AreBuilt}
use Rattle.spec_core.specs.Linear.{IsLinear, LeftSidesAreLinear}
use Rattle.spec_core.specs.Covering.{IsMatched, IsCovering}
use Rattle.spec_core.specs.Naturals.{nat, declares, naturals_sig, naturals, uncovered, plus_zero_rule, plus_succ_rule}
use Rattle.spec_core.specs.Naturals.{zero_term, succ_term, plus_term}
use Rattle.spec_core.proofs.SortedNaturals.{bool_is_not_nat}

args : (i : SymInfo) (ts : Trees) (ss : List SortId) → Some (declares ss) ≡ Some i →
    SortedAll naturals_sig [] ts i.args → SortedAll naturals_sig [] ts ss
args i ts ss at s = let e : declares ss ≡ i = cc in
    subst (λ (x : SymInfo). SortedAll naturals_sig [] ts x.args) (sym e) s

-- the first argument, which is zero or a successor, decides
first_decides : (a b : Tree) → Sorted naturals_sig [] a nat → IsBuilt naturals_sig a →
    IsMatched naturals 4 (some a (some b none))
first_decides (var n) b s m = absurd m
first_decides (app zero ts) b s m = absurd (bool_is_not_nat s.0 s.1 s.2)
first_decides (app (suc zero) ts) b s m = absurd (bool_is_not_nat s.0 s.1 s.2)
first_decides (app (suc (suc zero)) none) b s m = (0, (plus_zero_rule, refl, (b ∷ [], refl)))
first_decides (app (suc (suc zero)) (some t ts)) b s m = absurd (args s.0 (some t ts) [] s.1 s.3)
first_decides (app (suc (suc (suc zero))) none) b s m = absurd (args s.0 none (nat ∷ []) s.1 s.3)
first_decides (app (suc (suc (suc zero))) (some t none)) b s m = (1, (plus_succ_rule, refl, (t ∷ b ∷ [], refl)))
first_decides (app (suc (suc (suc zero))) (some t (some u us))) b s m = absurd
    (args s.0 (some t (some u us)) (nat ∷ []) s.1 s.3).1
first_decides (app (suc (suc (suc (suc f)))) ts) b s m = let k : suc (suc (suc (suc f))) < 4 = m.0 in
    absurd (omega arith)

two_decide : (vs : Trees) → SortedAll naturals_sig [] vs (nat ∷ nat ∷ []) → AreBuilt naturals_sig vs →
    IsMatched naturals 4 vs
two_decide none s m = absurd s
two_decide (some a none) s m = absurd s.1
two_decide (some a (some b none)) s m = first_decides a b s.0 m.0
two_decide (some a (some b (some c ts))) s m = absurd s.1.1

pub covering : IsCovering naturals
covering zero i vs at free s m = absurd (free (omega arith))
covering (suc zero) i vs at free s m = absurd (free (omega arith))
covering (suc (suc zero)) i vs at free s m = absurd (free (omega arith))
covering (suc (suc (suc zero))) i vs at free s m = absurd (free (omega arith))
covering (suc (suc (suc (suc zero)))) i vs at free s m = two_decide vs (args i vs (nat ∷ nat ∷ []) at s) m
covering (suc (suc (suc (suc (suc f))))) i vs at free s m = absurd (let e : None ≡ Some i = at in cc)

one_built : IsBuilt naturals_sig (succ_term zero_term)
one_built = (omega arith, ((omega arith, tt), tt))

zero_is_not_one : (xs : List Tree) → instance xs (plus_term zero_term (var 0)) ≡ plus_term (succ_term zero_term)
    zero_term → ⊥
zero_is_not_one xs h =
    let trees : app 4 (some zero_term (some (instance xs (var 0)) none)) ≡ app 4
    (some (succ_term zero_term) (some zero_term none)) = h in
    let k : ◌≡◌ {A = ℕ} 2 3 = cc in
    omega arith

no_rule_for_one : IsMatched uncovered 4 (some (succ_term zero_term) (some zero_term none)) → ⊥
no_rule_for_one (zero, (rule, at, (xs, h))) = let e : plus_zero_rule ≡ rule = let q : Some plus_zero_rule ≡ Some
    rule = at in cc in zero_is_not_one xs (ap (λ (r : Rule). instance xs r.left) e ∙ h)
no_rule_for_one (suc k, (rule, at, (xs, h))) = let e : None ≡ Some rule = at in cc

pub not_covering : IsCovering uncovered → ⊥
not_covering h = no_rule_for_one (h 4 (declares (nat ∷ nat ∷ [])) _ refl (λ k. omega (arith, k))
    ((_, refl, refl, ((_, refl, refl, tt), tt)), ((_, refl, refl, tt), tt)) (one_built, ((omega arith, tt), tt)))

pub linear_zero : IsLinear (plus_term zero_term (var 0))
linear_zero n (inl p) = p
linear_zero n (inr (inl p)) = p.0
linear_zero n (inr (inr (inl p))) = p
linear_zero n (inr (inr (inr (inl p)))) = p.1
linear_zero n (inr (inr (inr (inr p)))) = p

pub linear_succ : IsLinear (plus_term (succ_term (var 0)) (var 1))
linear_succ n (inl (inl p)) = p
linear_succ n (inl (inr (inl p))) = p.1
linear_succ n (inl (inr (inr p))) = p
linear_succ n (inr (inl (inl p, inl q))) = omega (arith, p, q)
linear_succ n (inr (inl (inl p, inr q))) = q
linear_succ n (inr (inl (inr p, q))) = p
linear_succ n (inr (inr (inl p))) = p
linear_succ n (inr (inr (inr (inl p)))) = p.1
linear_succ n (inr (inr (inr (inr p)))) = p

pub not_linear : IsLinear (plus_term (var 0) (var 0)) → ⊥
not_linear h = h 0 (inr (inl (refl, inl refl)))

pub linear : LeftSidesAreLinear naturals
linear zero rule at = let e : plus_zero_rule ≡ rule = let q : Some plus_zero_rule ≡ Some rule = at in cc in
    subst (λ (r : Rule). IsLinear r.left) e linear_zero
linear (suc zero) rule at = let e : plus_succ_rule ≡ rule = let q : Some plus_succ_rule ≡ Some rule = at in
    cc in subst (λ (r : Rule). IsLinear r.left) e linear_succ
linear (suc (suc k)) rule at = absurd (let e : None ≡ Some rule = at in cc)
