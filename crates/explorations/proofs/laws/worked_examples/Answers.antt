use Rattle.std.proofs.Common.{◌≡◌, ℕ, zero, suc, List, [], ◌∷◌, inl, inr, refl, sym, ap, arith, get_or, codes}
use Rattle.std.specs.List.{Contains}
use Rattle.spec_core.specs.Naturals.{same_goal, unit_goal}
use Rattle.spec_core.specs.declared.records.Goal.{Goal}
use Rattle.explorations.proofs.laws.worked_examples.Goals as goal

names_differ : ◌≡◌ {A = List ℕ} (codes "unit") (codes "same") → ⊥
names_differ e =
    let first : ◌≡◌ {A = ℕ} 117 115 = ap (λ (xs : List ℕ). get_or xs 0 0) e in
    omega (arith, first)

-- a list of one goal has no goal of another name
is_only : (g h : Goal) → (g.name ≡ h.name → ⊥) → Contains (g ∷ []) h → ⊥
is_only g h differ (zero, l, e) = differ (ap (λ (x : Goal). x.name) e)
is_only g h differ (suc k, l, e) = omega (arith, l)

pub returns : goal.returns
returns c = record {
  further = (inr (inl (refl, tt)), (inl (0, omega arith, refl), tt));
  not_proved = λ h. elim h.1.0 [
    | inl i ↦ is_only unit_goal same_goal names_differ i
    | inr p ↦ elim p [
      | inl a ↦ names_differ a.0
      | inr b ↦ elim b [ inl d ↦ absurd d.1 | inr n ↦ absurd n ]
    ]
  ];
  not_claimed = λ h. elim h.0 [
    | inl i ↦ is_only same_goal unit_goal (λ e. names_differ (sym e)) i
    | inr n ↦ absurd n
  ];
  stays = λ name p. elim p [ inl a ↦ absurd a.1 | inr b ↦ b ];
  lost = λ h. elim (h (codes "unit") (inl (refl, tt))) [ inl a ↦ absurd a.1 | inr n ↦ absurd n ];
}
