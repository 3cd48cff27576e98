-- Goals by their names.
use Rattle.std.proofs.Common.{◌≡◌, ℕ, zero, suc, ◌<◌, List, [], ◌∷◌, Some, refl, ap, ◌∙◌, arith, length, get_or}
use Rattle.std.specs.Prelude.{slice_get, Contains}
use Rattle.spec_core.specs.declared.records.Goal.{Goal}
use Rattle.spec_core.specs.declared.records.Spec.{Spec}
use Rattle.clause_core.specs.Referred.{UsableGoal}

same_place : (xs : List ℕ) (k x d : ℕ) → k < length xs → get_or xs k d ≡ get_or xs k x
same_place [] k x d lt = absurd (omega arith)
same_place (y ∷ xs) zero x d lt = refl
same_place (y ∷ xs) (suc k) x d lt = same_place xs k x d (omega arith)

module _ (spec : Spec) (proved : List ℕ) (name : List ℕ) where
  -- the goal that is found may be used
  pub usable :
      (i d : ℕ) (g : Goal) → i < length proved → slice_get spec.goals (get_or proved i d) ≡ Some g → g.name ≡ name →
      (u : UsableGoal spec (Contains proved) name) × (u.goal ≡ g)
  usable i d g lt at named = (
    record {
      number = get_or proved i d;
      goal = g;
      is = at;
      named = named;
      may_be_used = (
        i,
        lt,
        same_place proved i d (get_or proved i d) lt,
      );
    },
    refl,
  )

  -- none may be used if none of the numbers is that of a goal of the name
  pub none_usable :
      (d : ℕ) → ((k : ℕ) → k < length proved → (g : Goal) → slice_get spec.goals (get_or proved k d) ≡ Some g →
      g.name ≡ name → ⊥) →
      UsableGoal spec (Contains proved) name → ⊥
  none_usable d h u =
      let k = u.may_be_used.0 in
      let lt : k < length proved = u.may_be_used.1 in
      let same : get_or proved k d ≡ u.number = same_place proved k u.number d lt ∙ u.may_be_used.2 in
      h k lt u.goal (ap (λ n. slice_get spec.goals n) same ∙ u.is) u.named
