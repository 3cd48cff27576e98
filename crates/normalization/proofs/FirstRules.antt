-- The search of the first rule that matches at a root.
use Rattle.std.proofs.Common.{◌≡◌, ℕ, ◌+◌, ◌<◌, ◌≤◌, inl, inr, List, [], Option, Some, refl, ap, sym, ◌∙◌, subst}
use Rattle.std.proofs.Common.{arith, length, get_or}
use Rattle.std.specs.Prelude.{slice_get}
use Rattle.std.proofs.Math.Nat.{eq-or-lt_of_le}
use Rattle.std.proofs.lemmas.Option.{slice_get-get_or, slice_get_within, slice_get_read}
use Rattle.term_core.specs.Tree.{Tree, Trees, var, app}
use Rattle.spec_core.specs.declared.records.Rule.{Rule}
use Rattle.spec_core.specs.declared.records.Spec.{Spec}
use Rattle.spec_core.specs.Sig.{Sig}
use Rattle.spec_core.specs.WellSorted.{IsWellSorted, IsLeft}
use Rattle.spec_core.specs.RuleTables.{numbers_of}
use Rattle.spec_core.proofs.RuleTables.{head_here, place_has_rule, rule_has_place, ascending}
use Rattle.substitutions.specs.Substitution.{apply, apply_all}
use Rattle.matching.specs.Matching.{IsMatch, HasNoMatch}
use Rattle.normalization.specs.Uses.{Use, IsStuck}
use Rattle.normalization.specs.Found.{Found, NoneBefore}

root_of_left : (sig : Sig) (left : Tree) (s : List (Option Tree)) (f : ℕ) (ts : Trees) → IsLeft sig left →
    apply s left ≡ app f ts → (ps : Trees) × (app f ps ≡ left)
root_of_left sig (var n) s f ts is e = absurd is
root_of_left sig (app g ps) s f ts is e =
    let q : app g (apply_all s ps) ≡ app f ts = e in
    let k : f ≡ g = cc in
    (ps, ap (λ h. app h ps) k)

module _ (rules : List Rule) (f : ℕ) (places : List ℕ) (are : places ≡ numbers_of f 0 rules) where
  own_at : (i k : ℕ) → slice_get places i ≡ Some k → slice_get (numbers_of f 0 rules) i ≡ Some k
  own_at i k at = ap (λ xs. slice_get xs i) (sym are) ∙ at

  -- each of the places is a rule's
  pub place_within : (i : ℕ) → i < length places → get_or places i 0 < length rules
  place_within i lt =
      let k = get_or places i 0 in
      let p = place_has_rule f rules i k (own_at i k (slice_get-get_or places i 0 lt)) in
      slice_get_within rules k p.rule p.there

  -- the rule that is read there
  pub rule_at : (slice : List Rule) (i : ℕ) (rule : Rule) → slice ≡ rules → i < length places →
      rule ≡ get_or slice (get_or places i 0) rule → slice_get rules (get_or places i 0) ≡ Some rule
  rule_at slice i rule e lt is =
      let k = get_or places i 0 in
      slice_get_read rules (length rules) k rule refl (place_within i lt) (subst (λ rs. rule ≡ get_or rs k rule) e is)

module _ (spec : Spec) (fine : IsWellSorted spec) (f : ℕ) (ts : Trees) (places : List ℕ)
    (are : places ≡ numbers_of f 0 spec.rules) where
  -- a rule that is used at the root has its place among those of the symbol
  used_place : (m : ℕ) (v : Tree) (u : Use spec m (app f ts) v) → (j : ℕ) × (slice_get places j ≡ Some u.listed.0)
  used_place m v u =
      let left = root_of_left spec.sig u.rule.left u.entries f ts (fine.rules u.listed.0 u.rule u.listed.2).left
      u.left in
      let p = rule_has_place f spec.rules u.listed.0 u.rule u.listed.2 (head_here f f left.0 u.rule.left left.1 refl) in
      (p.0, ap (λ xs. slice_get xs p.0) are ∙ p.1)

  pub found_at : (i k : ℕ) (rule : Rule) (entries : List (Option Tree)) → slice_get places i ≡ Some k →
      slice_get spec.rules k ≡ Some rule → rule.guards ≡ [] → IsMatch rule.left (app f ts) entries →
      NoneBefore spec.rules places (app f ts) i → Found spec (app f ts) k entries
  found_at i k rule entries at listed unguarded matched before = record {
    rule = rule;
    listed = listed;
    unguarded = unguarded;
    matched = matched;
    least = λ m v less u.
        let j = used_place m v u in
        let lower : u.listed.0 < k = omega (arith, u.listed.1, less) in
        let first = ascending f 0 spec.rules j.0 i u.listed.0 k
        (own_at spec.rules f places are j.0 u.listed.0 j.1) (own_at spec.rules f places are i k at) lower in
        before j.0 u.listed.0 u.rule first j.1 u.listed.2 u.unguarded u.entries u.left;
  }

  pub stuck_after : (n : ℕ) → length places ≤ n → NoneBefore spec.rules places (app f ts) n → IsStuck spec (app f ts)
  stuck_after n past before m v u =
      let j = used_place m v u in
      before j.0 u.listed.0 u.rule (omega (arith, slice_get_within places j.0 u.listed.0 j.1)) j.1 u.listed.2
      u.unguarded u.entries u.left

-- one rule more that has guards or doesn't match
pub none_next : (rules : List Rule) (places : List ℕ) (t : Tree) (i place : ℕ) (rule : Rule) →
    slice_get places i ≡ Some place → slice_get rules place ≡ Some rule →
    (rule.guards ≡ [] → HasNoMatch rule.left t) → NoneBefore rules places t i → NoneBefore rules places t (i + 1)
none_next rules places t i place rule at listed none before j k other less there is free =
    let le : j ≤ i = omega arith in
    elim (eq-or-lt_of_le le) as (λ _. HasNoMatch other.left t) [
      | inl e ↦ (
          let p : Some k ≡ Some place = sym there ∙ ap (λ n. slice_get places n) e ∙ at in
          let q : k ≡ place = cc in
          let r : Some other ≡ Some rule = sym is ∙ ap (λ n. slice_get rules n) q ∙ listed in
          let s : rule ≡ other = cc in
          subst (λ (x : Rule). HasNoMatch x.left t) s (none (ap (λ (x : Rule). x.guards) s ∙ free)))
      | inr lower ↦ before j k other lower there is free
    ]
