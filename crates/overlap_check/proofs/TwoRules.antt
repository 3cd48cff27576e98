-- What unification tells of the left sides of two rules.
use Rattle.std.proofs.Common.{◌≡◌, ◌≢◌, ℕ, List, Option, Some, refl, ap, sym, ◌∙◌, subst, length, map}
use Rattle.std.proofs.lemmas.List.{length-map}
use Rattle.term_core.specs.Tree.{Tree, Trees, var, app, instance, trees_of}
use Rattle.spec_core.specs.declared.records.VarInfo.{VarInfo}
use Rattle.spec_core.specs.declared.records.Rule.{Rule}
use Rattle.spec_core.specs.Sig.{Sig}
use Rattle.spec_core.specs.Small.{AreSmall}
use Rattle.spec_core.specs.WellSorted.{RuleIsSorted, IsLeft, sorts_of}
use Rattle.substitutions.specs.Substitution.{apply}
use Rattle.unifier.specs.Shifting.{shifted}
use Rattle.unifier.specs.Unification.{IsMostGeneral, KeepsSorts, HaveNoUnifier}
use Rattle.overlap_check.specs.Overlaps.{HaveOverlap}
use Rattle.overlap_check.specs.NamedValues.{sorts_of_both, left_apart}
use Rattle.overlap_check.specs.Searches.{AreCommonTo}
use Rattle.overlap_check.proofs.Unified.{unifier_of_match, named_match}
use Rattle.substitutions.proofs.Instances.{apply_values}

left_call : (sig : Sig) (left : Tree) (s z : List (Option Tree)) → IsLeft sig left → (f : ℕ) × (ts : Trees)
    × (apply z (apply s left) ≡ app f ts)
left_call sig (var n) s z l = absurd l
left_call sig (app f ts) s z l = (f, _, refl)

module _ (sig : Sig) (r q : Rule) (a : RuleIsSorted sig r) (b : RuleIsSorted sig q) where
  count : length (sorts_of r.vars) ≡ length r.vars
  count = length-map r.vars (λ (v : VarInfo). v.sort)

  module _ (by : ℕ) (other : Tree) (few : by ≡ length r.vars) (is : other ≡ shifted by q.left) where
    other_apart : other ≡ left_apart r q
    other_apart = is ∙ ap (λ n. shifted n q.left) few

    other_is : other ≡ shifted (length (sorts_of r.vars)) q.left
    other_is = other_apart ∙ ap (λ n. shifted n q.left) (sym count)

    -- if there is no unifier, no values match both
    pub not_unified : HaveNoUnifier r.left other → HaveOverlap sig r.left q.left → ⊥
    not_unified never h =
        let m = h.1.1 in
        let e : instance m.matches_left.0 r.left ≡ instance m.matches_other.0 q.left = m.matches_left.1
        ∙ sym m.matches_other.1 in
        let u = unifier_of_match sig (sorts_of r.vars) (sorts_of q.vars) r.left q.left a.numbered b.numbered
        m.matches_left.0 m.matches_other.0 e in
        never u.0 (u.1 ∙ ap (λ t. apply u.0 t) (sym other_is))

    module _ (s entries : List (Option Tree)) (xs : List Tree) (applied call : Tree)
        (made : entries ≡ map (λ x. Some x) xs) (once : applied ≡ apply s r.left)
        (twice : call ≡ apply entries applied) where
      -- the instance is a call
      pub is_call : (f : ℕ) × (ts : Trees) × (call ≡ app f ts)
      is_call =
          let h = left_call sig r.left s entries a.left in
          (h.0, h.1, twice ∙ ap (λ t. apply entries t) once ∙ h.2)

      -- and its arguments are the values named for both
      pub are_common : r.left ≢ q.left → IsMostGeneral r.left other s → KeepsSorts r.left other s →
          AreSmall sig (sorts_of_both r q) (trees_of xs) → (f : ℕ) (vs : Trees) → call ≡ app f vs →
          AreCommonTo sig r q vs
      are_common different general keeps small f vs e =
          let named : instance xs (apply s r.left) ≡ app f vs = sym (apply_values xs (apply s r.left))
          ∙ ap (λ t. apply (map (λ x. Some x) xs) t) (sym once) ∙ ap (λ es. apply es applied) (sym made)
          ∙ sym twice ∙ e in
          record {
            different = different;
            match_both = named_match sig (sorts_of r.vars) (sorts_of q.vars) r.left q.left a.numbered b.numbered
                a.left b.left a.sides.0 b.sides.0 a.sides.1 b.sides.1 s
                (subst (λ t. IsMostGeneral r.left t s) other_is general)
                (subst (λ t. KeepsSorts r.left t s) other_is keeps) xs small f vs named;
            named = record {
              unifier = s;
              most_general = subst (λ t. IsMostGeneral r.left t s) other_apart general;
              keeps_sorts = subst (λ t. KeepsSorts r.left t s) other_apart keeps;
              smalls = xs;
              are_small = small;
              function = f;
              call = named;
            };
          }
