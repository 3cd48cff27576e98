-- What a substitution that matches a rule's left side says of the rule's instances.
use Rattle.std.proofs.Common.{◌≡◌, ℕ, zero, suc, ◌+◌, ◌<◌, List, [], ◌∷◌, Option, Some, inl, inr, map, length, refl}
use Rattle.std.proofs.Common.{ap, sym, ◌∙◌, subst, arith}
use Rattle.std.specs.Prelude.{slice_index_or}
use Rattle.std.specs.List.{AllByRecursion}
use Rattle.std.proofs.lemmas.List.{length-map}
use Rattle.term_core.specs.Tree.{Tree, Trees, var, app, none, some, instance, instances}
use Rattle.term_core.specs.Variables.{Occurs, OccursAny}
use Rattle.term_core.proofs.Numbered.{numbered_below}
use Rattle.term_core.specs.declared.ids.SortId.{SortId}
use Rattle.spec_core.specs.declared.records.Guard.{Guard}
use Rattle.spec_core.specs.declared.records.Rule.{Rule}
use Rattle.spec_core.specs.declared.records.VarInfo.{VarInfo}
use Rattle.spec_core.specs.Declarations.{bool_sort}
use Rattle.spec_core.specs.Gives.{boolean}
use Rattle.spec_core.specs.Sig.{Sig}
use Rattle.spec_core.specs.Sorts.{Sorted}
use Rattle.spec_core.specs.WellSorted.{RuleIsSorted, sorts_of}
use Rattle.spec_core.proofs.Determined.{occurs_within}
use Rattle.substitutions.specs.Substitution.{image, apply, apply_all}
use Rattle.substitutions.proofs.Instances.{apply_values, apply_same, images_agree}
use Rattle.clause_core.specs.RuleInstances.{IsInstance, guard_equation, guard_equations}
use Rattle.cond_rewrite.specs.Applied.{applied_guard}

-- the images of this many variables from one on
images : List (Option Tree) → ℕ → ℕ → List Tree
images s zero n = []
images s (suc k) n = image s n ∷ images s k (suc n)

length_images : (s : List (Option Tree)) (k n : ℕ) → length (images s k n) ≡ k
unfolding images
length_images s zero n = refl
length_images s (suc k) n = ap suc (length_images s k (suc n))

image_at : (s : List (Option Tree)) (k n i : ℕ) (d : Tree) → i < k → slice_index_or (images s k n) i d ≡ image s (n + i)
unfolding images
image_at s zero n i d lt = absurd (omega arith)
image_at s (suc k) n zero d lt = let e : n ≡ n + 0 = omega arith in ap (λ m. image s m) e
image_at s (suc k) n (suc i) d lt = let e : suc n + i ≡ n + suc i = omega arith in
    image_at s k (suc n) i d (omega arith) ∙ ap (λ m. image s m) e

mutual
  of_images : (s : List (Option Tree)) (k : ℕ) (t : Tree) → ((n : ℕ) → Occurs n t → n < k) →
      instance (images s k 0) t ≡ apply s t
  of_images s k (var n) h = let e : 0 + n ≡ n = omega arith in image_at s k 0 n (var n) (h n refl)
      ∙ ap (λ m. image s m) e
  of_images s k (app f ts) h = ap (λ us. app f us) (all_of_images s k ts h)

  all_of_images : (s : List (Option Tree)) (k : ℕ) (ts : Trees) → ((n : ℕ) → OccursAny n ts → n < k) →
      instances (images s k 0) ts ≡ apply_all s ts
  all_of_images s k none h = refl
  all_of_images s k (some t ts) h =
      let p : instance (images s k 0) t ≡ apply s t = of_images s k t (λ n o. h n (inl o)) in
      let q : instances (images s k 0) ts ≡ apply_all s ts = all_of_images s k ts (λ n o. h n (inr o)) in
      λ i. some (p i) (q i)

-- terms and a substitution that make the same of a left side do so of a term over its variables
pub same_over : (left : Tree) (terms : List Tree) (s : List (Option Tree)) →
    instance terms left ≡ apply s left → (u : Tree) → ((n : ℕ) → Occurs n u → Occurs n left) →
    instance terms u ≡ apply s u
same_over left terms s e u h =
    sym (apply_values terms u) ∙ apply_same u (map (λ (t : Tree). Some t) terms) s
    (λ n o. images_agree left (map (λ (t : Tree). Some t) terms) s (apply_values terms left ∙ e) n (h n o))

-- the variables of what is sorted over a rule's variables are on its left side
pub on_left : (sig : Sig) (rule : Rule) → RuleIsSorted sig rule → (u : Tree) (sort : SortId) →
    Sorted sig (sorts_of rule.vars) u sort → (n : ℕ) → Occurs n u → Occurs n rule.left
on_left sig rule fine u sort sorted n o = fine.bound n (occurs_within sig (sorts_of rule.vars) u sort sorted n o)

module _ (sig : Sig) (rule : Rule) (fine : RuleIsSorted sig rule) where
  -- a term that the left side matches is an instance of it
  pub is_instance : (s : List (Option Tree)) (t : Tree) → apply s rule.left ≡ t → IsInstance rule t
  is_instance s t m =
      let count : length (sorts_of rule.vars) ≡ length rule.vars = length-map rule.vars (λ (v : VarInfo). v.sort) in
      record {
        terms = images s (length rule.vars) 0;
        long = length_images s (length rule.vars) 0;
        is = of_images s (length rule.vars) rule.left
            (λ n o. omega (
              arith,
              numbered_below 0 (length (sorts_of rule.vars)) rule.left fine.numbered n o,
              count,
            )) ∙ m;
      }

  module _ (left : Tree) (same : left ≡ rule.left) (terms : List Tree) (s : List (Option Tree))
      (e : instance terms left ≡ apply s left) where
    over : (u : Tree) (sort : SortId) → Sorted sig (sorts_of rule.vars) u sort → instance terms u ≡ apply s u
    over u sort sorted = same_over left terms s e u
        (λ n o. subst (λ t. Occurs n t) (sym same) (on_left sig rule fine u sort sorted n o))

    -- the right side has one instance by both, and so has each guard
    pub same_right : instance terms rule.right ≡ apply s rule.right
    same_right = over rule.right fine.sides.0 fine.sides.2

    each_guard : (gs : List Guard) →
        AllByRecursion (λ (g : Guard). Sorted sig (sorts_of rule.vars) g.test bool_sort) gs →
        map (guard_equation terms) gs ≡ map (applied_guard s) gs
    each_guard [] h = refl
    each_guard (g ∷ gs) h =
        let p : instance terms g.test ≡ apply s g.test = over g.test bool_sort h.0 in
        let q : map (guard_equation terms) gs ≡ map (applied_guard s) gs = each_guard gs h.1 in
        λ i. record { left = p i; right = boolean g.wanted } ∷ q i

    pub same_guards : guard_equations terms rule ≡ map (applied_guard s) rule.guards
    same_guards = each_guard rule.guards fine.guards
