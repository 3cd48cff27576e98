-- Terms whose symbols have few arguments, under substitutions and uses of rules.
use Rattle.std.proofs.Common.{◌≡◌, ℕ, zero, suc, length, sym, inl, inr, List, ◌∷◌, [], map, Some, None, Option, refl}
use Rattle.std.proofs.Common.{ap, ◌∙◌, subst, arith}
use Rattle.std.specs.List.{range_with_len}
use Rattle.std.proofs.lemmas.List.FromFn.{length-map-range_with_len}
use Rattle.std.specs.Prelude.{slice_get, slice_set}
use Rattle.term_core.specs.Tree.{Tree, Trees, var, app, none, some, trees_of, list_of}
use Rattle.term_core.specs.Places.{IsAt, IsReplaced}
use Rattle.term_core.specs.Variables.{Occurs, OccursAny}
use Rattle.term_core.specs.declared.ids.SortId.{SortId}
use Rattle.term_core.proofs.Trees.{trees_of-list_of, list_of-trees_of}
use Rattle.spec_core.specs.declared.records.SymInfo.{SymInfo}
use Rattle.spec_core.specs.Sig.{info_of}
use Rattle.spec_core.specs.Sorts.{Sorted}
use Rattle.clause_core.specs.Instances.{variables}
use Rattle.spec_core.specs.declared.records.Spec.{Spec}
use Rattle.spec_core.specs.WellSorted.{IsWellSorted, sorts_of}
use Rattle.spec_core.proofs.Determined.{occurs_within}
use Rattle.substitutions.specs.Substitution.{image, apply, apply_all}
use Rattle.normalization.specs.Narrow.{IsNarrow, AreNarrow}
use Rattle.normalization.specs.FirstUses.{IsFirstUse}
use Rattle.normalization.proofs.Fine.{sorted_narrow}
use Rattle.plain_proof.specs.Cases.{pattern, only, in_case}
use Rattle.plain_proof.proofs.Replaced.{only_image}

count_same : (s : List (Option Tree)) (ts : Trees) → length (list_of (apply_all s ts)) ≡ length (list_of ts)
count_same s none = refl
count_same s (some t ts) = ap (λ n. suc n) (count_same s ts)

mutual
  image_narrow : (s : List (Option Tree)) (t : Tree) (n : ℕ) → IsNarrow (apply s t) → Occurs n t → IsNarrow (image s n)
  image_narrow s (var m) n h o = subst (λ j. IsNarrow (image s j)) (sym o) h
  image_narrow s (app f ts) n h o = images_narrow s ts n h.1 o

  images_narrow : (s : List (Option Tree)) (ts : Trees) (n : ℕ) → AreNarrow (apply_all s ts) → OccursAny n ts →
      IsNarrow (image s n)
  images_narrow s none n h o = absurd o
  images_narrow s (some t ts) n h (inl o) = image_narrow s t n h.0 o
  images_narrow s (some t ts) n h (inr o) = images_narrow s ts n h.1 o

mutual
  pub apply_narrow : (s : List (Option Tree)) (t : Tree) → IsNarrow t →
      ((n : ℕ) → Occurs n t → IsNarrow (image s n)) → IsNarrow (apply s t)
  apply_narrow s (var n) h i = i n refl
  apply_narrow s (app f ts) h i = (omega (arith, h.0, count_same s ts), apply_all_narrow s ts h.1 i)

  apply_all_narrow : (s : List (Option Tree)) (ts : Trees) → AreNarrow ts →
      ((n : ℕ) → OccursAny n ts → IsNarrow (image s n)) → AreNarrow (apply_all s ts)
  apply_all_narrow s none h i = tt
  apply_all_narrow s (some t ts) h i = (
    apply_narrow s t h.0 (λ n o. i n (inl o)),
    apply_all_narrow s ts h.1 (λ n o. i n (inr o)),
  )

argument_narrow : (ts : Trees) (k : ℕ) (t : Tree) → slice_get (list_of ts) k ≡ Some t → AreNarrow ts → IsNarrow t
argument_narrow none k t at n = absurd (let q : None ≡ Some t = at in cc)
argument_narrow (some u ts) zero t at n = let q : Some u ≡ Some t = at in let e : u ≡ t = cc in
    subst (λ x. IsNarrow x) e n.0
argument_narrow (some u ts) (suc k) t at n = argument_narrow ts k t at n.1

narrow_at : (p : List ℕ) (t s : Tree) → IsAt p t s → IsNarrow t → IsNarrow s
narrow_at [] t s at n = subst (λ x. IsNarrow x) (sym at) n
narrow_at (j ∷ p) (var m) s at n = absurd at
narrow_at (j ∷ p) (app f ts) s at n = narrow_at p at.0 s at.2 (argument_narrow ts at.1.0 at.0 at.1.2 n.1)

set_narrow : (ts : Trees) (k : ℕ) (t : Tree) → AreNarrow ts → IsNarrow t →
    AreNarrow (trees_of (slice_set (list_of ts) k t))
set_narrow none k t h n = tt
set_narrow (some u ts) zero t h n = (n, subst (λ us. AreNarrow us) (sym (trees_of-list_of ts)) h.1)
set_narrow (some u ts) (suc k) t h n = (h.0, set_narrow ts k t h.1 n)

set_count : (ts : Trees) (k : ℕ) (t : Tree) →
    length (list_of (trees_of (slice_set (list_of ts) k t))) ≡ length (list_of ts)
set_count none k t = refl
set_count (some u ts) zero t = ap (λ us. suc (length (list_of us))) (trees_of-list_of ts)
set_count (some u ts) (suc k) t = ap (λ n. suc n) (set_count ts k t)

made_narrow : (p : List ℕ) (t new u : Tree) → IsReplaced p t new u → IsNarrow t → IsNarrow new → IsNarrow u
made_narrow [] t new u r h n = subst (λ x. IsNarrow x) (sym r) n
made_narrow (j ∷ p) (var m) new u r h n = absurd r
made_narrow (j ∷ p) (app f ts) new u r h n =
    let c = made_narrow p r.0 new r.1 r.4 (argument_narrow ts r.3.0 r.0 r.3.2 h.1) n in
    let us = trees_of (slice_set (list_of ts) r.5.0 r.1) in
    let k : IsNarrow (app f us) = (omega (arith, h.0, set_count ts r.5.0 r.1), set_narrow ts r.5.0 r.1 h.1 c) in
    subst (λ x. IsNarrow x) (sym r.6) (subst (λ xs. IsNarrow (app f xs)) (sym r.5.2) k)

-- a term keeps few arguments after a use
pub use_narrow : (spec : Spec) → IsWellSorted spec → (t u : Tree) (p : List ℕ) (k : ℕ) →
    IsFirstUse spec t p k u → IsNarrow t → IsNarrow u
use_narrow spec fine t u p k w h =
    let x = w.rule in
    let sorted = fine.rules x.listed.0 x.rule x.listed.2 in
    let old : IsNarrow (apply x.entries x.rule.left) = subst (λ y. IsNarrow y) (sym x.left)
    (narrow_at p t w.old w.at h) in
    let right = sorted_narrow spec.sig (sorts_of x.rule.vars) x.rule.right sorted.sides.0 fine.arities sorted.sides.2 in
    let new : IsNarrow (apply x.entries x.rule.right) = apply_narrow x.entries x.rule.right right
    (λ n o. image_narrow x.entries x.rule.left n old
    (sorted.bound n (occurs_within spec.sig (sorts_of x.rule.vars) x.rule.right sorted.sides.0
    sorted.sides.2 n o))) in
    made_narrow p t w.new u w.made h (subst (λ y. IsNarrow y) (sym x.right) new)

variables_narrow : (ns : List ℕ) → AreNarrow (trees_of (map (λ n. var n) ns))
variables_narrow [] = tt
variables_narrow (n ∷ ns) = (tt, variables_narrow ns)

-- a case of a sorted term
pub case_narrow : (spec : Spec) → IsWellSorted spec → (ctx : List SortId) (x f : ℕ) (i : SymInfo) →
    info_of spec.sig f ≡ Some i → (t : Tree) (s : SortId) → Sorted spec.sig ctx t s →
    IsNarrow (in_case ctx x (f, i.args) t)
case_narrow spec fine ctx x f i at t s sorted =
    let count = length (i.args) in
    let long : length (list_of (trees_of (variables (length ctx) count))) ≡ count = ap
    (λ (ts : List Tree). length ts) (list_of-trees_of (variables (length ctx) count))
    ∙ length-map-range_with_len (λ n. var n) (length ctx) count in
    let here : IsNarrow (pattern ctx (f, i.args)) = (
      omega (arith, long, fine.arities f i at),
      variables_narrow (range_with_len (length ctx) count),
    ) in
    apply_narrow (only x (pattern ctx (f, i.args))) t (sorted_narrow spec.sig ctx t s fine.arities sorted)
    (λ n o. only_image x (pattern ctx (f, i.args)) IsNarrow here (λ m. tt) n)
