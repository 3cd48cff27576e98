-- The cases of a clause's variable, after tidying: those of the clause as it was written.
use Rattle.std.proofs.Common.{◌≡◌, ◌≢◌, ℕ, zero, suc, ◌+◌, ◌-◌, ◌<◌, ◌≤◌, ◌⊎◌, cond, leb, List, [], ◌∷◌, ◌++◌, Option}
use Rattle.std.proofs.Common.{Some, inl, inr, map, length, get_or, refl, ap, sym, ◌∙◌, subst, arith}
use Rattle.std.specs.Prelude.{slice_get, slice_set, slice_index_or}
use Rattle.std.specs.List.{AllByRecursion}
use Rattle.std.proofs.lemmas.Bool.Decides.{leb_tells}
use Rattle.std.proofs.lemmas.Option.{get_or_from_slice_get}
use Rattle.std.proofs.lemmas.List.{get_or-set_same, get_or-set_other, get_or_append_left, get_or-append-add, length-map}
use Rattle.std.proofs.lemmas.List.FromFn.{length-map-range_with_len, get_or-map-range_with_len}
use Rattle.term_core.specs.Tree.{Tree, Trees, var, app, none, some, instance, instances, trees_of}
use Rattle.term_core.specs.Variables.{Occurs, OccursAny, occurrences, occurrences_all}
use Rattle.term_core.specs.declared.ids.SortId.{SortId}
use Rattle.term_core.proofs.Numbers.{same_or_not}
use Rattle.spec_core.specs.Declarations.{bool_sort}
use Rattle.substitutions.specs.Substitution.{image, apply, apply_all}
use Rattle.substitutions.proofs.Instances.{apply_values, occurs_apply}
use Rattle.clause_core.specs.Instances.{variables}
use Rattle.clause_core.specs.Covering.{covered_by}
use Rattle.clause_core.specs.Tidied.{place_of, renumbered, renumbered_all, variables_of, tidied}
use Rattle.clause_core.proofs.Renumbering.{Met}
use Rattle.clause_core.proofs.TidiedSorts.{at_place, variables_met}
use Rattle.test_sets.specs.TestSets.{applied}
use Rattle.test_sets.proofs.Variables.{variables_instances}
use Rattle.plain_proof.specs.Cases.{pattern, only, in_case}
use Rattle.plain_proof.specs.Limits.{equation_clause}
use Rattle.plain_proof.proofs.Replaced.{image_here, image_apart}
use Rattle.plain_proof.proofs.RenamedTidying.{renamed, renamed_all, renamed_tidied}

append_all : (P : ℕ → Type 0) (ms ns : List ℕ) → AllByRecursion P ms → AllByRecursion P ns → AllByRecursion P (ms ++ ns)
append_all P [] ns h k = k
append_all P (m ∷ ms) ns h k = (h.0, append_all P ms ns h.1 k)

-- what holds of each variable that occurs holds of all occurrences
mutual
  all_occurring : (P : ℕ → Type 0) (t : Tree) → ((n : ℕ) → Occurs n t → P n) → AllByRecursion P (occurrences t)
  all_occurring P (var n) h = (h n refl, tt)
  all_occurring P (app f ts) h = all_any_occurring P ts h

  pub all_any_occurring : (P : ℕ → Type 0) (ts : Trees) → ((n : ℕ) → OccursAny n ts → P n) →
      AllByRecursion P (occurrences_all ts)
  all_any_occurring P none h = tt
  all_any_occurring P (some t ts) h = append_all P (occurrences t) (occurrences_all ts)
      (all_occurring P t (λ n o. h n (inl o))) (all_any_occurring P ts (λ n o. h n (inr o)))

-- fresh variables under other numbers
fresh_renamed : (r : ℕ → ℕ) (n j count : ℕ) → ((i : ℕ) → r (n + i) ≡ j + i) →
    renamed_all r (trees_of (variables n count)) ≡ trees_of (variables j count)
fresh_renamed r n j zero h = refl
fresh_renamed r n j (suc count) h =
    let z : n + 0 ≡ n = omega arith in
    let y : j + 0 ≡ j = omega arith in
    let first : r n ≡ j = sym (ap r z) ∙ h 0 ∙ y in
    let rest = fresh_renamed r (n + 1) (j + 1) count (λ i.
    let a : n + 1 + i ≡ n + (1 + i) = omega arith in
    let b : j + (1 + i) ≡ j + 1 + i = omega arith in
    ap r a ∙ h (1 + i) ∙ b) in
    λ k. some (var (first k)) (rest k)

fresh_occurs : (n count m : ℕ) → OccursAny m (trees_of (variables n count)) → n ≤ m
fresh_occurs n zero m o = absurd o
fresh_occurs n (suc count) m (inl e) = omega (arith, e)
fresh_occurs n (suc count) m (inr o) = let h = fresh_occurs (n + 1) count m o in omega (arith, h)

-- the numbers of two places are one number
one_place : (olds : List ℕ) (m n : ℕ) → Met olds m → Met olds n → place_of olds m ≡ place_of olds n → m ≡ n
one_place olds m n a b e =
    let p = at_place (λ k. k) olds m a in
    let q = at_place (λ k. k) olds n b in
    let both : Some m ≡ Some n = sym p ∙ ap (λ k. slice_get (map (λ i. i) olds) k) e ∙ q in
    cc

module _ (G : List SortId) (olds : List ℕ) (H : List SortId) (long : length H ≡ length olds) (sorts : (n : ℕ) →
    Met olds n → slice_get H (place_of olds n) ≡ Some (slice_index_or G n bool_sort)) where
  -- the old variables by their places, and the fresh ones after them
  abbrev moved : ℕ → ℕ
  moved n = cond (leb (length G) n) (n - length G + length H) (place_of olds n)

  old_moved : (n : ℕ) → n < length G → moved n ≡ place_of olds n
  old_moved n lt =
      elim (leb_tells (length G) n) as (λ _. moved n ≡ place_of olds n) [
        | inl e ↦ absurd (omega (arith, e.1, lt))
        | inr e ↦ ap (λ b. cond b (n - length G + length H) (place_of olds n)) e.0
      ]

  new_moved : (n : ℕ) → length G ≤ n → moved n ≡ n - length G + length H
  new_moved n le =
      elim (leb_tells (length G) n) as (λ _. moved n ≡ n - length G + length H) [
        | inl e ↦ ap (λ b. cond b (n - length G + length H) (place_of olds n)) e.0
        | inr e ↦ absurd (omega (arith, e.1, le))
      ]

  abbrev Known : ℕ → Type 0
  Known n = (Met olds n × (n < length G)) ⊎ (length G ≤ n)

  one_moved : (m n : ℕ) → Known m → Known n → moved m ≡ moved n → m ≡ n
  one_moved m n (inl a) (inl b) e = one_place olds m n a.0 b.0 (sym (old_moved m a.1) ∙ e ∙ old_moved n b.1)
  one_moved m n (inl a) (inr b) e = absurd (omega (arith, a.0, long, old_moved m a.1, e, new_moved n b))
  one_moved m n (inr a) (inl b) e = absurd (omega (arith, b.0, long, old_moved n b.1, e, new_moved m a))
  one_moved m n (inr a) (inr b) e = omega (arith, e, new_moved m a, new_moved n b, a, b)

  sort_moved : (k : List SortId) (n : ℕ) → Known n →
      slice_index_or (H ++ k) (moved n) bool_sort ≡ slice_index_or (G ++ k) n bool_sort
  sort_moved k n (inl a) =
      ap (λ j. get_or (H ++ k) j bool_sort) (old_moved n a.1)
      ∙ get_or_append_left H k bool_sort (place_of olds n) (omega (arith, a.0, long))
      ∙ get_or_from_slice_get H (place_of olds n) (slice_index_or G n bool_sort) bool_sort (sorts n a.0)
      ∙ sym (get_or_append_left G k bool_sort n a.1)
  sort_moved k n (inr a) =
      let p : moved n ≡ length H + (n - length G) = omega (arith, new_moved n a) in
      let q : length G + (n - length G) ≡ n = omega (arith, a) in
      ap (λ j. get_or (H ++ k) j bool_sort) p
      ∙ get_or-append-add H k (n - length G) bool_sort
      ∙ sym (get_or-append-add G k (n - length G) bool_sort)
      ∙ ap (λ j. get_or (G ++ k) j bool_sort) q

  module _ (x : ℕ) (met : Met olds x) (k : ℕ × List SortId) where
    abbrev put : Tree
    put = instance (variables (length H) (length k.1)) (applied k)

    put_is : put ≡ renamed moved (pattern G k)
    put_is =
        let count = length k.1 in
        let n : length (variables (length H) count) ≡ count = length-map-range_with_len (λ j. var j) (length H) count in
        let a : instances (variables (length H) count) (trees_of (variables 0 count)) ≡ trees_of
        (variables (length H) count) = ap
        (λ j. instances (variables (length H) count) (trees_of (variables 0 j))) (sym n)
        ∙ variables_instances (variables (length H) count) in
        let b = fresh_renamed moved (length G) (length H) count
        (λ i. let e : length G ≤ length G + i = omega arith in omega (arith, new_moved (length G + i) e)) in
        ap (λ ts. app k.0 ts) (a ∙ sym b)

    abbrev entries : List (Option Tree)
    entries = map (λ (t : Tree). Some t) (slice_set (variables 0 (length H)) (place_of olds x) put)

    image_of : (n : ℕ) → Met olds n → n < length G →
        image entries (place_of olds n) ≡ renamed moved (image (only x (pattern G k)) n)
    image_of n h lt =
        let m = length H in
        let v = place_of olds x in
        let j = place_of olds n in
        let listed : length (variables 0 m) ≡ m = length-map-range_with_len (λ i. var i) 0 m in
        let read : image entries j ≡ get_or (slice_set (variables 0 m) v put) j (var j) = apply_values
        (slice_set (variables 0 m) v put) (var j) in
        elim (same_or_not n x) as (λ _. image entries j ≡ renamed moved (image (only x (pattern G k)) n)) [
          | inl e ↦ (
              let same : get_or (slice_set (variables 0 m) v put) v (var v) ≡ put = get_or-set_same
              (variables 0 m) v put (var v) (omega (arith, listed, long, met)) in
              read ∙ ap (λ i. get_or (slice_set (variables 0 m) v put) (place_of olds i)
              (var (place_of olds i))) e ∙ same ∙ put_is
              ∙ ap (λ t. renamed moved t)
              (sym (ap (λ i. image (only x (pattern G k)) i) e ∙ image_here x (pattern G k))))
          | inr ne ↦ (
              let apart : j ≢ v = λ e. ne (one_place olds n x h met e) in
              read
              ∙ get_or-set_other (variables 0 m) v j put (var j) apart
              ∙ get_or-map-range_with_len (λ i. var i) 0 m j j (var j) (omega (arith, h, long)) (omega arith)
              ∙ ap (λ i. var i) (sym (old_moved n lt))
              ∙ ap (λ t. renamed moved t) (sym (image_apart x (pattern G k) n ne)))
        ]

    mutual
      case_moved : (t : Tree) → ((n : ℕ) → Occurs n t → Met olds n × (n < length G)) →
          apply entries (renumbered olds t) ≡ renamed moved (in_case G x k t)
      case_moved (var n) h = let o = h n refl in image_of n o.0 o.1
      case_moved (app f ts) h = ap (λ us. app f us) (cases_moved ts h)

      cases_moved : (ts : Trees) → ((n : ℕ) → OccursAny n ts → Met olds n × (n < length G)) →
          apply_all entries (renumbered_all olds ts) ≡ renamed_all moved (apply_all (only x (pattern G k)) ts)
      cases_moved none h = refl
      cases_moved (some t ts) h =
          let a = case_moved t (λ n o. h n (inl o)) in
          let b = cases_moved ts (λ n o. h n (inr o)) in
          λ i. some (a i) (b i)

    known : (t : Tree) → ((n : ℕ) → Occurs n t → Met olds n × (n < length G)) → (n : ℕ) →
        Occurs n (in_case G x k t) → Known n
    known t h n o =
        let w = occurs_apply t (only x (pattern G k)) n o in
        let here = h w.0 w.1 in
        elim (same_or_not w.0 x) as (λ _. Known n) [
          | inl e ↦ inr (fresh_occurs (length G) (length k.1) n
              (subst (λ u. Occurs n u) (ap (λ i. image (only x (pattern G k)) i) e ∙ image_here x (pattern G k)) w.2))
          | inr ne ↦ (
              let is : n ≡ w.0 = subst (λ u. Occurs n u) (image_apart x (pattern G k) w.0 ne) w.2 in
              inl (subst (λ i. Met olds i) (sym is) here.0, omega (arith, is, here.1)))
        ]

-- the case of a tidied clause's variable, tidied, is that of the clause as it was written
pub case_tidied : (G : List SortId) (a b : Tree) (x : ℕ) (k : ℕ × List SortId) →
    ((n : ℕ) → Occurs n a ⊎ Occurs n b → n < length G) → Occurs x a ⊎ Occurs x b →
    tidied (covered_by (tidied (equation_clause G a b)) (place_of (variables_of (equation_clause G a b)) x)
    (k.1, applied k)) ≡ tidied (equation_clause (G ++ k.1) (in_case G x k a) (in_case G x k b))
case_tidied G a b x k ranges occurs =
    let c = equation_clause G a b in
    let olds = variables_of c in
    let H = (tidied c).ctx in
    let long : length H ≡ length olds = length-map olds (λ n. slice_index_or G n bool_sort) in
    let sorts = λ (n : ℕ) (m : Met olds n). at_place (λ i. slice_index_or G i bool_sort) olds n m in
    let left : (n : ℕ) → Occurs n a → Met olds n × (n < length G) = λ n o. (
      variables_met c n (inl o),
      ranges n (inl o),
    ) in
    let right : (n : ℕ) → Occurs n b → Met olds n × (n < length G) = λ n o. (
      variables_met c n (inr (inl o)),
      ranges n (inr o),
    ) in
    let met : Met olds x = elim occurs as (λ _. Met olds x) [ inl o ↦ (left x o).0 | inr o ↦ (right x o).0 ] in
    let l = case_moved G olds H long sorts x met k a left in
    let r = case_moved G olds H long sorts x met k b right in
    let P = Known G olds H long sorts in
    let all = all_any_occurring P (some (in_case G x k a) (some (in_case G x k b) none)) (λ n o.
    elim o as (λ _. P n) [
      | inl p ↦ known G olds H long sorts x met k a left n p
      | inr q ↦ elim q as (λ _. P n) [ inl p ↦ known G olds H long sorts x met k b right n p | inr z ↦ absurd z ]
    ]) in
    (λ i. tidied (equation_clause (H ++ k.1) (l i) (r i)))
    ∙ renamed_tidied (moved G olds H long sorts) P (one_moved G olds H long sorts) (G ++ k.1) (H ++ k.1)
    (in_case G x k a) (in_case G x k b) all (sort_moved G olds H long sorts k.1)
