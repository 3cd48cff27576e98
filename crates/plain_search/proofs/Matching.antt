-- Whether a tidied clause of one equation has another equation as an instance by sorted terms.
use Rattle.std.proofs.Common.{◌≡◌, ◌≢◌, ◌⊎◌, ℕ, suc, ◌<◌, ◌==◌, cond, List, [], ◌∷◌, Option, Some, None, inl, inr}
use Rattle.std.proofs.Common.{refl, ap, sym, ◌∙◌, subst, length, get_or, arith}
use Rattle.std.specs.Prelude.{slice_get}
use Rattle.std.proofs.lemmas.Bool.Decides.{eqb_tells}
use Rattle.term_core.specs.Tree.{Tree, Trees, var, app, none, some, trees_of}
use Rattle.term_core.specs.Variables.{Occurs, OccursAny, NumberedAll}
use Rattle.term_core.specs.declared.ids.SortId.{SortId}
use Rattle.term_core.proofs.Numbers.{same_or_not}
use Rattle.term_core.proofs.SameTrees.{same_tree_or_not}
use Rattle.spec_core.specs.declared.records.Equation.{Equation}
use Rattle.spec_core.specs.declared.records.SymInfo.{SymInfo}
use Rattle.spec_core.specs.Sig.{Sig, info_of}
use Rattle.spec_core.specs.Sorts.{Sorted, SortedAll}
use Rattle.spec_core.proofs.Values.{numbered_occur}
use Rattle.substitutions.specs.Substitution.{image, apply, apply_all}
use Rattle.substitutions.proofs.Instances.{apply_values}
use Rattle.plain_search.specs.Choices.{with_terms}
use Rattle.plain_search.proofs.Renamings.{tabulated, tabulated_long, tabulated_image, entries_of}

-- what is in a term where a variable is in another one of the same form
abbrev mutual
  found : ℕ → Tree → Tree → Tree → Tree
  found n (var m) t d = cond (m == n) t d
  found n (app f ts) (var k) d = d
  found n (app f ts) (app g us) d = found_all n ts us d

  found_all : ℕ → Trees → Trees → Tree → Tree
  found_all n none us d = d
  found_all n (some t ts) none d = d
  found_all n (some t ts) (some u us) d = found n t u (found_all n ts us d)

-- in an instance nothing else is found
mutual
  found_same : (s : List (Option Tree)) (n : ℕ) (t d : Tree) → d ≡ image s n → found n t (apply s t) d ≡ image s n
  found_same s n (var m) d h = elim (eqb_tells m n) as (λ _. cond (m == n) (image s m) d ≡ image s n) [
    | inl e ↦ ap (λ b. cond b (image s m) d) e.0 ∙ ap (λ k. image s k) e.1
    | inr e ↦ ap (λ b. cond b (image s m) d) e.0 ∙ h
  ]
  found_same s n (app f ts) d h = found_all_same s n ts d h

  found_all_same : (s : List (Option Tree)) (n : ℕ) (ts : Trees) (d : Tree) → d ≡ image s n →
      found_all n ts (apply_all s ts) d ≡ image s n
  found_all_same s n none d h = h
  found_all_same s n (some t ts) d h = found_same s n t (found_all n ts (apply_all s ts) d) (found_all_same s n ts d h)

-- and the image of each variable that occurs is found
mutual
  found_image : (s : List (Option Tree)) (n : ℕ) (t d : Tree) → Occurs n t → found n t (apply s t) d ≡ image s n
  found_image s n (var m) d o = elim (eqb_tells m n) as (λ _. cond (m == n) (image s m) d ≡ image s n) [
    | inl e ↦ ap (λ b. cond b (image s m) d) e.0 ∙ ap (λ k. image s k) e.1
    | inr e ↦ absurd (e.1 (sym o))
  ]
  found_image s n (app f ts) d o = found_all_image s n ts d o

  found_all_image : (s : List (Option Tree)) (n : ℕ) (ts : Trees) (d : Tree) → OccursAny n ts →
      found_all n ts (apply_all s ts) d ≡ image s n
  found_all_image s n none d o = absurd o
  found_all_image s n (some t ts) d (inl o) = found_image s n t (found_all n ts (apply_all s ts) d) o
  found_all_image s n (some t ts) d (inr o) = found_same s n t (found_all n ts (apply_all s ts) d)
      (found_all_image s n ts d o)

-- a sort is decided
module _ (sig : Sig) (ctx : List SortId) where
  sort_or_not : (a b : SortId) → (a ≡ b) ⊎ (a ≢ b)
  sort_or_not a b = elim (same_or_not a.0 b.0) as (λ _. (a ≡ b) ⊎ (a ≢ b)) [
    | inl e ↦ inl (λ i. record { 0 = e i })
    | inr d ↦ inr (λ e. d (ap (λ (x : SortId). x.0) e))
  ]

  var_or_not : (n : ℕ) (s : SortId) (o : Option SortId) → slice_get ctx n ≡ o → Sorted sig ctx (var n) s
      ⊎ (Sorted sig ctx (var n) s → ⊥)
  var_or_not n s None e = inr (λ h. let q : None ≡ Some s = sym e ∙ h in cc)
  var_or_not n s (Some r) e = elim (sort_or_not r s) as (λ _. Sorted sig ctx (var n) s
      ⊎ (Sorted sig ctx (var n) s → ⊥)) [
        | inl k ↦ inl (e ∙ ap (λ (x : SortId). Some x) k)
        | inr d ↦ inr (λ h. d (let q : Some r ≡ Some s = sym e ∙ h in cc))
      ]

  no_info : (f : ℕ) (ts : Trees) (s : SortId) → info_of sig f ≡ None → Sorted sig ctx (app f ts) s → ⊥
  no_info f ts s e h = let q : None ≡ Some h.0 = sym e ∙ h.1 in cc

  one_info : (f : ℕ) (ts : Trees) (s : SortId) (i : SymInfo) → info_of sig f ≡ Some i →
      (h : Sorted sig ctx (app f ts) s) → h.0 ≡ i
  one_info f ts s i e h = let q : Some h.0 ≡ Some i = sym h.1 ∙ e in cc

  by_info :
      (f : ℕ) (ts : Trees) (s : SortId) →
      ((ss : List SortId) → SortedAll sig ctx ts ss ⊎ (SortedAll sig ctx ts ss → ⊥)) →
      (o : Option SymInfo) → info_of sig f ≡ o → Sorted sig ctx (app f ts) s ⊎ (Sorted sig ctx (app f ts) s → ⊥)
  by_info f ts s args None e = inr (no_info f ts s e)
  by_info f ts s args (Some i) e = elim (sort_or_not i.result s) as (λ _. Sorted sig ctx (app f ts) s
      ⊎ (Sorted sig ctx (app f ts) s → ⊥)) [
        | inr d ↦ inr (λ h. d (subst (λ (x : SymInfo). x.result ≡ s) (one_info f ts s i e h) h.2))
        | inl k ↦ elim (args i.args) as (λ _. Sorted sig ctx (app f ts) s ⊎ (Sorted sig ctx (app f ts) s → ⊥)) [
          | inl all ↦ inl (i, e, k, all)
          | inr d ↦ inr (λ h. d (subst (λ (x : SymInfo). SortedAll sig ctx ts x.args) (one_info f ts s i e h) h.3))
        ]
      ]

  mutual
    sorted_or_not : (t : Tree) (s : SortId) → Sorted sig ctx t s ⊎ (Sorted sig ctx t s → ⊥)
    sorted_or_not (var n) s = var_or_not n s (slice_get ctx n) refl
    sorted_or_not (app f ts) s = by_info f ts s (λ ss. all_sorted_or_not ts ss) (info_of sig f) refl

    pub all_sorted_or_not : (ts : Trees) (ss : List SortId) → SortedAll sig ctx ts ss ⊎ (SortedAll sig ctx ts ss → ⊥)
    all_sorted_or_not none [] = inl tt
    all_sorted_or_not none (s ∷ ss) = inr (λ h. h)
    all_sorted_or_not (some t ts) [] = inr (λ h. h)
    all_sorted_or_not (some t ts) (s ∷ ss) = elim (sorted_or_not t s) as
        (λ _. SortedAll sig ctx (some t ts) (s ∷ ss) ⊎ (SortedAll sig ctx (some t ts) (s ∷ ss) → ⊥)) [
          | inr d ↦ inr (λ h. d h.0)
          | inl p ↦ elim (all_sorted_or_not ts ss) as (λ _. SortedAll sig ctx (some t ts) (s ∷ ss)
              ⊎ (SortedAll sig ctx (some t ts) (s ∷ ss) → ⊥)) [
                | inl q ↦ inl (p, q)
                | inr d ↦ inr (λ h. d h.1)
              ]
        ]

pub sorted_long : (sig : Sig) (ctx : List SortId) (ts : List Tree) (ss : List SortId) →
    SortedAll sig ctx (trees_of ts) ss → length ts ≡ length ss
sorted_long sig ctx [] [] h = refl
sorted_long sig ctx [] (s ∷ ss) h = absurd h
sorted_long sig ctx (t ∷ ts) [] h = absurd h
sorted_long sig ctx (t ∷ ts) (s ∷ ss) h = ap (λ n. suc n) (sorted_long sig ctx ts ss h.1)

-- lists with the same items
same_items : (d : ℕ → Tree) (xs ys : List Tree) → length xs ≡ length ys →
    ((n : ℕ) → n < length xs → get_or xs n (d n) ≡ get_or ys n (d n)) → xs ≡ ys
same_items d [] [] long h = refl
same_items d [] (y ∷ ys) long h = absurd (omega (arith, long))
same_items d (x ∷ xs) [] long h = absurd (omega (arith, long))
same_items d (x ∷ xs) (y ∷ ys) long h =
    let one : x ≡ y = h 0 (omega arith) in
    let rest = same_items (λ n. d (suc n)) xs ys (omega (arith, long)) (λ n lt. h (suc n) (omega (arith, lt))) in
    λ i. one i ∷ rest i

-- terms for the variables of an equation, which are numbered by first occurrence, that make it another one
module _ (sig : Sig) (sctx ctx : List SortId) (first e : Equation)
    (numbered : NumberedAll 0 (some first.left (some first.right none)) (length sctx)) where
  pub record Fit (terms : List Tree) : Type 0 where
    pub is : with_terms terms (first ∷ []) ≡ e ∷ []
    pub sorted : SortedAll sig ctx (trees_of terms) sctx

  abbrev candidate : ℕ → Tree
  candidate n = found n first.left e.left (found n first.right e.right (var 0))

  abbrev candidates : List Tree
  candidates = tabulated candidate (length sctx)

  sides_are : (terms : List Tree) → Fit terms → (apply (entries_of terms) first.left ≡ e.left)
      × (apply (entries_of terms) first.right ≡ e.right)
  sides_are terms h =
      let q : (record {
        left = apply (entries_of terms) first.left;
        right = apply (entries_of terms)
            first.right;
      }) ∷ [] ≡ e ∷ [] = h.is in
      (ap (λ (es : List Equation). first_left es) q, ap (λ (es : List Equation). first_right es) q)
    where
      first_left : List Equation → Tree
      first_left [] = var 0
      first_left (d ∷ ds) = d.left

      first_right : List Equation → Tree
      first_right [] = var 0
      first_right (d ∷ ds) = d.right

  candidate_is : (terms : List Tree) → Fit terms → (n : ℕ) → n < length sctx → candidate n ≡ image (entries_of terms) n
  candidate_is terms h n lt =
      let s = entries_of terms in
      let q = sides_are terms h in
      let o = numbered_occur 0 (length sctx) (some first.left (some first.right none)) numbered n (omega arith) lt in
      let l : candidate n ≡ found n first.left (apply s first.left)
      (found n first.right (apply s first.right) (var 0)) = λ i. found n first.left (sym q.0 i)
      (found n first.right (sym q.1 i) (var 0)) in
      l ∙ elim o as (λ _. found n first.left (apply s first.left)
      (found n first.right (apply s first.right) (var 0)) ≡ image s n) [
        | inl a ↦ found_image s n first.left (found n first.right (apply s first.right) (var 0)) a
        | inr b ↦ elim b as (λ _. found n first.left (apply s first.left)
            (found n first.right (apply s first.right) (var 0)) ≡ image s n) [
              | inl c ↦ found_same s n first.left (found n first.right (apply s first.right) (var 0))
                  (found_image s n first.right (var 0) c)
              | inr z ↦ absurd z
            ]
      ]

  terms_are : (terms : List Tree) → Fit terms → terms ≡ candidates
  terms_are terms h =
      let long : length terms ≡ length sctx = sorted_long sig ctx terms sctx h.sorted in
      same_items (λ n. var n) terms candidates (long ∙ sym (tabulated_long candidate (length sctx))) (λ n lt.
      let below : n < length sctx = omega (arith, lt, long) in
      sym (apply_values terms (var n)) ∙ sym (candidate_is terms h n below)
      ∙ sym (tabulated_image candidate (length sctx) n below) ∙ apply_values candidates (var n))

  -- there are such terms, or not
  pub fit_or_not : ((terms : List Tree) × Fit terms) ⊎ ((terms : List Tree) → Fit terms → ⊥)
  fit_or_not =
      let s = entries_of candidates in
      elim (same_tree_or_not (apply s first.left) e.left) as (λ _. ((terms : List Tree) × Fit terms)
      ⊎ ((terms : List Tree) → Fit terms → ⊥)) [
        | inr d ↦ inr (λ terms h. d (subst (λ (x : List Tree). apply (entries_of x) first.left ≡ e.left)
            (terms_are terms h) (sides_are terms h).0))
        | inl l ↦ elim (same_tree_or_not (apply s first.right) e.right) as
            (λ _. ((terms : List Tree) × Fit terms) ⊎ ((terms : List Tree) → Fit terms → ⊥)) [
              | inr d ↦ inr (λ terms h. d (subst (λ (x : List Tree). apply (entries_of x) first.right ≡ e.right)
                  (terms_are terms h) (sides_are terms h).1))
              | inl r ↦ elim (all_sorted_or_not sig ctx (trees_of candidates) sctx) as
                  (λ _. ((terms : List Tree) × Fit terms) ⊎ ((terms : List Tree) → Fit terms → ⊥)) [
                    | inl sorted ↦ inl (
                      candidates,
                      record { is = (λ i. record { left = l i; right = r i } ∷ []); sorted = sorted },
                    )
                    | inr d ↦ inr (λ terms h. d (subst (λ (x : List Tree). SortedAll sig ctx (trees_of x) sctx)
                        (terms_are terms h) h.sorted))
                  ]
            ]
      ]
