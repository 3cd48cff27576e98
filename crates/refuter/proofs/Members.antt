-- The members that a search tries are values of the goal's sorts.
use Rattle.std.proofs.Common.{◌≡◌, ℕ, zero, suc, ◌+◌, ◌≤◌, List, [], ◌∷◌, Bool, true, false, cond, eqb, Some, refl, ap}
use Rattle.std.proofs.Common.{sym, subst, arith}
use Rattle.std.specs.Prelude.{slice_get, filter, map, option_map}
use Rattle.std.specs.List.{flat_map, AllByRecursion}
use Rattle.std.proofs.lemmas.Bool.Decides.{nat_tests}
use Rattle.term_core.specs.Tree.{Tree, app, trees_of}
use Rattle.term_core.specs.declared.ids.SortId.{SortId}
use Rattle.spec_core.specs.declared.records.SymInfo.{SymInfo}
use Rattle.spec_core.specs.declared.records.Spec.{Spec}
use Rattle.spec_core.specs.Sig.{Sig, info_of, IsConstructor}
use Rattle.spec_core.specs.Sorts.{SortedAll, AreBuilt, IsValue}
use Rattle.spec_core.specs.Truth.{AreValuesOf}
use Rattle.spec_core.specs.Order.{product, constructors_from, constructors_of, is_small, values}
use Rattle.term_core.proofs.Items.{all_append}

pub all_flat_map : {X A : Type 0} (Q : X → Type 0) (P : A → Type 0) (f : X → List A) (xs : List X) →
    AllByRecursion Q xs → ((x : X) → Q x → AllByRecursion P (f x)) → AllByRecursion P (flat_map f xs)
all_flat_map Q P f [] a h = tt
all_flat_map Q P f (x ∷ xs) a h = all_append P (f x) (flat_map f xs) (h x a.0) (all_flat_map Q P f xs a.1 h)

pub all_map : {X A : Type 0} (Q : X → Type 0) (P : A → Type 0) (f : X → A) (xs : List X) → AllByRecursion Q xs →
    ((x : X) → Q x → P (f x)) → AllByRecursion P (map f xs)
all_map Q P f [] a h = tt
all_map Q P f (x ∷ xs) a h = (h x a.0, all_map Q P f xs a.1 h)

pub all_cond : {A : Type 0} (P : A → Type 0) (b : Bool) (x : A) (xs : List A) → P x → AllByRecursion P xs →
    AllByRecursion P (cond b (x ∷ xs) xs)
all_cond P true x xs p a = (p, a)
all_cond P false x xs p a = a

all_filter : {A : Type 0} (P : A → Type 0) (t : A → Bool) (xs : List A) → AllByRecursion P xs →
    AllByRecursion P (filter t xs)
all_filter P t [] a = tt
all_filter P t (x ∷ xs) a = all_cond P (t x) x (filter t xs) a.0 (all_filter P t xs a.1)

-- the constructor is declared with these arguments and this result
unfoldable pub Makes : Sig → SortId → ℕ × List SortId → Type 0
Makes sig s c = (i : SymInfo) × (info_of sig c.0 ≡ Some i) × (i.result ≡ s) × (i.args ≡ c.1) × IsConstructor sig c.0

bool_all : {A : Type 0} (P : A → Type 0) (b : Bool) (x : A) (xs : List A) → (b ≡ true → P x) →
    AllByRecursion P xs → AllByRecursion P (cond b (x ∷ xs) xs)
bool_all P true x xs p a = (p refl, a)
bool_all P false x xs p a = a

same_sort : (a b : SortId) → eqb a.0 b.0 ≡ true → a ≡ b
same_sort a b e =
    let p : a.0 ≡ b.0 = grind (arith, nat_tests) in
    λ i. record { 0 = p i }

module _ (sig : Sig) (s : SortId) where
  pub constructors_make : (es : List (List ℕ × SymInfo)) (f left : ℕ) →
      ((k : ℕ) (e : List ℕ × SymInfo) → slice_get es k ≡ Some e → slice_get sig.table (f + k) ≡ Some e) →
      f + left ≤ sig.constructors → AllByRecursion (Makes sig s) (constructors_from f left s es)
  unfolding Makes
  constructors_make es f zero at h = tt
  constructors_make [] f (suc left) at h = tt
  constructors_make (e ∷ es) f (suc left) at h =
      let z : f + 0 ≡ f = omega arith in
      let here : slice_get sig.table f ≡ Some e = subst (λ n. slice_get sig.table n ≡ Some e) z (at 0 e refl) in
      let info : info_of sig f ≡ Some e.1 = ap (option_map (λ (x : List ℕ × SymInfo). x.1)) here in
      bool_all (Makes sig s) (eqb e.1.result.0 s.0) (f, e.1.args) (constructors_from (suc f) left s es)
      (λ t. (e.1, info, same_sort e.1.result s t, refl, omega arith))
      (constructors_make es (suc f) left (λ k x q. subst (λ n. slice_get sig.table n ≡ Some x) (omega arith)
      (at (suc k) x q)) (omega arith))

module _ (spec : Spec) where
  trees_are : (ss : List SortId) (ts : List Tree) → AreValuesOf spec ss ts →
      SortedAll spec.sig [] (trees_of ts) ss × AreBuilt spec.sig (trees_of ts)
  trees_are [] [] h = (tt, tt)
  trees_are [] (t ∷ ts) h = absurd h
  trees_are (s ∷ ss) [] h = absurd h
  trees_are (s ∷ ss) (t ∷ ts) h =
      let r = trees_are ss ts h.1 in
      ((h.0.0, r.0), (h.0.1, r.1))

  product_are : (V : SortId → List Tree) → ((s : SortId) → AllByRecursion (IsValue spec.sig s) (V s)) →
      (ss : List SortId) → AllByRecursion (AreValuesOf spec ss) (product (map V ss))
  product_are V h [] = (tt, tt)
  product_are V h (s ∷ ss) =
      all_flat_map (IsValue spec.sig s) (AreValuesOf spec (s ∷ ss))
      (λ x. map (λ ys. x ∷ ys) (product (map V ss))) (V s) (h s) (λ x v.
      all_map (AreValuesOf spec ss) (AreValuesOf spec (s ∷ ss)) (λ ys. x ∷ ys) (product (map V ss))
      (product_are V h ss) (λ ys w. (v, w)))

  pub values_are : (depth : ℕ) (s : SortId) → AllByRecursion (IsValue spec.sig s) (values spec.sig depth s)
  unfolding Makes
  values_are zero s = tt
  values_are (suc depth) s =
      let F = λ (c : ℕ × List SortId). map (λ (ts : List Tree). app c.0 (trees_of ts))
      (product (map (λ u. values spec.sig depth u) c.1)) in
      let start = constructors_make spec.sig s spec.sig.table 0 spec.sig.constructors
      (λ k e q. subst (λ n. slice_get spec.sig.table n ≡ Some e) (omega arith) q) (omega arith) in
      all_filter (IsValue spec.sig s) is_small (flat_map F (constructors_of spec.sig s))
      (all_flat_map (Makes spec.sig s) (IsValue spec.sig s) F (constructors_of spec.sig s) start (λ c m.
      all_map (AreValuesOf spec c.1) (IsValue spec.sig s) (λ (ts : List Tree). app c.0 (trees_of ts))
      (product (map (λ u. values spec.sig depth u) c.1))
      (product_are (λ u. values spec.sig depth u) (λ u. values_are depth u) c.1) (λ ts w.
      let r = trees_are c.1 ts w in
      ((m.0, m.1, m.2, subst (λ ss. SortedAll spec.sig [] (trees_of ts) ss) (sym m.3) r.0), (m.4, r.1)))))

  -- each row of values of sorts has a value of its sort at each place
  pub rows_are : (depth : ℕ) (ss : List SortId) →
      AllByRecursion (AreValuesOf spec ss) (product (map (λ s. values spec.sig depth s) ss))
  rows_are depth ss = product_are (λ s. values spec.sig depth s) (λ s. values_are depth s) ss
