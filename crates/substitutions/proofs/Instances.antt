-- What a substitution makes of a term, by what it makes of the term's variables.
use Rattle.std.proofs.Common.{◌≡◌, ◌∙◌, ℕ, zero, suc, List, [], ◌∷◌, Option, Some, None, inl, inr, refl, ap, sym}
use Rattle.std.proofs.Common.{subst, map, get_or, unwrap_or}
use Rattle.std.specs.Prelude.{slice_get}
use Rattle.term_core.specs.Tree.{Tree, Trees, var, app, none, some, trees_of, instance, instances}
use Rattle.term_core.specs.declared.ids.SortId.{SortId}
use Rattle.spec_core.specs.Sig.{Sig}
use Rattle.spec_core.specs.Sorts.{Sorted, SortedAll}
use Rattle.term_core.specs.Variables.{Occurs, OccursAny}
use Rattle.substitutions.specs.Substitution.{entry, image, apply, apply_all, IsComposed}
use Rattle.substitutions.specs.Fitting.{Fits}

pub image_entry : (s : List (Option Tree)) (n : ℕ) (t : Tree) → entry s n ≡ Some t → image s n ≡ t
image_entry s n t e = ap (λ o. unwrap_or o (var n)) e

pub image_none : (s : List (Option Tree)) (n : ℕ) → entry s n ≡ None → image s n ≡ var n
image_none s n e = ap (λ o. unwrap_or o (var n)) e

-- the instances of a list of terms
pub apply_all-trees_of : (s : List (Option Tree)) (ts : List Tree) →
    apply_all s (trees_of ts) ≡ trees_of (map (apply s) ts)
apply_all-trees_of s [] = refl
apply_all-trees_of s (t ∷ ts) = ap (λ us. some (apply s t) us) (apply_all-trees_of s ts)

mutual
  -- nothing is exchanged without entries
  pub apply_nothing : (t : Tree) → apply [] t ≡ t
  apply_nothing (var n) = refl
  apply_nothing (app f ts) = ap (λ us. app f us) (apply_all_nothing ts)

  pub apply_all_nothing : (ts : Trees) → apply_all [] ts ≡ ts
  apply_all_nothing none = refl
  apply_all_nothing (some t ts) =
      let p = apply_nothing t in
      let q = apply_all_nothing ts in
      cc

mutual
  -- an instance depends on the variables that occur alone
  pub apply_same : (t : Tree) (s u : List (Option Tree)) → ((n : ℕ) → Occurs n t → image s n ≡ image u n) →
      apply s t ≡ apply u t
  apply_same (var m) s u h = h m refl
  apply_same (app f ts) s u h = ap (λ us. app f us) (apply_all_same ts s u h)

  pub apply_all_same : (ts : Trees) (s u : List (Option Tree)) →
      ((n : ℕ) → OccursAny n ts → image s n ≡ image u n) → apply_all s ts ≡ apply_all u ts
  apply_all_same none s u h = refl
  apply_all_same (some t ts) s u h =
      let p : apply s t ≡ apply u t = apply_same t s u (λ n o. h n (inl o)) in
      let q : apply_all s ts ≡ apply_all u ts = apply_all_same ts s u (λ n o. h n (inr o)) in
      cc

-- a term without variables stays
pub apply_closed : (t : Tree) (s : List (Option Tree)) → ((n : ℕ) → Occurs n t → ⊥) → apply s t ≡ t
apply_closed t s h = apply_same t s [] (λ n o. absurd (h n o)) ∙ apply_nothing t

mutual
  -- if the instances are the same, so are the images of each variable that occurs
  pub images_agree : (t : Tree) (s u : List (Option Tree)) → apply s t ≡ apply u t → (n : ℕ) → Occurs n t →
      image s n ≡ image u n
  images_agree (var m) s u e n o = rw o e
  images_agree (app f ts) s u e n o = images_agree_all ts s u
      (let q : app f (apply_all s ts) ≡ app f (apply_all u ts) = e in cc) n o

  pub images_agree_all : (ts : Trees) (s u : List (Option Tree)) → apply_all s ts ≡ apply_all u ts → (n : ℕ) →
      OccursAny n ts → image s n ≡ image u n
  images_agree_all none s u e n o = absurd o
  images_agree_all (some t ts) s u e n (inl o) = images_agree t s u
      (let q : some (apply s t) (apply_all s ts) ≡ some (apply u t) (apply_all u ts) = e in cc) n o
  images_agree_all (some t ts) s u e n (inr o) = images_agree_all ts s u
      (let q : some (apply s t) (apply_all s ts) ≡ some (apply u t) (apply_all u ts) = e in cc) n o

mutual
  -- two substitutions compose to a third if they do so at each variable that occurs
  pub apply_composed : (t : Tree) (s u both : List (Option Tree)) →
      ((n : ℕ) → Occurs n t → image both n ≡ apply u (image s n)) → apply both t ≡ apply u (apply s t)
  apply_composed (var m) s u both h = h m refl
  apply_composed (app f ts) s u both h = ap (λ us. app f us) (apply_all_composed ts s u both h)

  pub apply_all_composed : (ts : Trees) (s u both : List (Option Tree)) →
      ((n : ℕ) → OccursAny n ts → image both n ≡ apply u (image s n)) → apply_all both ts ≡ apply_all u (apply_all s ts)
  apply_all_composed none s u both h = refl
  apply_all_composed (some t ts) s u both h =
      let p : apply both t ≡ apply u (apply s t) = apply_composed t s u both (λ n o. h n (inl o)) in
      let q : apply_all both ts ≡ apply_all u (apply_all s ts) = apply_all_composed ts s u both (λ n o. h n (inr o)) in
      cc

pub composed_from_images : (s u both : List (Option Tree)) → ((n : ℕ) → image both n ≡ apply u (image s n)) →
    IsComposed s u both
composed_from_images s u both h t = apply_composed t s u both (λ n o. h n)

-- an image of a list of values is the value at that place
image_values : (values : List Tree) (n : ℕ) (d : Tree) →
    unwrap_or (get_or (map (λ (t : Tree). Some t) values) n None) d ≡ get_or values n d
image_values [] n d = refl
image_values (v ∷ values) zero d = refl
image_values (v ∷ values) (suc n) d = image_values values n d

mutual
  -- entries for the first variables alone are an environment
  pub apply_values : (values : List Tree) (t : Tree) → apply (map (λ (v : Tree). Some v) values) t ≡ instance values t
  apply_values values (var n) = image_values values n (var n)
  apply_values values (app f ts) = ap (λ us. app f us) (apply_all_values values ts)

  pub apply_all_values : (values : List Tree) (ts : Trees) →
      apply_all (map (λ (v : Tree). Some v) values) ts ≡ instances values ts
  apply_all_values values none = refl
  apply_all_values values (some t ts) =
      let p : apply (map (λ (v : Tree). Some v) values) t ≡ instance values t = apply_values values t in
      let q : apply_all (map (λ (v : Tree). Some v) values) ts ≡ instances values ts = apply_all_values values ts in
      cc

mutual
  -- a variable of an instance occurs in the image of some variable of the term
  pub occurs_apply : (t : Tree) (s : List (Option Tree)) (m : ℕ) → Occurs m (apply s t) →
      (n : ℕ) × Occurs n t × Occurs m (image s n)
  occurs_apply (var k) s m o = (k, refl, o)
  occurs_apply (app f ts) s m o = occurs_apply_all ts s m o

  pub occurs_apply_all : (ts : Trees) (s : List (Option Tree)) (m : ℕ) → OccursAny m (apply_all s ts) →
      (n : ℕ) × OccursAny n ts × Occurs m (image s n)
  occurs_apply_all none s m o = absurd o
  occurs_apply_all (some t ts) s m (inl o) = let r = occurs_apply t s m o in (r.0, inl r.1, r.2)
  occurs_apply_all (some t ts) s m (inr o) = let r = occurs_apply_all ts s m o in (r.0, inr r.1, r.2)

mutual
  -- and each variable of such an image occurs in the instance
  pub apply_occurs : (t : Tree) (s : List (Option Tree)) (m n : ℕ) → Occurs n t → Occurs m (image s n) →
      Occurs m (apply s t)
  apply_occurs (var k) s m n o i = subst (λ j. Occurs m (image s j)) o i
  apply_occurs (app f ts) s m n o i = apply_all_occurs ts s m n o i

  pub apply_all_occurs : (ts : Trees) (s : List (Option Tree)) (m n : ℕ) → OccursAny n ts →
      Occurs m (image s n) → OccursAny m (apply_all s ts)
  apply_all_occurs none s m n o i = absurd o
  apply_all_occurs (some t ts) s m n (inl o) i = inl (apply_occurs t s m n o i)
  apply_all_occurs (some t ts) s m n (inr o) i = inr (apply_all_occurs ts s m n o i)

module _ (sig : Sig) where
  mutual
    -- a sorted term keeps its sort if the image of each variable that occurs has the variable's sort
    pub sorted_apply : (from to : List SortId) (s : List (Option Tree)) (t : Tree) (sort : SortId) →
        Sorted sig from t sort → ((n : ℕ) (r : SortId) → Occurs n t → slice_get from n ≡ Some r →
        Sorted sig to (image s n) r) → Sorted sig to (apply s t) sort
    sorted_apply from to s (var m) sort p h = h m sort refl p
    sorted_apply from to s (app f ts) sort p h = (p.0, p.1, p.2, sorted_apply_all from to s ts p.0.args p.3 h)

    pub sorted_apply_all : (from to : List SortId) (s : List (Option Tree)) (ts : Trees) (sorts : List SortId) →
        SortedAll sig from ts sorts → ((n : ℕ) (r : SortId) → OccursAny n ts → slice_get from n ≡ Some r →
        Sorted sig to (image s n) r) → SortedAll sig to (apply_all s ts) sorts
    sorted_apply_all from to s none [] p h = tt
    sorted_apply_all from to s none (r ∷ rs) p h = absurd p
    sorted_apply_all from to s (some t ts) [] p h = absurd p
    sorted_apply_all from to s (some t ts) (r ∷ rs) p h = (
      sorted_apply from to s t r p.0 (λ n q o. h n q (inl o)),
      sorted_apply_all from to s ts rs p.1 (λ n q o. h n q (inr o)),
    )

  -- entries that fit keep the sort of each term
  pub fitting_apply : (from to : List SortId) (s : List (Option Tree)) (t : Tree) (sort : SortId) →
      Fits sig from to s → Sorted sig from t sort → Sorted sig to (apply s t) sort
  fitting_apply from to s t sort fits p =
      sorted_apply from to s t sort p (λ n r o at. let f = fits n r at in
      subst (λ u. Sorted sig to u r) (sym (image_entry s n f.0 f.1)) f.2)

  mutual
    -- if a term and its instance have one sort, the image of each variable that occurs has the variable's sort
    pub sorted_image : (from to : List SortId) (s : List (Option Tree)) (t : Tree) (sort : SortId) →
        Sorted sig from t sort → Sorted sig to (apply s t) sort → (n : ℕ) (r : SortId) → Occurs n t →
        slice_get from n ≡ Some r → Sorted sig to (image s n) r
    sorted_image from to s (var m) sort p q n r o at =
        let e : n ≡ m = o in
        let a : Some sort ≡ Some r = sym p ∙ ap (λ k. slice_get from k) (sym e) ∙ at in
        let same : sort ≡ r = cc in
        subst (λ k. Sorted sig to (image s k) r) (sym e) (subst (λ u. Sorted sig to (image s m) u) same q)
    sorted_image from to s (app f ts) sort p q n r o at =
        let e : Some p.0 ≡ Some q.0 = sym p.1 ∙ q.1 in
        let k : p.0 ≡ q.0 = cc in
        sorted_images from to s ts p.0.args p.3 (rw k q.3) n r o at

    pub sorted_images : (from to : List SortId) (s : List (Option Tree)) (ts : Trees) (sorts : List SortId) →
        SortedAll sig from ts sorts → SortedAll sig to (apply_all s ts) sorts → (n : ℕ) (r : SortId) →
        OccursAny n ts → slice_get from n ≡ Some r → Sorted sig to (image s n) r
    sorted_images from to s none sorts p q n r o at = absurd o
    sorted_images from to s (some t ts) [] p q n r o at = absurd p
    sorted_images from to s (some t ts) (u ∷ us) p q n r (inl o) at = sorted_image from to s t u p.0 q.0 n r o at
    sorted_images from to s (some t ts) (u ∷ us) p q n r (inr o) at = sorted_images from to s ts us p.1 q.1 n r o at
