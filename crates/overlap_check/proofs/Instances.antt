-- Instances of terms under substitutions: what they depend on, and the sorts that they keep.
use Rattle.std.proofs.Common.{◌≡◌, ℕ, zero, suc, ◌+◌, ◌<◌, List, [], ◌∷◌, ◌++◌, Option, Some, None, inl, inr, refl, ap}
use Rattle.std.proofs.Common.{sym, ◌∙◌, subst, arith, length, get_or}
use Rattle.std.specs.Prelude.{slice_get, unwrap_or}
use Rattle.term_core.specs.Tree.{Tree, Trees, var, app, none, some, instance, instances}
use Rattle.term_core.specs.declared.ids.SortId.{SortId}
use Rattle.spec_core.specs.Sig.{Sig}
use Rattle.spec_core.specs.Sorts.{Sorted, SortedAll}
use Rattle.term_core.specs.Variables.{Occurs, OccursAny}
use Rattle.substitutions.specs.Substitution.{entry, image, apply, apply_all}
use Rattle.substitutions.proofs.Instances.{sorted_apply, sorted_apply_all}
use Rattle.unifier.specs.Shifting.{shifted, shifted_all}
use Rattle.unifier.proofs.Apart.{sorted_shifted}

-- an instance of a term under a substitution is the instance with the entries that its variables get
module _ (zs : List Tree) (s : List (Option Tree)) (xs : List Tree) where
  mutual
    pub instance_of_applied : (t : Tree) →
        ((n : ℕ) → Occurs n t → instance zs (image s n) ≡ instance xs (var n)) → instance zs (apply s t) ≡ instance xs t
    instance_of_applied (var n) h = h n refl
    instance_of_applied (app f ts) h = ap (λ us. app f us) (instances_of_applied ts h)

    instances_of_applied : (ts : Trees) →
        ((n : ℕ) → OccursAny n ts → instance zs (image s n) ≡ instance xs (var n)) →
        instances zs (apply_all s ts) ≡ instances xs ts
    instances_of_applied none h = refl
    instances_of_applied (some t ts) h =
        let p : instance zs (apply s t) ≡ instance xs t = instance_of_applied t (λ n o. h n (inl o)) in
        let q : instances zs (apply_all s ts) ≡ instances xs ts = instances_of_applied ts (λ n o. h n (inr o)) in
        cc

  mutual
    -- and the same of a term with greater variable numbers
    pub instance_of_shifted : (by : ℕ) (t : Tree) →
        ((n : ℕ) → Occurs n t → instance zs (image s (n + by)) ≡ instance xs (var n)) →
        instance zs (apply s (shifted by t)) ≡ instance xs t
    instance_of_shifted by (var n) h = h n refl
    instance_of_shifted by (app f ts) h = ap (λ us. app f us) (instances_of_shifted by ts h)

    instances_of_shifted : (by : ℕ) (ts : Trees) →
        ((n : ℕ) → OccursAny n ts → instance zs (image s (n + by)) ≡ instance xs (var n)) →
        instances zs (apply_all s (shifted_all by ts)) ≡ instances xs ts
    instances_of_shifted by none h = refl
    instances_of_shifted by (some t ts) h =
        let p : instance zs (apply s (shifted by t)) ≡ instance xs t = instance_of_shifted by t (λ n o. h n (inl o)) in
        let q : instances zs (apply_all s (shifted_all by ts)) ≡ instances xs ts = instances_of_shifted by ts
        (λ n o. h n (inr o)) in
        cc

-- the values of a function at the first numbers
pub first_values : {A : Type 0} → (ℕ → A) → ℕ → List A
first_values g zero = []
first_values g (suc n) = g 0 ∷ first_values (λ k. g (suc k)) n

module _ {A : Type 0} where
  pub value_at : (g : ℕ → A) (n : ℕ) (rest : List A) (k : ℕ) (d : A) → k < n →
      get_or (first_values g n ++ rest) k d ≡ g k
  unfolding first_values
  value_at g zero rest k d h = absurd (omega arith)
  value_at g (suc n) rest zero d h = refl
  value_at g (suc n) rest (suc k) d h = value_at (λ j. g (suc j)) n rest k d (omega arith)

  pub value_after : (g : ℕ → A) (n : ℕ) (rest : List A) (k : ℕ) (d : A) →
      get_or (first_values g n ++ rest) (k + n) d ≡ get_or rest k d
  unfolding first_values
  value_after g zero rest k d = let e : k + 0 ≡ k = omega arith in rw e refl
  value_after g (suc n) rest k d =
      let e : k + suc n ≡ suc (k + n) = omega arith in
      rw e (value_after (λ j. g (suc j)) n rest k d)

  pub value_of : (g : ℕ → A) (n k : ℕ) (d : A) → k < n → get_or (first_values g n) k d ≡ g k
  unfolding first_values
  value_of g zero k d h = absurd (omega arith)
  value_of g (suc n) zero d h = refl
  value_of g (suc n) (suc k) d h = value_of (λ j. g (suc j)) n k d (omega arith)

  -- places in lists that are put together
  pub at_left : (xs ys : List A) (n : ℕ) (x : A) → slice_get xs n ≡ Some x → slice_get (xs ++ ys) n ≡ Some x
  at_left [] ys n x h = absurd (let q : None ≡ Some x = h in cc)
  at_left (y ∷ xs) ys zero x h = h
  at_left (y ∷ xs) ys (suc n) x h = at_left xs ys n x h

  pub at_right : (xs ys : List A) (n : ℕ) (x : A) → slice_get ys n ≡ Some x →
      slice_get (xs ++ ys) (n + length xs) ≡ Some x
  at_right [] ys n x h = let e : n + 0 ≡ n = omega arith in rw e h
  at_right (y ∷ xs) ys n x h =
      let e : n + suc (length xs) ≡ suc (n + length xs) = omega arith in
      rw e (at_right xs ys n x h)

-- each entry has the sort of its variable
abbrev pub EntriesKeepSorts : Sig → List SortId → List (Option Tree) → Type 0
EntriesKeepSorts sig ctx s = (n : ℕ) (t : Tree) → entry s n ≡ Some t → (r : SortId) × (slice_get ctx n ≡ Some r)
    × Sorted sig ctx t r

module _ (sig : Sig) where
  -- such a substitution keeps the sorts of terms
  image_sorted : (ctx : List SortId) (s : List (Option Tree)) → EntriesKeepSorts sig ctx s →
      (n : ℕ) (r : SortId) → slice_get ctx n ≡ Some r → Sorted sig ctx (image s n) r
  image_sorted ctx s keeps n r h = by (entry s n) refl
    where
      by : (e : Option Tree) → entry s n ≡ e → Sorted sig ctx (unwrap_or e (var n)) r
      by None is = h
      by (Some t) is =
          let k = keeps n t is in
          let q : Some k.0 ≡ Some r = sym k.1 ∙ h in
          let e : k.0 ≡ r = cc in
          subst (λ u. Sorted sig ctx t u) e k.2

  pub sorted_all_applied : (ctx : List SortId) (s : List (Option Tree)) → EntriesKeepSorts sig ctx s →
      (ts : Trees) (rs : List SortId) → SortedAll sig ctx ts rs → SortedAll sig ctx (apply_all s ts) rs
  sorted_all_applied ctx s keeps ts rs h = sorted_apply_all sig ctx ctx s ts rs h
      (λ n r o at. image_sorted ctx s keeps n r at)

  pub sorted_applied : (ctx : List SortId) (s : List (Option Tree)) → EntriesKeepSorts sig ctx s →
      (t : Tree) (r : SortId) → Sorted sig ctx t r → Sorted sig ctx (apply s t) r
  sorted_applied ctx s keeps t r h = sorted_apply sig ctx ctx s t r h (λ n u o at. image_sorted ctx s keeps n u at)

  mutual
    -- more variables change no sort
    pub sorted_left : (ctx more : List SortId) (t : Tree) (r : SortId) → Sorted sig ctx t r →
        Sorted sig (ctx ++ more) t r
    sorted_left ctx more (var n) r h = at_left ctx more n r h
    sorted_left ctx more (app f ts) r h = (h.0, h.1, h.2, sorted_all_left ctx more ts h.0.args h.3)

    sorted_all_left : (ctx more : List SortId) (ts : Trees) (rs : List SortId) → SortedAll sig ctx ts rs →
        SortedAll sig (ctx ++ more) ts rs
    sorted_all_left ctx more none [] h = tt
    sorted_all_left ctx more none (r ∷ rs) h = absurd h
    sorted_all_left ctx more (some t ts) [] h = absurd h
    sorted_all_left ctx more (some t ts) (r ∷ rs) h = (sorted_left ctx more t r h.0, sorted_all_left ctx more ts rs h.1)

  pub sorted_right : (before ctx : List SortId) (t : Tree) (r : SortId) → Sorted sig ctx t r →
      Sorted sig (before ++ ctx) (shifted (length before) t) r
  sorted_right before ctx t r h = sorted_shifted sig before ctx (length before) refl t r h
