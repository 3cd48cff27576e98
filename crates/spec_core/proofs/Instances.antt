-- What an instance tells of the entries, and what the entries tell of an instance.
use Rattle.std.proofs.Common.{◌≡◌, ℕ, List, [], ◌∷◌, Some, inl, inr, sym, ◌∙◌}
use Rattle.std.specs.Prelude.{slice_get}
use Rattle.term_core.specs.Tree.{Tree, Trees, var, app, none, some, instance, instances}
use Rattle.term_core.specs.declared.ids.SortId.{SortId}
use Rattle.spec_core.specs.Sig.{Sig}
use Rattle.spec_core.specs.Sorts.{Sorted, SortedAll}
use Rattle.term_core.specs.Variables.{Occurs, OccursAny}

module _ (sig : Sig) where
  mutual
    -- an instance of a sorted term that is sorted gives each variable a term of its sort
    pub sorted_entry : (ctx : List SortId) (t : Tree) (s : SortId) (xs : List Tree) → Sorted sig ctx t s →
        Sorted sig [] (instance xs t) s → (n : ℕ) → Occurs n t → (u : SortId) → slice_get ctx n ≡ Some u →
        Sorted sig [] (instance xs (var n)) u
    sorted_entry ctx (var m) s xs p q n o u at =
        let e : n ≡ m = o in
        let a : slice_get ctx m ≡ Some u = rw (← e) at in
        let k : s ≡ u = cc in
        rw (e, ← k) q
    sorted_entry ctx (app f ts) s xs p q n o u at =
        let e : Some p.0 ≡ Some q.0 = sym p.1 ∙ q.1 in
        let k : p.0 ≡ q.0 = cc in
        sorted_entries ctx ts p.0.args xs p.3 (rw k q.3) n o u at

    pub sorted_entries : (ctx : List SortId) (ts : Trees) (ss : List SortId) (xs : List Tree) →
        SortedAll sig ctx ts ss → SortedAll sig [] (instances xs ts) ss → (n : ℕ) → OccursAny n ts →
        (u : SortId) → slice_get ctx n ≡ Some u → Sorted sig [] (instance xs (var n)) u
    sorted_entries ctx none ss xs p q n o u at = absurd o
    sorted_entries ctx (some t ts) [] xs p q n o u at = absurd p
    sorted_entries ctx (some t ts) (s ∷ ss) xs p q n (inl o) u at = sorted_entry ctx t s xs p.0 q.0 n o u at
    sorted_entries ctx (some t ts) (s ∷ ss) xs p q n (inr o) u at = sorted_entries ctx ts ss xs p.1 q.1 n o u at

  mutual
    pub sorted_instance : (ctx : List SortId) (t : Tree) (s : SortId) (xs : List Tree) → Sorted sig ctx t s →
        ((n : ℕ) (u : SortId) → slice_get ctx n ≡ Some u → Sorted sig [] (instance xs (var n)) u) →
        Sorted sig [] (instance xs t) s
    sorted_instance ctx (var m) s xs p h = h m s p
    sorted_instance ctx (app f ts) s xs p h = (p.0, p.1, p.2, sorted_instances ctx ts p.0.args xs p.3 h)

    pub sorted_instances : (ctx : List SortId) (ts : Trees) (ss : List SortId) (xs : List Tree) →
        SortedAll sig ctx ts ss →
        ((n : ℕ) (u : SortId) → slice_get ctx n ≡ Some u → Sorted sig [] (instance xs (var n)) u) →
        SortedAll sig [] (instances xs ts) ss
    sorted_instances ctx none [] xs p h = tt
    sorted_instances ctx none (s ∷ ss) xs p h = absurd p
    sorted_instances ctx (some t ts) [] xs p h = absurd p
    sorted_instances ctx (some t ts) (s ∷ ss) xs p h = (
      sorted_instance ctx t s xs p.0 h,
      sorted_instances ctx ts ss xs p.1 h,
    )
