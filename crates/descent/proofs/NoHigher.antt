-- An instance by values ranks no higher than one by the terms that have these values.
use Rattle.std.proofs.Common.{◌≡◌, ℕ, ◌≤◌, List, [], ◌∷◌, Some, ap, sym, ◌∙◌, subst, arith, length}
use Rattle.std.specs.Prelude.{slice_get}
use Rattle.term_core.specs.declared.ids.SortId.{SortId}
use Rattle.term_core.specs.Tree.{Tree, Trees, var, app, none, some, instance, instances}
use Rattle.term_core.specs.Contexts.{Context, plug}
use Rattle.term_core.specs.Ground.{IsGroundIn}
use Rattle.spec_core.specs.declared.records.Spec.{Spec}
use Rattle.spec_core.specs.Sorts.{Sorted, SortedAll}
use Rattle.spec_core.specs.WellSorted.{IsWellSorted}
use Rattle.spec_core.proofs.Instances.{sorted_instance}
use Rattle.term_order.specs.Laws.{HasRanks}
use Rattle.descent.specs.OneValue.{RanksNoHigher}
use Rattle.descent.proofs.GroundTerms.{sorted_ground}
use Rattle.descent.proofs.InContexts.{plug_ground, inside, inside_is, join, around_join, join_one}

-- in each ground context the first term ranks no higher than the second
abbrev pub NoHigher : (ℕ → ℕ → Tree → ℕ → Type 0) → Spec → Tree → Tree → Type 0
NoHigher rank spec v t = RanksNoHigher rank spec t v

abbrev AllNoHigher : (ℕ → ℕ → Tree → ℕ → Type 0) → Spec → Trees → Trees → Type 0
AllNoHigher rank spec vs ts = (c : Context) (f : ℕ) (before : Trees) (r q : ℕ) →
    IsGroundIn (length spec.sig.table) (plug c (app f (join before ts))) →
    rank (length spec.sig.table) 100 (plug c (app f (join before ts))) r →
    rank (length spec.sig.table) 100 (plug c (app f (join before vs))) q → q ≤ r

module _ (above : Tree → Tree → Type 0) (rank : ℕ → ℕ → Tree → ℕ → Type 0) (laws : HasRanks above rank)
    (spec : Spec) where
  more_no_higher : (v t : Tree) (vs ts : Trees) → IsGroundIn (length spec.sig.table) v →
      NoHigher rank spec v t → AllNoHigher rank spec vs ts → AllNoHigher rank spec (some v vs) (some t ts)
  more_no_higher v t vs ts gv one more c f before r q g a b =
      let at : (u : Tree) → plug (inside c f before ts) u ≡ plug c (app f (join before (some u ts))) = λ u.
      inside_is c f before u ts ∙ ap (λ us. plug c (app f us)) (around_join before u ts) in
      let two : (us : Trees) →
      plug c (app f (join (join before (some v none)) us)) ≡ plug c
      (app f (join before (some v us))) = λ us. ap (λ ws. plug c (app f ws)) (join_one before v us) in
      let g1 : IsGroundIn (length spec.sig.table) (plug (inside c f before ts) t) = subst
      (λ u. IsGroundIn (length spec.sig.table) u) (sym (at t)) g in
      let g2 : IsGroundIn (length spec.sig.table) (plug (inside c f before ts) v) = plug_ground
      (length spec.sig.table) (inside c f before ts) t v g1 gv in
      let m = laws.some_rank (length spec.sig.table) 100 (plug (inside c f before ts) v) (omega arith) g2 in
      let first : m.0 ≤ r = one (inside c f before ts) r m.0 g1
      (subst (λ u. rank (length spec.sig.table) 100 u r) (sym (at t)) a) m.1 in
      let g3 : IsGroundIn (length spec.sig.table) (plug c (app f (join (join before (some v none)) ts))) = subst
      (λ u. IsGroundIn (length spec.sig.table) u) (at v ∙ sym (two ts)) g2 in
      let second : q ≤ m.0 = more c f (join before (some v none)) m.0 q g3
      (subst (λ u. rank (length spec.sig.table) 100 u m.0) (at v ∙ sym (two ts)) m.1)
      (subst (λ u. rank (length spec.sig.table) 100 u q) (sym (two vs)) b) in
      omega arith

  module _ (fine : IsWellSorted spec) (ctx : List SortId) (vs ts : List Tree) (sorted : (n : ℕ) (s : SortId) →
      slice_get ctx n ≡ Some s → Sorted spec.sig [] (instance vs (var n)) s) (lower : (n : ℕ) (s : SortId) →
      slice_get ctx n ≡ Some s → NoHigher rank spec (instance vs (var n)) (instance ts (var n))) where
    mutual
      pub instance_no_higher : (t : Tree) (s : SortId) → Sorted spec.sig ctx t s →
          NoHigher rank spec (instance vs t) (instance ts t)
      instance_no_higher (var n) s p = lower n s p
      instance_no_higher (app f us) s p = λ c r q g a b. instances_no_higher us p.0.args p.3 c f none r q g a b

      instances_no_higher : (us : Trees) (ss : List SortId) → SortedAll spec.sig ctx us ss →
          AllNoHigher rank spec (instances vs us) (instances ts us)
      instances_no_higher none ss p = λ c f before r q g a b. same c f before r q g a b
        where
          same : AllNoHigher rank spec none none
          same c f before r q g a b = let e = laws.one_rank (length spec.sig.table) 100
              (plug c (app f (join before none))) r q (omega arith) g a b in omega (arith, e)
      instances_no_higher (some t us) [] p = absurd p
      instances_no_higher (some t us) (s ∷ ss) p =
          more_no_higher (instance vs t) (instance ts t) (instances vs us) (instances ts us)
          (sorted_ground spec.sig fine.arities (instance vs t) s
          (sorted_instance spec.sig ctx t s vs p.0 sorted)) (instance_no_higher t s p.0)
          (instances_no_higher us ss p.1)
