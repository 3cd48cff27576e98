-- The values of arguments, one after the other: none makes the term measure more.
use Rattle.std.proofs.Common.{◌≡◌, ℕ, ◌+◌, ◌≤◌, List, [], ◌∷◌, inl, inr, refl, ap, sym, ◌∙◌, subst, arith, length}
use Rattle.term_core.specs.Tree.{Tree, Trees, app, none, some, list_of}
use Rattle.term_core.specs.Contexts.{Context, plug}
use Rattle.term_core.specs.declared.ids.SortId.{SortId}
use Rattle.term_core.proofs.Members.{In}
use Rattle.spec_core.specs.declared.records.Spec.{Spec}
use Rattle.spec_core.specs.Sorts.{Sorted, SortedAll}
use Rattle.spec_core.specs.Gives.{Gives, GivesAll, no_terms, more_terms}
use Rattle.spec_core.specs.WellSorted.{IsWellSorted}
use Rattle.spec_core.proofs.Keeps.{keeps}
use Rattle.clause_core.specs.Ranks.{IsGround}
use Rattle.descent.proofs.GroundTerms.{sorted_ground}
use Rattle.descent.proofs.InContexts.{plug_ground, inside, inside_is, join, around_join, join_one}

module _ (spec : Spec) (measure : Tree → ℕ) where
  -- a value that measures no more, in every context
  pub record HasValue (t : Tree) : Type 0 where
    pub value : Tree
    pub cost : ℕ
    pub gives : Gives spec t value cost
    pub lower : (c : Context) → IsGround spec (plug c t) → measure (plug c value) ≤ measure (plug c t)

  -- values of each of the terms, which measure no more together
  pub record HaveValues (ts : Trees) : Type 0 where
    pub values : Trees
    pub cost : ℕ
    pub give : GivesAll spec ts values cost
    pub lower :
        (c : Context) (f : ℕ) (before : Trees) → IsGround spec (plug c (app f (join before ts))) →
        measure (plug c (app f (join before values))) ≤ measure (plug c (app f (join before ts)))

  -- one argument exchanged for its value
  exchanged : (c : Context) (f : ℕ) (before : Trees) (t v : Tree) (after : Trees) →
      ((d : Context) → IsGround spec (plug d t) → measure (plug d v) ≤ measure (plug d t)) →
      IsGround spec (plug c (app f (join before (some t after)))) →
      measure (plug c (app f (join before (some v after)))) ≤ measure (plug c (app f (join before (some t after))))
  exchanged c f before t v after lower g =
      let at : (u : Tree) →
      plug (inside c f before after) u ≡ plug c (app f (join before (some u after))) = λ u. inside_is c f
      before u after ∙ ap (λ us. plug c (app f us)) (around_join before u after) in
      let less = lower (inside c f before after) (subst (IsGround spec) (sym (at t)) g) in
      subst (λ x. measure x ≤ measure (plug c (app f (join before (some t after))))) (at v)
      (subst (λ x. measure (plug (inside c f before after) v) ≤ measure x) (at t) less)

  exchanged_ground : (c : Context) (f : ℕ) (before : Trees) (t v : Tree) (after : Trees) → IsGround spec v →
      IsGround spec (plug c (app f (join before (some t after)))) →
      IsGround spec (plug c (app f (join before (some v after))))
  exchanged_ground c f before t v after h g =
      let at : (u : Tree) →
      plug (inside c f before after) u ≡ plug c (app f (join before (some u after))) = λ u. inside_is c f
      before u after ∙ ap (λ us. plug c (app f us)) (around_join before u after) in
      subst (IsGround spec) (at v) (plug_ground (length spec.sig.table) (inside c f before after) t v
      (subst (IsGround spec) (sym (at t)) g) h)

  pub all_values : IsWellSorted spec → (ts : Trees) (ss : List SortId) → SortedAll spec.sig [] ts ss →
      ((t : Tree) (s : SortId) → In t (list_of ts) → Sorted spec.sig [] t s → HasValue t) → HaveValues ts
  all_values fine none ss p h = record { values = none; cost = 0; give = no_terms; lower = λ c f before g. omega arith }
  all_values fine (some t ts) [] p h = absurd p
  all_values fine (some t ts) (s ∷ ss) p h =
      let a = h t s (inl refl) p.0 in
      let b = all_values fine ts ss p.1 (λ u w i q. h u w (inr i) q) in
      let a_ground : IsGround spec a.value = sorted_ground spec.sig fine.arities a.value s
      (keeps spec fine a.gives s p.0).0 in
      record {
        values = some a.value b.values;
        cost = a.cost + b.cost;
        give = more_terms a.gives b.give refl;
        lower = λ c f before g.
            let one : (us : Trees) →
            plug c (app f (join (join before (some a.value none)) us)) ≡ plug c
            (app f (join before (some a.value us))) = λ us. ap (λ ws. plug c (app f ws))
            (join_one before a.value us) in
            let first = exchanged c f before t a.value ts a.lower g in
            let g' = exchanged_ground c f before t a.value ts a_ground g in
            let rest = b.lower c f (join before (some a.value none)) (subst (IsGround spec) (sym (one ts)) g') in
            let moved : measure (plug c (app f (join before (some a.value b.values)))) ≤ measure
            (plug c (app f (join before (some a.value ts)))) = subst
            (λ x. measure x ≤ measure (plug c (app f (join before (some a.value ts))))) (one b.values)
            (subst (λ x. measure (plug c (app f (join (join before (some a.value none)) b.values))) ≤
            measure x) (one ts) rest) in
            omega (arith, first, moved);
      }
