-- The trees of closed classes without cycles are a most general unifier.
use Rattle.std.proofs.Common.{◌≡◌, ℕ, zero, suc, ◌<◌, ◌≤◌, List, Option, Some, None, ◌⊎◌, inl, inr, refl, ap, sym, ◌∙◌}
use Rattle.std.proofs.Common.{subst, arith, length}
use Rattle.std.specs.Prelude.{slice_get, unwrap_or}
use Rattle.term_core.specs.Tree.{Tree, Trees, var, app, none, some}
use Rattle.term_core.specs.declared.ids.SortId.{SortId}
use Rattle.spec_core.specs.Sig.{Sig}
use Rattle.spec_core.specs.Sorts.{Sorted}
use Rattle.term_core.specs.Variables.{Occurs}
use Rattle.substitutions.specs.Substitution.{entry, image, apply, apply_all}
use Rattle.unifier.specs.declared.unification.graph.Shape.{Shape}
use Rattle.unifier.specs.declared.unification.graph.Shape.TheVariants.{Var, App}
use Rattle.unifier.specs.Unification.{IsUnifier, HaveNoUnifier, IsMostGeneral, OccursInEither, IsRelevant, KeepsSorts}
use Rattle.unifier.specs.Graph.{shape_at, trees_by, built, IsGraph, Depicts, IsShapeOf, IsNodeOf}
use Rattle.unifier.specs.Parts.{IsPart}
use Rattle.unifier.specs.Roots.{root}
use Rattle.unifier.specs.Markings.{Follows, IsModel}
use Rattle.unifier.specs.Closure.{IsClosure}
use Rattle.unifier.specs.Cycles.{EachArg, Ends, IsAcyclic, HasNoModel}
use Rattle.unifier.specs.Answer.{unfolded, resolved, AreEntries}
use Rattle.unifier.proofs.Graphs.{below_each, each_from, each_from_both, built_each, apply-trees_by, trees_by_each}
use Rattle.unifier.proofs.Graphs.{apply-built_each, occurs_by}
use Rattle.unifier.proofs.Markings.{model_splits, instance_model, sort_number, sort_number_is, sort_mark, AreSorted}
use Rattle.unifier.proofs.Markings.{sorts_split, sorted_built, part_sorted, part_occurs}

occurs_built : (A : Type 0) (m : ℕ) (f g : ℕ → Tree) (s : Shape) → (Occurs m (built f s) → A) →
    EachArg (λ c. Occurs m (g c) → A) s → Occurs m (built g s) → A
occurs_built A m f g (Var v) h e o = h o
occurs_built A m f g (App sym cs) h e o =
    let r = occurs_by m g cs o in
    e r.0 r.1 r.2

module _ (graph : List Shape) (roots : List ℕ) where
  -- a greater depth gives the same tree if each way down ends before
  pub unfolded_deeper : (k m i : ℕ) → Ends graph roots k i → k ≤ m → unfolded graph roots m i ≡ unfolded graph roots k i
  unfolded_deeper zero m i e h = absurd e
  unfolded_deeper (suc k) zero i e h = absurd (omega arith)
  unfolded_deeper (suc k) (suc m) i e h =
      built_each (λ c. unfolded graph roots m (root roots c)) (λ c. unfolded graph roots k (root roots c))
      (shape_at graph i)
      (each_from {P = λ c. Ends graph roots k (root roots c)}
      {Q = λ c. unfolded graph roots m (root roots c) ≡ unfolded graph roots k (root roots c)}
      (shape_at graph i) e (λ c d. unfolded_deeper k m (root roots c) d (omega arith)))

  pub unfolded_is : (n i : ℕ) → Ends graph roots n i →
      unfolded graph roots n i ≡ built (λ c. unfolded graph roots n (root roots c)) (shape_at graph i)
  unfolded_is zero i e = absurd e
  unfolded_is (suc m) i e =
      built_each (λ c. unfolded graph roots m (root roots c)) (λ c. unfolded graph roots (suc m) (root roots c))
      (shape_at graph i)
      (each_from {P = λ c. Ends graph roots m (root roots c)}
      {Q = λ c. unfolded graph roots m (root roots c) ≡ unfolded graph roots (suc m) (root roots c)}
      (shape_at graph i) e (λ c d. sym (unfolded_deeper m (suc m) (root roots c) d (omega arith))))

  -- the arguments of a node are nodes
  pub args_within : IsGraph graph → (i : ℕ) → i < length graph → EachArg (λ c. c < length graph) (shape_at graph i)
  args_within fine i l = each_from {P = λ c. c < i} {Q = λ c. c < length graph} (shape_at graph i)
      (below_each i (shape_at graph i) (fine i l)) (λ c h. omega arith)

  module _ (fine : IsGraph graph) (within : (i : ℕ) → i < length graph → root roots i < length graph)
      (tree : ℕ → Tree) (depicts : Depicts graph tree) where
    -- the instance of a tree that is made is the mark
    pub instance_unfolded : (t : List (Option Tree)) → Follows graph roots (λ i. apply t (tree i)) → (k i : ℕ) →
        i < length graph → Ends graph roots k i → apply t (unfolded graph roots k i) ≡ apply t (tree i)
    instance_unfolded t follows zero i l e = absurd e
    instance_unfolded t follows (suc k) i l e =
        apply-built_each t (λ c. unfolded graph roots k (root roots c)) tree (shape_at graph i)
        (each_from_both {P = λ c. c < length graph} {Q = λ c. Ends graph roots k (root roots c)}
        {S = λ c. apply t (unfolded graph roots k (root roots c)) ≡ apply t (tree c)} (shape_at graph i)
        (args_within fine i l) e
        (λ c h d. instance_unfolded t follows k (root roots c) (within c h) d ∙ sym (follows c h)))
        ∙ ap (λ x. apply t x) (sym (depicts i l))

    -- the variables of a tree that is made are variables of the nodes
    pub occurs_unfolded : (P : ℕ → Type 0) → ((i m : ℕ) → i < length graph → Occurs m (tree i) → P m) →
        (k i m : ℕ) → i < length graph → Ends graph roots k i → Occurs m (unfolded graph roots k i) → P m
    occurs_unfolded P h zero i m l e o = absurd e
    occurs_unfolded P h (suc k) i m l e o =
        occurs_built (P m) m tree (λ c. unfolded graph roots k (root roots c)) (shape_at graph i)
        (λ q. h i m l (subst (λ x. Occurs m x) (sym (depicts i l)) q))
        (each_from_both {P = λ c. c < length graph} {Q = λ c. Ends graph roots k (root roots c)}
        {S = λ c. Occurs m (unfolded graph roots k (root roots c)) → P m} (shape_at graph i)
        (args_within fine i l) e
        (λ c b d q. occurs_unfolded P h k (root roots c) m (within c b) d q)) o

    -- the root of a class has the sort of its nodes
    pub moved_sort : (sig : Sig) (ctx : List SortId) → AreSorted sig ctx graph tree →
        Follows graph roots (sort_mark sig ctx tree) → (c : ℕ) → c < length graph →
        root roots c < length graph → (r : SortId) → Sorted sig ctx (tree c) r → Sorted sig ctx (tree (root roots c)) r
    moved_sort sig ctx h follows c b w r q =
        let a = h (root roots c) w in
        let m : var (sort_number sig ctx (tree c)) ≡ var (sort_number sig ctx (tree (root roots c))) = follows c b in
        let n : sort_number sig ctx (tree c) ≡ sort_number sig ctx (tree (root roots c)) = cc in
        let x : a.0.0 ≡ r.0 = sym (sort_number_is sig ctx (tree (root roots c)) a.0 a.1) ∙ sym n
        ∙ sort_number_is sig ctx (tree c) r q in
        let y : a.0 ≡ r = λ j. record { 0 = x j } in
        subst (λ u. Sorted sig ctx (tree (root roots c)) u) y a.1

    -- a tree that is made has the sort of the node
    pub sorted_unfolded : (sig : Sig) (ctx : List SortId) → AreSorted sig ctx graph tree →
        Follows graph roots (sort_mark sig ctx tree) → (k i : ℕ) → i < length graph → Ends graph roots k i →
        (s : SortId) → Sorted sig ctx (tree i) s → Sorted sig ctx (unfolded graph roots k i) s
    sorted_unfolded sig ctx h follows zero i l e s p = absurd e
    sorted_unfolded sig ctx h follows (suc k) i l e s p =
        sorted_built sig ctx tree (λ c. unfolded graph roots k (root roots c)) (shape_at graph i) s
        (each_from_both {P = λ c. c < length graph} {Q = λ c. Ends graph roots k (root roots c)}
        {S = λ c. (r : SortId) → Sorted sig ctx (tree c) r →
        Sorted sig ctx (unfolded graph roots k (root roots c)) r} (shape_at graph i) (args_within fine i l) e
        (λ c b d r q. sorted_unfolded sig ctx h follows k (root roots c) (within c b) d r
        (moved_sort sig ctx h follows c b (within c b) r q)))
        (subst (λ x. Sorted sig ctx x s) (depicts i l) p)

-- the nodes stand for parts of the two terms
pub record AreParts (graph : List Shape) (tree : ℕ → Tree) (a b : Tree) : Type 0 where
  pub numbered : IsGraph graph
  pub depicts : Depicts graph tree
  pub parts : (i : ℕ) → i < length graph → IsPart (tree i) a ⊎ IsPart (tree i) b

module _ (graph : List Shape) (tree : ℕ → Tree) (a b : Tree) (parts : AreParts graph tree a b) where
  part_in_either : (i m : ℕ) → i < length graph → Occurs m (tree i) → OccursInEither a b m
  part_in_either i m l o = elim (parts.parts i l) [
    | inl p ↦ inl (part_occurs m (tree i) a p o)
    | inr p ↦ inr
        (part_occurs m (tree i) b p o)
  ]

  are_sorted : (sig : Sig) (ctx : List SortId) (s : SortId) → Sorted sig ctx a s → Sorted sig ctx b s →
      AreSorted sig ctx graph tree
  are_sorted sig ctx s p q i l = elim (parts.parts i l) [
    | inl r ↦ part_sorted sig ctx (tree i) a s r p
    | inr r ↦
        part_sorted sig ctx (tree i) b s r q
  ]

  -- the tree of a variable's node
  of_variable : (i n : ℕ) → IsNodeOf graph n i → tree i ≡ var n
  of_variable i n at = parts.depicts i at.0 ∙ by (shape_at graph i) at.1
    where
      by : (s : Shape) → IsShapeOf n s → built tree s ≡ var n
      by (Var v) e = ap (λ k. var k) e
      by (App f cs) e = absurd e

  module _ (first second : ℕ) (one : tree first ≡ a) (other : tree second ≡ b) (first_in : first < length graph)
      (second_in : second < length graph) where
    unifier_marks : (t : List (Option Tree)) → IsUnifier a b t → apply t (tree first) ≡ apply t (tree second)
    unifier_marks t u = ap (λ x. apply t x) one ∙ u ∙ ap (λ x. apply t x) (sym other)

    -- if no marking is a model with one mark for both, the terms have no unifier
    pub none_by : ((mark : ℕ → Tree) → IsModel graph mark → mark first ≡ mark second → ⊥) → HaveNoUnifier a b
    none_by h t u = h (λ i. apply t (tree i)) (instance_model graph tree parts.depicts t) (unifier_marks t u)

    module _ (roots : List ℕ) (closure : IsClosure graph first second roots) where
      -- the unifiers follow the classes
      followed : (t : List (Option Tree)) → IsUnifier a b t → Follows graph roots (λ i. apply t (tree i))
      followed t u =
          let mark : ℕ → Tree = λ i. apply t (tree i) in
          closure.sound mark (model_splits graph mark (instance_model graph tree parts.depicts t)) (unifier_marks t u)

      pub none_by_cycle : HasNoModel graph roots → HaveNoUnifier a b
      none_by_cycle h t u = h (λ i. apply t (tree i)) (instance_model graph tree parts.depicts t) (followed t u)

      module _ (acyclic : IsAcyclic graph roots) (entries : List (Option Tree))
          (are : AreEntries graph roots entries) where
        -- the tree of a node's class
        abbrev tree_of_class : ℕ → Tree
        tree_of_class i = resolved graph roots (root roots i)

        class_is : (i : ℕ) → i < length graph → tree_of_class i ≡ built tree_of_class (shape_at graph (root roots i))
        class_is i l = unfolded_is graph roots (length graph) (root roots i)
            (acyclic (root roots i) (closure.classes.within i l))

        class_follows : Follows graph roots tree_of_class
        class_follows i l = ap (λ r. resolved graph roots r) (sym (closure.classes.still i l))

        -- the instance of a node's tree is the tree of its class
        instance_is : (n i : ℕ) → i < n → i < length graph → apply entries (tree i) ≡ tree_of_class i
        instance_is zero i h l = absurd (omega arith)
        instance_is (suc n) i h l =
            ap (λ x. apply entries x) (parts.depicts i l)
            ∙ by (shape_at graph i) refl (each_from_both {P = λ c. c < i} {Q = λ c. c < length graph}
            {S = λ c. apply entries (tree c) ≡ tree_of_class c} (shape_at graph i)
            (below_each i (shape_at graph i) (parts.numbered i l))
            (args_within graph roots parts.numbered i l) (λ c b d. instance_is n c (omega arith) d))
          where
            by : (s : Shape) → shape_at graph i ≡ s →
                EachArg (λ c. apply entries (tree c) ≡ tree_of_class c) s →
                apply entries (built tree s) ≡ tree_of_class i
            by (Var v) is e = are.filled i v.0 (l, subst (λ s. IsShapeOf v.0 s) (sym is) refl)
            by (App f cs) is e =
                let c = closure.classes.closed i f cs l is in
                ap (λ us. app f.0 us) (apply-trees_by entries tree cs
                ∙ trees_by_each (λ c. apply entries (tree c)) tree_of_class cs e
                ∙ c.5 tree_of_class class_follows tt)
                ∙ ap (λ n. app n (trees_by tree_of_class c.1)) c.3
                ∙ sym (class_is i l ∙ ap (λ s. built tree_of_class s) c.2)

        pub unifies : IsUnifier a b entries
        unifies =
            ap (λ x. apply entries x) (sym one) ∙ instance_is (suc first) first (omega arith) first_in
            ∙ closure.joined tree_of_class class_follows
            ∙ sym (ap (λ x. apply entries x) (sym other) ∙ instance_is (suc second) second (omega arith) second_in)

        -- a unifier after the entries is the unifier
        after_entries : (t : List (Option Tree)) → IsUnifier a b t → (n : ℕ) (o : Option Tree) →
            entry entries n ≡ o → image t n ≡ apply t (unwrap_or o (var n))
        after_entries t u n None e = refl
        after_entries t u n (Some x) e =
            let r = are.only n x e in
            let i = r.0 in
            let l = r.1.0 in
            let h = followed t u in
            ap (λ y. apply t y) (sym (of_variable i n r.1)) ∙ h i l
            ∙ sym (instance_unfolded graph roots parts.numbered closure.classes.within tree parts.depicts t h
            (length graph) (root roots i) (closure.classes.within i l)
            (acyclic (root roots i) (closure.classes.within i l)))
            ∙ ap (λ y. apply t y) (sym r.2)

        mutual
          composed : (t : List (Option Tree)) → IsUnifier a b t → (x : Tree) → apply t x ≡ apply t (apply entries x)
          composed t u (var n) = after_entries t u n (entry entries n) refl
          composed t u (app f ts) = ap (λ us. app f us) (composed_all t u ts)

          composed_all : (t : List (Option Tree)) → IsUnifier a b t → (xs : Trees) →
              apply_all t xs ≡ apply_all t (apply_all entries xs)
          composed_all t u none = refl
          composed_all t u (some x xs) =
              let p : apply t x ≡ apply t (apply entries x) = composed t u x in
              let q : apply_all t xs ≡ apply_all t (apply_all entries xs) = composed_all t u xs in
              cc

        pub is_most_general : IsMostGeneral a b entries
        is_most_general = record { unifies = unifies; general = λ t u. (t, composed t u) }

        pub is_relevant : IsRelevant a b entries
        is_relevant n t e =
            let r = are.only n t e in
            let i = r.0 in
            let l = r.1.0 in
            let w = closure.classes.within i l in (
              part_in_either i n l (subst (λ x. Occurs n x) (sym (of_variable i n r.1)) refl),
              λ m o.
                  occurs_unfolded graph roots parts.numbered closure.classes.within tree parts.depicts
                  (λ k. OccursInEither a b k) part_in_either (length graph) (root roots i) m w
                  (acyclic (root roots i) w) (subst (λ x. Occurs m x) r.2 o),
            )

        pub keeps_sorts : KeepsSorts a b entries
        keeps_sorts sig ctx sort p q n t e =
            let r = are.only n t e in
            let i = r.0 in
            let l = r.1.0 in
            let w = closure.classes.within i l in
            let h = are_sorted sig ctx sort p q in
            let mark = sort_mark sig ctx tree in
            let equal : mark first ≡ mark second = ap (λ k. var k) (ap (λ x. sort_number sig ctx x) one
            ∙ sort_number_is sig ctx a sort p
            ∙ sym (ap (λ x. sort_number sig ctx x) other ∙ sort_number_is sig ctx b sort q)) in
            let follows = closure.sound mark (sorts_split sig ctx graph tree parts.depicts h) equal in
            let s = h i l in
            let own : slice_get ctx n ≡ Some s.0 = subst (λ x. Sorted sig ctx x s.0) (of_variable i n r.1) s.1 in (
              s.0,
              own,
              subst (λ x. Sorted sig ctx x s.0) (sym r.2)
                  (sorted_unfolded graph roots parts.numbered closure.classes.within tree parts.depicts sig ctx h
                  follows (length graph) (root roots i) w (acyclic (root roots i) w) s.0
                  (moved_sort graph roots parts.numbered closure.classes.within tree parts.depicts sig ctx h
                  follows i l w s.0 s.1)),
            )
