-- Unifiers and sorts as markings of the nodes.
use Rattle.std.proofs.Common.{◌≡◌, ℕ, suc, ◌<◌, List, [], ◌∷◌, Option, Some, None, inl, inr, refl, ap, sym, ◌∙◌, subst}
use Rattle.std.proofs.Common.{arith, length}
use Rattle.std.specs.Prelude.{slice_get, slice_index}
use Rattle.term_core.specs.Tree.{Tree, Trees, var, app, none, some}
use Rattle.term_core.specs.declared.ids.SortId.{SortId}
use Rattle.spec_core.specs.declared.records.SymInfo.{SymInfo}
use Rattle.spec_core.specs.Sig.{Sig, info_of}
use Rattle.spec_core.specs.Sorts.{Sorted, SortedAll}
use Rattle.term_core.specs.Variables.{Occurs, OccursAny}
use Rattle.substitutions.specs.Substitution.{apply}
use Rattle.unifier.specs.declared.unification.graph.Shape.{Shape}
use Rattle.unifier.specs.declared.unification.graph.Shape.TheVariants.{Var, App}
use Rattle.unifier.specs.Graph.{trees_by, built, Depicts}
use Rattle.unifier.specs.Parts.{IsPart, IsPartOfAny}
use Rattle.unifier.specs.Markings.{IsModel, Splits}
use Rattle.unifier.specs.Cycles.{EachArg}
use Rattle.unifier.proofs.Graphs.{apply-trees_by}
use Rattle.term_core.proofs.Trees.{args_eq}

module _ (graph : List Shape) where
  -- trees with one instance have arguments with one instance
  pub model_splits : (mark : ℕ → Tree) → IsModel graph mark → Splits graph mark
  model_splits mark h i j f g cs ds li lj ei ej fg n e = args_eq (sym (h i f cs li ei) ∙ e ∙ h j g ds lj ej)

  -- the instances of the nodes' trees
  pub instance_model : (tree : ℕ → Tree) → Depicts graph tree → (t : List (Option Tree)) →
      IsModel graph (λ i. apply t (tree i))
  instance_model tree d t i f cs l e =
      let p : tree i ≡ built tree (App f cs) = d i l ∙ ap (λ s. built tree s) e in
      ap (λ x. apply t x) p ∙ ap (λ us. app f.0 us) (apply-trees_by t tree cs)

-- the sort that a term has, if it has one
abbrev result_of : Option SymInfo → ℕ
result_of (Some i) = i.result.0
result_of None = 0

abbrev number_of : Option SortId → ℕ
number_of (Some s) = s.0
number_of None = 0

abbrev pub sort_number : Sig → List SortId → Tree → ℕ
sort_number sig ctx (var n) = number_of (slice_get ctx n)
sort_number sig ctx (app f ts) = result_of (info_of sig f)

pub sort_number_is : (sig : Sig) (ctx : List SortId) (t : Tree) (s : SortId) → Sorted sig ctx t s →
    sort_number sig ctx t ≡ s.0
sort_number_is sig ctx (var n) s p = ap (λ o. number_of o) p
sort_number_is sig ctx (app f ts) s p = ap (λ o. result_of o) p.1 ∙ ap (λ (u : SortId). u.0) p.2

abbrev pub sort_mark : Sig → List SortId → (ℕ → Tree) → ℕ → Tree
sort_mark sig ctx tree i = var (sort_number sig ctx (tree i))

-- each node has a sort
abbrev pub AreSorted : Sig → List SortId → List Shape → (ℕ → Tree) → Type 0
AreSorted sig ctx graph tree = (i : ℕ) → i < length graph → (s : SortId) × Sorted sig ctx (tree i) s

module _ (sig : Sig) (ctx : List SortId) where
  -- two lists of terms of one list of sorts have one mark, place by place
  same_marks : (tree : ℕ → Tree) (cs ds : List ℕ) (ss : List SortId) → SortedAll sig ctx (trees_by tree cs) ss →
      SortedAll sig ctx (trees_by tree ds) ss →
      trees_by (sort_mark sig ctx tree) cs ≡ trees_by (sort_mark sig ctx tree) ds
  same_marks tree [] [] ss p q = refl
  same_marks tree [] (d ∷ ds) [] p q = absurd q
  same_marks tree [] (d ∷ ds) (s ∷ ss) p q = absurd p
  same_marks tree (c ∷ cs) [] [] p q = absurd p
  same_marks tree (c ∷ cs) [] (s ∷ ss) p q = absurd q
  same_marks tree (c ∷ cs) (d ∷ ds) [] p q = absurd p
  same_marks tree (c ∷ cs) (d ∷ ds) (s ∷ ss) p q =
      let e : sort_number sig ctx (tree c) ≡ sort_number sig ctx (tree d) = sort_number_is sig ctx (tree c) s
      p.0 ∙ sym (sort_number_is sig ctx (tree d) s q.0) in
      let r : trees_by (sort_mark sig ctx tree) cs ≡ trees_by (sort_mark sig ctx tree) ds = same_marks tree cs
      ds ss p.1 q.1 in
      cc

  app_sorted : (f : ℕ) (ts us : Trees) (s u : SortId) → Sorted sig ctx (app f ts) s →
      Sorted sig ctx (app f us) u → (ss : List SortId) × SortedAll sig ctx ts ss × SortedAll sig ctx us ss
  app_sorted f ts us s u p q =
      let e : Some p.0 ≡ Some q.0 = sym p.1 ∙ q.1 in
      let k : q.0 ≡ p.0 = cc in
      (p.0.args, p.3, subst (λ (i : SymInfo). SortedAll sig ctx us i.args) k q.3)

  pub sorts_split : (graph : List Shape) (tree : ℕ → Tree) → Depicts graph tree → AreSorted sig ctx graph tree →
      Splits graph (sort_mark sig ctx tree)
  sorts_split graph tree d h i j f g cs ds li lj ei ej fg n e =
      let p : tree i ≡ app f.0 (trees_by tree cs) = d i li ∙ ap (λ s. built tree s) ei in
      let q : tree j ≡ app f.0 (trees_by tree ds) = d j lj ∙ ap (λ s. built tree s) ej
      ∙ ap (λ m. app m (trees_by tree ds)) (sym fg) in
      let a = h i li in
      let b = h j lj in
      let r = app_sorted f.0 (trees_by tree cs) (trees_by tree ds) a.0 b.0
      (subst (λ x. Sorted sig ctx x a.0) p a.1) (subst (λ x. Sorted sig ctx x b.0) q b.1) in
      same_marks tree cs ds r.0 r.1 r.2

  sorted_places : (f g : ℕ → Tree) (cs : List ℕ) (ss : List SortId) →
      ((k : ℕ) → k < length cs → (s : SortId) → Sorted sig ctx (f (slice_index cs k)) s →
      Sorted sig ctx (g (slice_index cs k)) s) → SortedAll sig ctx (trees_by f cs) ss →
      SortedAll sig ctx (trees_by g cs) ss
  sorted_places f g [] [] h p = tt
  sorted_places f g [] (s ∷ ss) h p = absurd p
  sorted_places f g (c ∷ cs) [] h p = absurd p
  sorted_places f g (c ∷ cs) (s ∷ ss) h p = (
    h 0 (omega arith) s p.0,
    sorted_places f g cs ss (λ k l. h (suc k) (omega arith)) p.1,
  )

  -- an application stays sorted with arguments of the same sorts
  pub sorted_built : (f g : ℕ → Tree) (s : Shape) (u : SortId) →
      EachArg (λ c. (r : SortId) → Sorted sig ctx (f c) r → Sorted sig ctx (g c) r) s →
      Sorted sig ctx (built f s) u → Sorted sig ctx (built g s) u
  sorted_built f g (Var v) u h p = p
  sorted_built f g (App m cs) u h p = (p.0, p.1, p.2, sorted_places f g cs p.0.args h p.3)

  mutual
    -- a part of a sorted term is sorted
    pub part_sorted : (t u : Tree) (s : SortId) → IsPart t u → Sorted sig ctx u s → (r : SortId) × Sorted sig ctx t r
    part_sorted t (var n) s e p = (s, subst (λ x. Sorted sig ctx x s) (sym e) p)
    part_sorted t (app f ts) s (inl e) p = (s, subst (λ x. Sorted sig ctx x s) (sym e) p)
    part_sorted t (app f ts) s (inr e) p = part_of_any_sorted t ts p.0.args e p.3

    part_of_any_sorted : (t : Tree) (us : Trees) (ss : List SortId) → IsPartOfAny t us →
        SortedAll sig ctx us ss → (r : SortId) × Sorted sig ctx t r
    part_of_any_sorted t none ss e p = absurd e
    part_of_any_sorted t (some u us) [] e p = absurd p
    part_of_any_sorted t (some u us) (s ∷ ss) (inl e) p = part_sorted t u s e p.0
    part_of_any_sorted t (some u us) (s ∷ ss) (inr e) p = part_of_any_sorted t us ss e p.1

mutual
  -- a variable of a part is a variable of the term
  pub part_occurs : (m : ℕ) (t u : Tree) → IsPart t u → Occurs m t → Occurs m u
  part_occurs m t (var n) e o = subst (λ x. Occurs m x) e o
  part_occurs m t (app f ts) (inl e) o = subst (λ x. Occurs m x) e o
  part_occurs m t (app f ts) (inr e) o = part_of_any_occurs m t ts e o

  part_of_any_occurs : (m : ℕ) (t : Tree) (us : Trees) → IsPartOfAny t us → Occurs m t → OccursAny m us
  part_of_any_occurs m t none e o = absurd e
  part_of_any_occurs m t (some u us) (inl e) o = inl (part_occurs m t u e o)
  part_of_any_occurs m t (some u us) (inr e) o = inr (part_of_any_occurs m t us e o)
