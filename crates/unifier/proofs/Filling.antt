-- Entries for the variables of a graph, node by node.
use Rattle.std.proofs.Common.{◌≡◌, ℕ, ◌+◌, ◌<◌, ◌≤◌, List, [], ◌∷◌, ◌++◌, Option, Some, None, inl, inr, refl, ap, sym}
use Rattle.std.proofs.Common.{◌∙◌, subst, arith, length, get_or, take}
use Rattle.std.specs.Prelude.{slice_index, unwrap_or}
use Rattle.std.proofs.lemmas.List.{get_or_read, take_more}
use Rattle.term_core.specs.Tree.{Tree, var, app, trees_of}
use Rattle.term_core.specs.declared.ids.SymId.{SymId}
use Rattle.term_core.specs.declared.ids.VarId.{VarId}
use Rattle.substitutions.specs.Substitution.{entry, image}
use Rattle.substitutions.specs.Updates.{IsSetTo}
use Rattle.unifier.specs.declared.unification.graph.Shape.{Shape}
use Rattle.unifier.specs.declared.unification.graph.Shape.TheVariants.{Var, App}
use Rattle.unifier.specs.Graph.{shape_at, trees_by, built, AllBelow, ArgsBelow, IsGraph, IsShapeOf, IsNodeOf}
use Rattle.unifier.specs.Graph.{HasOneNodeEach}
use Rattle.unifier.specs.Roots.{root}
use Rattle.unifier.specs.Cycles.{IsAcyclic}
use Rattle.unifier.specs.Answer.{resolved, resolved_all, AreEntries}
use Rattle.unifier.proofs.Graphs.{below_most, trees_by-append}
use Rattle.unifier.proofs.Resolutions.{unfolded_is}
use Rattle.term_core.proofs.Numbers.{same_or_not, below_or_last}

-- the same as AreEntries, for the first nodes
pub record AreEntriesBelow (graph : List Shape) (roots : List ℕ) (count : ℕ) (entries : List (Option Tree)) :
    Type 0 where
  pub filled : (i n : ℕ) → i < count → IsNodeOf graph n i → image entries n ≡ resolved graph roots (root roots i)
  pub only : (n : ℕ) (t : Tree) → entry entries n ≡ Some t → (i : ℕ) × IsNodeOf graph n i
      × (t ≡ resolved graph roots (root roots i)) × (i < count)

module _ (graph : List Shape) (roots : List ℕ) where
  -- the tree of a node by those of its arguments
  pub resolved_is : (node : ℕ) (s : Shape) → IsAcyclic graph roots → node < length graph →
      s ≡ get_or graph node s → resolved graph roots node ≡ built (λ c. resolved graph roots (root roots c)) s
  resolved_is node s acyclic l read =
      unfolded_is graph roots (length graph) node (acyclic node l)
      ∙ ap (λ x. built (λ c. resolved graph roots (root roots c)) x)
      (sym (get_or_read graph node s l read (Var (record { 0 = 0 }))))

  pub resolved_variable : (node : ℕ) (s : Shape) (v : VarId) → IsAcyclic graph roots → node < length graph →
      s ≡ get_or graph node s → s ≡ Var v → var v.0 ≡ resolved graph roots node
  resolved_variable node s v acyclic l read is = sym (resolved_is node s acyclic l read
      ∙ ap (λ x. built (λ c. resolved graph roots (root roots c)) x) is)

  -- one more node, of a variable
  pub entries_more : (old after : List (Option Tree)) (node : ℕ) (s : Shape) (v : VarId) (t : Tree) →
      HasOneNodeEach graph → node < length graph → s ≡ get_or graph node s → s ≡ Var v →
      t ≡ resolved graph roots (root roots node) → AreEntriesBelow graph roots node old →
      IsSetTo old v.0 t after → AreEntriesBelow graph roots (node + 1) after
  entries_more old after node s v t one l read is e h put =
      let at : shape_at graph node ≡ Var v = sym (get_or_read graph node s l read (Var (record { 0 = 0 }))) ∙ is in
      let own : IsNodeOf graph v.0 node = (l, subst (λ x. IsShapeOf v.0 x) (sym at) refl) in
      record {
        filled = λ i n b at_i. elim (below_or_last i node b) [
          | inl c ↦ ap (λ o. unwrap_or o (var n))
              (put.1 n (λ q. absurd
              (omega (arith, one i node n at_i (subst (λ m. IsNodeOf graph m node) (sym q) own)))))
              ∙ h.filled i n c at_i
          | inr c ↦
              let other : IsNodeOf graph n node = subst (λ k. IsNodeOf graph n k) c at_i in
              let q : v.0 ≡ n = subst (λ x. IsShapeOf n x) at other.1 in
              ap (λ m. image after m) (sym q) ∙ ap (λ o. unwrap_or o (var v.0)) put.0 ∙ e
              ∙ ap (λ k. resolved graph roots (root roots k)) (sym c)
        ];
        only = λ n x a. elim (same_or_not n v.0) [
          | inl q ↦
              let d : Some t ≡ Some x = sym put.0 ∙ ap (λ m. entry after m) (sym q) ∙ a in
              let k : x ≡ t = cc in
              (node, subst (λ m. IsNodeOf graph m node) (sym q) own, k ∙ e, omega arith)
          | inr q ↦
              let r = h.only n x (sym (put.1 n q) ∙ a) in
              (r.0, r.1, r.2, omega (arith, r.3))
        ];
      }

  -- one more node, of a variable that is its own root
  pub entries_keep : (old : List (Option Tree)) (node : ℕ) (s : Shape) (v : VarId) → HasOneNodeEach graph →
      IsAcyclic graph roots → node < length graph → s ≡ get_or graph node s → s ≡ Var v →
      root roots node ≡ node → AreEntriesBelow graph roots node old → AreEntriesBelow graph roots (node + 1) old
  entries_keep old node s v one acyclic l read is own h =
      record {
        filled = λ i n b at_i. elim (below_or_last i node b) [
          | inl c ↦ h.filled i n c at_i
          | inr c ↦
              let other : IsNodeOf graph n node = subst (λ k. IsNodeOf graph n k) c at_i in
              let q : v.0 ≡ n = subst (λ x. IsShapeOf n x) at other.1 in
              itself n other (entry old n) refl ∙ ap (λ m. var m) (sym q)
              ∙ resolved_variable node s v acyclic l read is ∙ ap (λ k. resolved graph roots k) (sym own)
              ∙ ap (λ k. resolved graph roots (root roots k)) (sym c)
        ];
        only = λ n x a.
            let r = h.only n x a in
            (r.0, r.1, r.2, omega (arith, r.3));
      }
    where
      at : shape_at graph node ≡ Var v
      at = sym (get_or_read graph node s l read (Var (record { 0 = 0 }))) ∙ is

      itself : (n : ℕ) → IsNodeOf graph n node → (o : Option Tree) → entry old n ≡ o → image old n ≡ var n
      itself n other None e = ap (λ o. unwrap_or o (var n)) e
      itself n other (Some x) e =
          let r = h.only n x e in
          absurd (omega (arith, r.3, one r.0 node n r.1 other))

  -- one more node, of an application
  pub entries_stay : (old : List (Option Tree)) (node : ℕ) (s : Shape) (f : SymId) (cs : List ℕ) →
      node < length graph → s ≡ get_or graph node s → s ≡ App f cs → AreEntriesBelow graph roots node old →
      AreEntriesBelow graph roots (node + 1) old
  entries_stay old node s f cs l read is h =
      let at : shape_at graph node ≡ App f cs = sym (get_or_read graph node s l read (Var (record { 0 = 0 }))) ∙ is in
      record {
        filled = λ i n b at_i. elim (below_or_last i node b) [
          | inl c ↦ h.filled i n c at_i
          | inr c ↦
              let other : IsNodeOf graph n node = subst (λ k. IsNodeOf graph n k) c at_i in
              absurd (subst (λ x. IsShapeOf n x) at other.1)
        ];
        only = λ n x a.
            let r = h.only n x a in
            (r.0, r.1, r.2, omega (arith, r.3));
      }

  pub entries_all : (es : List (Option Tree)) (count : ℕ) → length graph ≤ count →
      AreEntriesBelow graph roots count es → AreEntries graph roots es
  entries_all es count l h = record {
    filled = λ i n at. h.filled i n (omega (arith, at.0)) at;
    only = λ n t e. let r = h.only n t e in (r.0, r.1, r.2);
  }

  pub entries_none : AreEntriesBelow graph roots 0 []
  entries_none = record {
    filled = λ i n b at. absurd (omega arith);
    only = λ n t e. absurd (let q : None ≡ Some t = e in cc);
  }

  pub resolved_application : (node : ℕ) (s : Shape) (f : SymId) (cs : List ℕ) → IsAcyclic graph roots →
      node < length graph → s ≡ get_or graph node s → s ≡ App f cs →
      resolved graph roots node ≡ app f.0 (resolved_all graph roots cs)
  resolved_application node s f cs acyclic l read is = resolved_is node s acyclic l read
      ∙ ap (λ x. built (λ c. resolved graph roots (root roots c)) x) is

  pub args_of_node : (node : ℕ) (s : Shape) (f : SymId) (cs : List ℕ) → IsGraph graph → node < length graph →
      s ≡ get_or graph node s → s ≡ App f cs → AllBelow (length graph) cs
  args_of_node node s f cs fine l read is =
      let at : shape_at graph node ≡ App f cs = sym (get_or_read graph node s l read (Var (record { 0 = 0 }))) ∙ is in
      below_most node (length graph) cs (omega arith) (subst (λ x. ArgsBelow node x) at (fine node l))

pub resolved_last : (tree : ℕ → Tree) (cs : List ℕ) (k : ℕ) (made : List Tree) (t : Tree) → k < length cs →
    t ≡ tree (slice_index cs k) → trees_of made ≡ trees_by tree (take k cs) →
    trees_of (made ++ t ∷ []) ≡ trees_by tree (take (k + 1) cs)
resolved_last tree cs k made t h e m =
    sym (ap (λ xs. trees_by tree xs) (take_more cs k 0 h) ∙ trees_by-append tree (take k cs) (slice_index cs k)
    made t (sym m) (sym e))

pub resolved_more : (graph : List Shape) (roots cs : List ℕ) (k : ℕ) (made after : List Tree) (t : Tree) →
    k < length cs → t ≡ resolved graph roots (root roots (slice_index cs k)) →
    trees_of made ≡ resolved_all graph roots (take k cs) → after ≡ made ++ t ∷ [] →
    trees_of after ≡ resolved_all graph roots (take (k + 1) cs)
resolved_more graph roots cs k made after t h e m is = ap (λ ts. trees_of ts) is
    ∙ resolved_last (λ c. resolved graph roots (root roots c)) cs k made t h e m
