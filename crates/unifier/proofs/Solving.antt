-- The graph of two terms, and what its closure says of them.
use Rattle.std.proofs.Common.{◌≡◌, ℕ, ◌<◌, List, [], inl, inr, Bool, true, false, MatchBool, Option, Some, None, sym}
use Rattle.std.proofs.Common.{◌∙◌, subst, arith, length}
use Rattle.std.specs.Prelude.{IfSome}
use Rattle.std.specs.Option.{IfNone}
use Rattle.std.specs.Global.{Vec}
use Rattle.term_core.specs.Tree.{Tree, var}
use Rattle.unifier.specs.declared.unification.graph.Shape.{Shape}
use Rattle.unifier.specs.Unification.{HaveNoUnifier, IsMostGeneral, IsRelevant, KeepsSorts}
use Rattle.unifier.specs.Graph.{IsGraph, HasOneNodeEach}
use Rattle.unifier.specs.Parts.{IsPart}
use Rattle.unifier.specs.Adding.{IsOf, Adds}
use Rattle.unifier.specs.Closure.{IsClosure, IsClash}
use Rattle.unifier.specs.Roots.{AreRoots}
use Rattle.unifier.specs.Cycles.{IsAcyclic, HasNoModel}
use Rattle.unifier.specs.Answer.{AreEntries}
use Rattle.unifier.proofs.Resolutions.{AreParts, none_by, none_by_cycle, is_most_general, is_relevant, keeps_sorts}
use Rattle.term_core.proofs.Numbers.{below_or_not}

-- the graph has the nodes of both terms, and no others
pub record IsGraphOf (graph : List Shape) (first second : ℕ) (a b : Tree) : Type 0 where
  pub tree : ℕ → Tree
  pub parts : AreParts graph tree a b
  pub variables : HasOneNodeEach graph
  pub one : tree first ≡ a
  pub other : tree second ≡ b
  pub first_in : first < length graph
  pub second_in : second < length graph

pub graph_of : (empty mid graph : List Shape) (first second : ℕ) (a b : Tree) → empty ≡ [] →
    Adds empty a first mid → Adds mid b second graph → IsGraphOf graph first second a b
graph_of empty mid graph first second a b e x y =
    let start : IsOf [] (λ i. var 0) = record {
      numbered = λ i l. absurd (omega arith);
      variables = λ i j n p q.
          absurd (omega (arith, p.0));
      depicts = λ i l. absurd (omega arith);
    } in
    let p = subst (λ g. Adds g a first mid) e x (λ i. var 0) start in
    let q = y p.0 p.1.is in
    record {
      tree = q.0;
      parts = record {
        numbered = q.1.is.numbered;
        depicts = q.1.is.depicts;
        parts = λ i l. elim (below_or_not i (length mid)) [
          | inl h ↦ inl (subst (λ t. IsPart t a) (sym (q.1.kept i h)) (p.4 i (omega arith) h))
          | inr h ↦ inr (q.4 i h l)
        ];
      };
      variables = q.1.is.variables;
      one = q.1.kept first p.2 ∙ p.3;
      other = q.3;
      first_in = omega (arith, p.2, q.1.longer);
      second_in = q.2;
    }

module _ (graph : List Shape) (first second : ℕ) (a b : Tree) (of : IsGraphOf graph first second a b) where
  pub clash_has_no_unifier : IsClash graph first second → HaveNoUnifier a b
  clash_has_no_unifier c = none_by graph of.tree a b of.parts first second of.one of.other of.first_in of.second_in c

  pub are_roots : (roots : List ℕ) → IsClosure graph first second roots → AreRoots graph roots
  are_roots roots c = record { long = c.classes.long; within = c.classes.within }

  pub cycle_has_no_unifier : (roots : List ℕ) → IsClosure graph first second roots → HasNoModel graph roots →
      HaveNoUnifier a b
  cycle_has_no_unifier roots c h = none_by_cycle graph of.tree a b of.parts first second of.one of.other
      of.first_in of.second_in roots c h

  module _ (roots : List ℕ) (c : IsClosure graph first second roots) (acyclic : IsAcyclic graph roots)
      (entries : List (Option Tree)) (are : AreEntries graph roots entries) where
    pub entries_general : IsMostGeneral a b entries
    entries_general = is_most_general graph of.tree a b of.parts first second of.one of.other of.first_in
        of.second_in roots c acyclic entries are

    pub entries_relevant : IsRelevant a b entries
    entries_relevant = is_relevant graph of.tree a b of.parts first second of.one of.other of.first_in
        of.second_in roots c acyclic entries are

    pub entries_sorted : KeepsSorts a b entries
    entries_sorted = keeps_sorts graph of.tree a b of.parts first second of.one of.other of.first_in
        of.second_in roots c acyclic entries are

-- the three things that are said of the answer
pub record IsAnswer (a b : Tree) (s : List (Option Tree)) : Type 0 where
  pub general : IsMostGeneral a b s
  pub relevant : IsRelevant a b s
  pub sorted : KeepsSorts a b s

-- the same, as the code reads the graph and the roots
module _ (graph : List Shape) (first second : ℕ) (a b : Tree) (of : IsGraphOf graph first second a b) where
  module _ (g : List Shape) (at : g ≡ graph) where
    pub numbered_at : IsGraph g
    numbered_at = subst (λ x. IsGraph x) (sym at) of.parts.numbered

    pub variables_at : HasOneNodeEach g
    variables_at = subst (λ x. HasOneNodeEach x) (sym at) of.variables

    pub first_at : first < length g
    first_at = subst (λ x. first < length x) (sym at) of.first_in

    pub second_at : second < length g
    second_at = subst (λ x. second < length x) (sym at) of.second_in

    pub clash_at : (found : Option (Vec ℕ)) → found ≡ None → IfNone found (IsClash g first second) → HaveNoUnifier a b
    clash_at found e h =
        let k = subst (λ o. IfNone o (IsClash g first second)) e h in
        clash_has_no_unifier graph first second a b of (subst (λ x. IsClash x first second) at k)

    closure_at : (found : Option (Vec ℕ)) (roots : Vec ℕ) → found ≡ Some roots →
        IfSome found (λ (v : Vec ℕ). IsClosure g first second v.items) → IsClosure graph first second roots.items
    closure_at found roots e h =
        let k = subst (λ o. IfSome o (λ (v : Vec ℕ). IsClosure g first second v.items)) e h in
        subst (λ x. IsClosure x first second roots.items) at k

    module _ (found : Option (Vec ℕ)) (roots : Vec ℕ) (is : found ≡ Some roots)
        (closed : IfSome found (λ (v : Vec ℕ). IsClosure g first second v.items)) (h : List Shape) (rs : List ℕ)
        (h_is : h ≡ graph) (rs_is : rs ≡ roots.items) (done : Bool)
        (decided : MatchBool done (IsAcyclic h rs) (HasNoModel h rs)) where
      pub cycle_at : done ≡ false → HaveNoUnifier a b
      cycle_at e =
          let k = subst (λ d. MatchBool d (IsAcyclic h rs) (HasNoModel h rs)) e decided in
          cycle_has_no_unifier graph first second a b of roots.items (closure_at found roots is closed)
          (subst (λ x. HasNoModel x roots.items) h_is (subst (λ x. HasNoModel h x) rs_is k))

      pub answer_at : done ≡ true → (k : List Shape) (ts : List ℕ) → k ≡ graph → ts ≡ roots.items →
          (entries : List (Option Tree)) → AreEntries k ts entries → IsAnswer a b entries
      answer_at e k ts k_is ts_is entries are =
          let c = closure_at found roots is closed in
          let d = subst (λ d. MatchBool d (IsAcyclic h rs) (HasNoModel h rs)) e decided in
          let acyclic = subst (λ x. IsAcyclic x roots.items) h_is (subst (λ x. IsAcyclic h x) rs_is d) in
          let same = subst (λ x. AreEntries x roots.items entries) k_is
          (subst (λ x. AreEntries k x entries) ts_is are) in
          record {
            general = entries_general graph first second a b of roots.items c acyclic entries same;
            relevant = entries_relevant graph first second a b of roots.items c acyclic entries same;
            sorted = entries_sorted graph first second a b of roots.items c acyclic entries same;
          }
