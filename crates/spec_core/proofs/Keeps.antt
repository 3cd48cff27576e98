-- Evaluation keeps sorts, and what it gives is built of constructors.
use Rattle.std.proofs.Common.{◌≡◌, ℕ, List, [], ◌∷◌, Some, ap, sym, ◌∙◌}
use Rattle.std.proofs.lemmas.Option.{slice_get_within}
use Rattle.term_core.specs.Tree.{Tree, Trees, var, app, instance}
use Rattle.term_core.specs.declared.ids.SortId.{SortId}
use Rattle.spec_core.specs.declared.records.SymInfo.{SymInfo}
use Rattle.spec_core.specs.declared.records.Rule.{Rule}
use Rattle.spec_core.specs.declared.records.Spec.{Spec}
use Rattle.spec_core.specs.Sig.{Sig}
use Rattle.spec_core.specs.Sorts.{Sorted, SortedAll, AreBuilt, IsValue}
use Rattle.spec_core.specs.Gives.{Gives, GivesAll, built, called, no_terms, more_terms}
use Rattle.spec_core.specs.WellSorted.{RuleIsSorted, IsWellSorted, IsLeft, sorts_of}
use Rattle.spec_core.proofs.Instances.{sorted_entry, sorted_instance}

-- an application and its instance have one sort
pub one_sort : (sig : Sig) (ctx : List SortId) (t : Tree) (s u : SortId) (xs : List Tree) → IsLeft sig t →
    Sorted sig ctx t s → Sorted sig [] (instance xs t) u → s ≡ u
one_sort sig ctx (var n) s u xs l p q = absurd l
one_sort sig ctx (app f ts) s u xs l p q =
    let e : Some p.0 ≡ Some q.0 = sym p.1 ∙ q.1 in
    let k : p.0 ≡ q.0 = cc in
    sym p.2 ∙ ap (λ (i : SymInfo). i.result) k ∙ q.2

-- the right side under a match of the left side
pub right_sorted : (sig : Sig) (rule : Rule) (u : SortId) (xs : List Tree) → RuleIsSorted sig rule →
    Sorted sig [] (instance xs rule.left) u → Sorted sig [] (instance xs rule.right) u
right_sorted sig rule u xs fine q =
    let ctx = sorts_of rule.vars in
    let s = fine.sides.0 in
    let e : s ≡ u = one_sort sig ctx rule.left s u xs fine.left fine.sides.1 q in
    let left : Sorted sig [] (instance xs rule.left) s = rw e q in
    let right : Sorted sig [] (instance xs rule.right) s = sorted_instance sig ctx rule.right s xs fine.sides.2
    (λ n w at. sorted_entry sig ctx rule.left s xs fine.sides.1 left n
    (fine.bound n (slice_get_within ctx n w at)) w at) in
    rw (← e) right

module _ (spec : Spec) (fine : IsWellSorted spec) where
  mutual
    pub keeps : {t v : Tree} {n : ℕ} → Gives spec t v n → (s : SortId) → Sorted spec.sig [] t s → IsValue spec.sig s v
    keeps (built c all) s p =
        let r = keeps_all all p.0.args p.3 in
        ((p.0, p.1, p.2, r.0), (c, r.1))
    keeps (called {f} {ts} {vs} number rule values all at bs is gs right m) s p =
        let r = keeps_all all p.0.args p.3 in
        let q : Sorted spec.sig [] (app f vs) s = (p.0, p.1, p.2, r.0) in
        let left : Sorted spec.sig [] (instance values rule.left) s = rw is q in
        keeps right s (right_sorted spec.sig rule s values (fine.rules number rule at) left)

    pub keeps_all : {ts vs : Trees} {n : ℕ} → GivesAll spec ts vs n → (ss : List SortId) →
        SortedAll spec.sig [] ts ss → SortedAll spec.sig [] vs ss × AreBuilt spec.sig vs
    keeps_all no_terms ss p = (p, tt)
    keeps_all (more_terms one more m) [] p = absurd p
    keeps_all (more_terms one more m) (s ∷ ss) p =
        let a = keeps one s p.0 in
        let b = keeps_all more ss p.1 in
        ((a.0, b.0), (a.1, b.1))
