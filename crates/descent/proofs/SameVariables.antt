-- Rules with one left side have variables of the same sorts.
use Rattle.std.proofs.Common.{◌≡◌, ℕ, zero, suc, ◌<◌, List, [], ◌∷◌, Some, inl, inr, refl, ap, sym, ◌∙◌, subst, arith}
use Rattle.std.proofs.Common.{length}
use Rattle.std.specs.Prelude.{slice_get}
use Rattle.term_core.specs.declared.ids.SortId.{SortId}
use Rattle.term_core.specs.Tree.{Tree, Trees, var, app, none, some}
use Rattle.term_core.specs.Variables.{Occurs, OccursAny}
use Rattle.spec_core.specs.declared.records.Rule.{Rule}
use Rattle.spec_core.specs.declared.records.SymInfo.{SymInfo}
use Rattle.spec_core.specs.Sig.{Sig}
use Rattle.spec_core.specs.Sorts.{Sorted, SortedAll}
use Rattle.spec_core.specs.WellSorted.{IsLeft, RuleIsSorted, sorts_of}
use Rattle.spec_core.proofs.Determined.{occurs_within}

module _ (sig : Sig) (ctx to : List SortId) where
  mutual
    same_entry : (t : Tree) (s : SortId) → Sorted sig ctx t s → Sorted sig to t s → (n : ℕ) → Occurs n t →
        slice_get ctx n ≡ slice_get to n
    same_entry (var m) s p q n o = let e : n ≡ m = o in ap (λ k. slice_get ctx k) e ∙ p ∙ sym q
        ∙ ap (λ k. slice_get to k) (sym e)
    same_entry (app f ts) s p q n o =
        let e : Some p.0 ≡ Some q.0 = sym p.1 ∙ q.1 in
        let k : p.0 ≡ q.0 = cc in
        same_entries ts p.0.args p.3 (subst (λ (x : SymInfo). SortedAll sig to ts x.args) (sym k) q.3) n o

    same_entries : (ts : Trees) (ss : List SortId) → SortedAll sig ctx ts ss → SortedAll sig to ts ss →
        (n : ℕ) → OccursAny n ts → slice_get ctx n ≡ slice_get to n
    same_entries none ss p q n o = absurd o
    same_entries (some t ts) [] p q n o = absurd p
    same_entries (some t ts) (s ∷ ss) p q n (inl o) = same_entry t s p.0 q.0 n o
    same_entries (some t ts) (s ∷ ss) p q n (inr o) = same_entries ts ss p.1 q.1 n o

  result_same : (t : Tree) (s u : SortId) → IsLeft sig t → Sorted sig ctx t s → Sorted sig to t u → s ≡ u
  result_same (var n) s u l p q = absurd l
  result_same (app f ts) s u l p q =
      let e : Some p.0 ≡ Some q.0 = sym p.1 ∙ q.1 in
      let k : p.0 ≡ q.0 = cc in
      sym p.2 ∙ ap (λ (i : SymInfo). i.result) k ∙ q.2

list_same : (xs ys : List SortId) → length xs ≡ length ys →
    ((n : ℕ) → n < length xs → slice_get xs n ≡ slice_get ys n) → xs ≡ ys
list_same [] [] l h = refl
list_same [] (y ∷ ys) l h = absurd (omega (arith, l))
list_same (x ∷ xs) [] l h = absurd (omega (arith, l))
list_same (x ∷ xs) (y ∷ ys) l h =
    let q : Some x ≡ Some y = h 0 (omega arith) in
    let e : x ≡ y = cc in
    let f : xs ≡ ys = list_same xs ys (omega (arith, l)) (λ n k. h (suc n) (omega (arith, k))) in
    λ i. e i ∷ f i

equal_by : (m n : ℕ) → ((k : ℕ) → k < m → k < n) → ((k : ℕ) → k < n → k < m) → m ≡ n
equal_by zero zero f g = refl
equal_by zero (suc n) f g = absurd (omega (arith, g 0 (omega arith)))
equal_by (suc m) zero f g = absurd (omega (arith, f 0 (omega arith)))
equal_by (suc m) (suc n) f g = omega (arith, f m (omega arith), g n (omega arith))

pub same_variables : (sig : Sig) (rule other : Rule) → RuleIsSorted sig rule → RuleIsSorted sig other →
    rule.left ≡ other.left → sorts_of rule.vars ≡ sorts_of other.vars
same_variables sig rule other a b e =
    let q : Sorted sig (sorts_of other.vars) rule.left b.sides.0 = subst
    (λ t. Sorted sig (sorts_of other.vars) t b.sides.0) (sym e) b.sides.1 in
    let r : a.sides.0 ≡ b.sides.0 = result_same sig (sorts_of rule.vars) (sorts_of other.vars) rule.left
    a.sides.0 b.sides.0 a.left a.sides.1 q in
    let q' : Sorted sig (sorts_of other.vars) rule.left a.sides.0 = subst
    (λ s. Sorted sig (sorts_of other.vars) rule.left s) (sym r) q in
    let l : length (sorts_of rule.vars) ≡ length (sorts_of other.vars) = equal_by (length (sorts_of rule.vars))
    (length (sorts_of other.vars)) (λ n h. occurs_within sig (sorts_of other.vars) rule.left b.sides.0 q n
    (a.bound n h)) (λ n h. occurs_within sig (sorts_of rule.vars) rule.left a.sides.0 a.sides.1 n
    (subst (λ t. Occurs n t) (sym e) (b.bound n h))) in
    list_same (sorts_of rule.vars) (sorts_of other.vars) l
    (λ n h. same_entry sig (sorts_of rule.vars) (sorts_of other.vars) rule.left a.sides.0 a.sides.1 q' n
    (a.bound n h))
