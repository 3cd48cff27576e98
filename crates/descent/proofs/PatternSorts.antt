-- The sorts of a pattern's variables.
use Rattle.std.proofs.Common.{◌≡◌, ℕ, suc, ◌+◌, List, [], ◌∷◌, Some, inl, inr, refl, ap, sym, ◌∙◌, subst, arith, length}
use Rattle.std.specs.Prelude.{slice_get}
use Rattle.std.specs.List.{AllByRecursion, range_with_len}
use Rattle.std.proofs.lemmas.Option.{slice_get_within}
use Rattle.term_core.specs.declared.ids.SortId.{SortId}
use Rattle.term_core.specs.Tree.{Tree, Trees, var, app, none, some}
use Rattle.term_core.specs.Variables.{occurrences, occurrences_all}
use Rattle.term_core.proofs.Members.{In}
use Rattle.spec_core.specs.Sig.{Sig, IsSort, SortsAreInRange}
use Rattle.spec_core.specs.Sorts.{Sorted, SortedAll}
use Rattle.clause_core.specs.Patterns.{IsPatternOf}
use Rattle.clause_core.proofs.OneCovering.{in_range}
use Rattle.clause_core.proofs.Multisets.{in_either}

-- the sorts of a pattern's variables are the signature's
mutual
  part_sort : (sig : Sig) → SortsAreInRange sig → (ctx : List SortId) (p : Tree) (s : SortId) → IsSort sig s →
      Sorted sig ctx p s → (n : ℕ) → In n (occurrences p) → (r : SortId) → slice_get ctx n ≡ Some r → IsSort sig r
  part_sort sig range ctx (var m) s k a n (inl e) r g =
      let q : Some s ≡ Some r = sym a ∙ ap (λ j. slice_get ctx j) (sym e) ∙ g in
      let h : s ≡ r = cc in
      subst (λ z. IsSort sig z) h k
  part_sort sig range ctx (var m) s k a n (inr e) r g = absurd e
  part_sort sig range ctx (app f us) s k a n i r g = part_sorts sig range ctx us a.0.args (range f a.0 a.1).1
      a.3 n i r g

  part_sorts : (sig : Sig) → SortsAreInRange sig → (ctx : List SortId) (us : Trees) (ss : List SortId) →
      AllByRecursion (IsSort sig) ss → SortedAll sig ctx us ss → (n : ℕ) → In n (occurrences_all us) →
      (r : SortId) → slice_get ctx n ≡ Some r → IsSort sig r
  part_sorts sig range ctx none ss k a n i r g = absurd i
  part_sorts sig range ctx (some u us) [] k a n i r g = absurd a
  part_sorts sig range ctx (some u us) (s ∷ ss) k a n i r g = elim
      (in_either n (occurrences u) (occurrences_all us) i)
      [ inl h ↦ part_sort sig range ctx u s k.0 a.0 n h r g | inr h ↦ part_sorts sig range ctx us ss k.1 a.1 n h r g ]

each_sort : (sig : Sig) (ctx : List SortId) → ((n : ℕ) (r : SortId) → slice_get ctx n ≡ Some r → IsSort sig r) →
    AllByRecursion (IsSort sig) ctx
each_sort sig [] h = tt
each_sort sig (s ∷ ss) h = (h 0 s refl, each_sort sig ss (λ n r g. h (suc n) r g))

pub pattern_sorts : (sig : Sig) → SortsAreInRange sig → (s : SortId) → IsSort sig s →
    (ctx : List SortId) (p : Tree) → IsPatternOf sig s ctx p → AllByRecursion (IsSort sig) ctx
pattern_sorts sig range s k ctx p m =
    each_sort sig ctx (λ n r g.
    let z : 0 + n ≡ n = omega arith in
    let i : In n (occurrences p) = subst (λ ns. In n ns) (sym m.numbered)
    (subst (λ j. In j (range_with_len 0 (length ctx))) z
    (in_range n 0 (length ctx) (slice_get_within ctx n r g))) in
    part_sort sig range ctx p s k m.sorted n i r g)
