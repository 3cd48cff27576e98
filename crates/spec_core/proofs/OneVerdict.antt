-- A goal has at most one verdict, if left sides don't overlap and groups are whole.
use Rattle.std.proofs.Common.{◌≡◌, ℕ, List, [], ◌∷◌, inl, inr, sym, ◌∙◌}
use Rattle.term_core.specs.Tree.{Tree, instance}
use Rattle.term_core.specs.declared.ids.SortId.{SortId}
use Rattle.spec_core.specs.declared.records.Equation.{Equation}
use Rattle.spec_core.specs.declared.records.Spec.{Spec}
use Rattle.spec_core.specs.declared.records.Verdict.{Verdict}
use Rattle.spec_core.specs.Sorts.{Sorted}
use Rattle.spec_core.specs.WellSorted.{IsWellSorted}
use Rattle.spec_core.specs.Overlap.{NoOverlap}
use Rattle.spec_core.specs.Groups.{GroupsAreWhole}
use Rattle.spec_core.specs.Verdict.{SideGives, SidesSpent, SidesSame, SidesDiffer, ConclusionsSay, PremisesSay}
use Rattle.spec_core.proofs.Determined.{determined}

module _ (spec : Spec) (fine : IsWellSorted spec) (apart : NoOverlap spec) (whole : GroupsAreWhole spec)
    (values : List Tree) (budget : ℕ) where
  -- both sides have one sort under the values
  abbrev pub AreReady : List Equation → Type 0
  AreReady [] = Unit {0}
  AreReady (e ∷ es) = ((s : SortId) × Sorted spec.sig [] (instance values e.left) s
      × Sorted spec.sig [] (instance values e.right) s) × AreReady es

  module _ (e : Equation) (r : (s : SortId) × Sorted spec.sig [] (instance values e.left) s
      × Sorted spec.sig [] (instance values e.right) s) where
    lefts : (v w : Tree) → SideGives spec values budget e.left v → SideGives spec values budget e.left w → v ≡ w
    lefts v w a b = (determined spec fine apart whole a.1 r.0 r.1 b.1).0

    rights : (v w : Tree) → SideGives spec values budget e.right v → SideGives spec values budget e.right w → v ≡ w
    rights v w a b = (determined spec fine apart whole a.1 r.0 r.2 b.1).0

    spent_same : SidesSpent spec values budget e → SidesSame spec values budget e → ⊥
    spent_same (inl h) b = h b.0 b.1.0 b.1.1 b.1.2
    spent_same (inr h) b = h.2 b.0 b.2.0 b.2.1 b.2.2

    spent_differ : SidesSpent spec values budget e → SidesDiffer spec values budget e → ⊥
    spent_differ (inl h) b = h b.0 b.3.0 b.3.1 b.3.2
    spent_differ (inr h) b = h.2 b.1 b.4.0 b.4.1 b.4.2

    same_differ : SidesSame spec values budget e → SidesDiffer spec values budget e → ⊥
    same_differ a b = b.2 (sym (lefts a.0 b.0 a.1 b.3) ∙ rights a.0 b.1 a.2 b.4)

  conclusions_one : (es : List Equation) → AreReady es → (p q : Verdict) →
      ConclusionsSay spec values budget es p → ConclusionsSay spec values budget es q → p ≡ q
  conclusions_one [] r p q a b = a ∙ sym b
  conclusions_one (e ∷ es) r p q (inl a) (inl b) = a.1 ∙ sym b.1
  conclusions_one (e ∷ es) r p q (inl a) (inr (inl b)) = absurd (spent_same e r.0 a.0 b.0)
  conclusions_one (e ∷ es) r p q (inl a) (inr (inr b)) = absurd (spent_differ e r.0 a.0 b.0)
  conclusions_one (e ∷ es) r p q (inr (inl a)) (inl b) = absurd (spent_same e r.0 b.0 a.0)
  conclusions_one (e ∷ es) r p q (inr (inl a)) (inr (inl b)) = a.1 ∙ sym b.1
  conclusions_one (e ∷ es) r p q (inr (inl a)) (inr (inr b)) = absurd (same_differ e r.0 a.0 b.0)
  conclusions_one (e ∷ es) r p q (inr (inr a)) (inl b) = absurd (spent_differ e r.0 b.0 a.0)
  conclusions_one (e ∷ es) r p q (inr (inr a)) (inr (inl b)) = absurd (same_differ e r.0 b.0 a.0)
  conclusions_one (e ∷ es) r p q (inr (inr a)) (inr (inr b)) = conclusions_one es r.1 p q a.1 b.1

  pub one_verdict : (es cs : List Equation) → AreReady es → AreReady cs → (p q : Verdict) →
      PremisesSay spec values budget es cs p → PremisesSay spec values budget es cs q → p ≡ q
  one_verdict [] cs r t p q a b = conclusions_one cs t p q a b
  one_verdict (e ∷ es) cs r t p q (inl a) (inl b) = a.1 ∙ sym b.1
  one_verdict (e ∷ es) cs r t p q (inl a) (inr (inl b)) = absurd (spent_differ e r.0 a.0 b.0)
  one_verdict (e ∷ es) cs r t p q (inl a) (inr (inr b)) = absurd (spent_same e r.0 a.0 b.0)
  one_verdict (e ∷ es) cs r t p q (inr (inl a)) (inl b) = absurd (spent_differ e r.0 b.0 a.0)
  one_verdict (e ∷ es) cs r t p q (inr (inl a)) (inr (inl b)) = a.1 ∙ sym b.1
  one_verdict (e ∷ es) cs r t p q (inr (inl a)) (inr (inr b)) = absurd (same_differ e r.0 b.0 a.0)
  one_verdict (e ∷ es) cs r t p q (inr (inr a)) (inl b) = absurd (spent_same e r.0 b.0 a.0)
  one_verdict (e ∷ es) cs r t p q (inr (inr a)) (inr (inl b)) = absurd (same_differ e r.0 a.0 b.0)
  one_verdict (e ∷ es) cs r t p q (inr (inr a)) (inr (inr b)) = one_verdict es cs r.1 t p q a.1 b.1
