-- A specification has at most one answer of each kind.
use Rattle.std.proofs.Common.{◌≡◌, ℕ, ◌<◌, ◌≤◌, ◌⊎◌, inl, inr, refl, sym, subst, arith}
use Rattle.std.proofs.lemmas.Bool.{cases_lt}
use Rattle.term_core.specs.Tree.{Trees, trees_of}
use Rattle.term_core.proofs.Trees.{trees_of-inj}
use Rattle.spec_core.specs.declared.records.Rule.{Rule}
use Rattle.spec_core.specs.declared.records.Spec.{Spec}
use Rattle.spec_core.specs.WellSorted.{IsWellSorted}
use Rattle.overlap_check.specs.declared.answers.Linear.TheVariants.{Fine as linear, Repeated}
use Rattle.overlap_check.specs.declared.answers.Overlap.TheVariants.{Fine as apart, Both}
use Rattle.overlap_check.specs.Repetition.{IsLeastRepeated, IsFirstRepeated}
use Rattle.overlap_check.specs.Overlaps.{Overlaps, IsFirstOverlap}
use Rattle.overlap_check.specs.NamedValues.{NamesOverlap}
use Rattle.overlap_check.specs.Answers.{AreCommon}
use Rattle.overlap_check.specs.Laws.{OneLinearity, OneOverlap}
use Rattle.overlap_check.proofs.OneNaming.{one_naming}
use Rattle.spec_core.proofs.Determined.{one_rule}

-- two numbers of which neither is below the other
same_number : (m n : ℕ) → (m < n → ⊥) → (n < m → ⊥) → m ≡ n
same_number m n a b = by (cases_lt m n) (cases_lt n m)
  where
    by : (m < n) ⊎ (n ≤ m) → (n < m) ⊎ (m ≤ n) → m ≡ n
    by (inl h) k = absurd (a h)
    by (inr h) (inl k) = absurd (b k)
    by (inr h) (inr k) = omega arith

module _ (spec : Spec) where
  one_place : (j k m n : ℕ) → IsFirstRepeated spec j m → IsFirstRepeated spec k n → j ≡ k
  one_place j k m n a b = same_number j k (λ h. b.before j a.rule h a.at m a.least.0)
      (λ h. a.before k b.rule h b.at n b.least.0)

  one_variable : (j k m n : ℕ) → IsFirstRepeated spec j m → IsFirstRepeated spec k n → m ≡ n
  one_variable j k m n a b =
      let e : a.rule ≡ b.rule = one_rule spec.rules j k a.rule b.rule a.at b.at (one_place j k m n a b) in
      let least : IsLeastRepeated b.rule.left m = subst (λ (r : Rule). IsLeastRepeated r.left m) e a.least in
      same_number m n (λ h. b.least.1 m h least.0) (λ h. least.1 n h b.least.0)

  -- the first overlap is at one pair of places
  one_first : (j k a b : ℕ) → IsFirstOverlap spec j k → IsFirstOverlap spec a b → j ≡ a
  one_first j k a b p q = same_number j a (λ h. q.none_before j k h p.ordered p.overlaps)
      (λ h. p.none_before a b h q.ordered q.overlaps)

  one_second : (j k a b : ℕ) → IsFirstOverlap spec j k → IsFirstOverlap spec a b → k ≡ b
  one_second j k a b p q =
      let e : j ≡ a = one_first j k a b p q in
      same_number k b (λ h. q.none_between k (omega (arith, p.ordered)) h
      (subst (λ n. Overlaps spec n k) e p.overlaps))
      (λ h. p.none_between b (omega (arith, q.ordered)) h (subst (λ n. Overlaps spec n b) (sym e) q.overlaps))

  one_common : IsWellSorted spec → (j k a b : ℕ) (vs ws : Trees) → j ≡ a → k ≡ b → AreCommon spec j k vs →
      AreCommon spec a b ws → vs ≡ ws
  one_common fine j k a b vs ws e d p q =
      let r : q.first ≡ p.first = sym (one_rule spec.rules j a p.first q.first p.first_at q.first_at e) in
      let s : q.second ≡ p.second = sym (one_rule spec.rules k b p.second q.second p.second_at q.second_at d) in
      let named : NamesOverlap spec.sig p.first p.second ws = subst (λ x. NamesOverlap spec.sig p.first x ws) s
      (subst (λ x. NamesOverlap spec.sig x q.second ws) r q.named) in
      one_naming spec.sig p.first p.second vs ws (fine.rules j p.first p.first_at)
      (fine.rules k p.second p.second_at) p.named named

pub one_linearity : OneLinearity
one_linearity spec linear linear h k = refl
one_linearity spec linear (Repeated n v) h k = absurd (h k.0 k.2.rule k.2.at v.0 k.2.least.0)
one_linearity spec (Repeated n v) linear h k = absurd (k h.0 h.2.rule h.2.at v.0 h.2.least.0)
one_linearity spec (Repeated n v) (Repeated m w) h k =
    let places : h.0 ≡ k.0 = one_place spec h.0 k.0 v.0 w.0 h.2 k.2 in
    let numbers : n ≡ m = omega (arith, h.1, k.1) in
    let variables : v.0 ≡ w.0 = one_variable spec h.0 k.0 v.0 w.0 h.2 k.2 in
    λ i. Repeated (numbers i) (record { 0 = variables i })

pub one_overlap : OneOverlap
one_overlap spec apart apart fine h k = refl
one_overlap spec apart (Both n m vs) fine h k = absurd (h.0 k.0 k.1 k.4.ordered k.4.overlaps)
one_overlap spec (Both n m vs) apart fine h k = absurd (k.0 h.0 h.1 h.4.ordered h.4.overlaps)
one_overlap spec (Both n m vs) (Both a b ws) fine h k =
    let first : h.0 ≡ k.0 = one_first spec h.0 h.1 k.0 k.1 h.4 k.4 in
    let second : h.1 ≡ k.1 = one_second spec h.0 h.1 k.0 k.1 h.4 k.4 in
    let first_numbers : n ≡ a = omega (arith, h.2, k.2) in
    let second_numbers : m ≡ b = omega (arith, h.3, k.3) in
    let values : vs ≡ ws = trees_of-inj vs ws (one_common spec fine h.0 h.1 k.0 k.1 (trees_of vs) (trees_of ws)
    first second h.5 k.5) in
    cc
