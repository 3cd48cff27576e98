-- A specification has one first fault.
use Rattle.std.proofs.Common.{◌≡◌, ◌⊎◌, ℕ, List, Some, inl, inr, refl, ap, sym, ◌∙◌, subst, arith}
use Rattle.std.specs.Prelude.{option_map, slice_get}
use Rattle.term_core.specs.Tree.{Tree}
use Rattle.spec_core.specs.declared.records.Spec.{Spec}
use Rattle.spec_core.specs.declared.records.SymInfo.{SymInfo}
use Rattle.spec_core.specs.declared.records.VarInfo.{VarInfo}
use Rattle.spec_core.specs.declared.records.Rule.{Rule}
use Rattle.spec_core.specs.Sig.{info_of}
use Rattle.spec_core.specs.Linear.{LeftSidesAreLinear}
use Rattle.spec_core.specs.WellSorted.{IsWellSorted}
use Rattle.spec_core.proofs.Findings.{not_both, one_first}
use Rattle.term_core.specs.declared.ids.VarId.{VarId}
use Rattle.overlap_check.specs.declared.answers.Linear.TheVariants.{Fine, Repeated}
use Rattle.overlap_check.specs.declared.answers.Overlap.TheVariants.{Both}
use Rattle.overlap_check.specs.Laws.{OneLinearity, OneOverlap, BothOverlap}
use Rattle.coverage_check.specs.LeftSides.{rows_of}
use Rattle.coverage_check.specs.Named.{IsNamed}
use Rattle.coverage_check.specs.Laws.{OneNamed}
use Rattle.spec_admit.specs.Tests.{all_order_tests, all_guards_tests, all_coverage_tests}
use Rattle.spec_admit.specs.FirstFault.{IsRepeated, IsUncovered, Tells}
use Rattle.spec_admit.specs.declared.faults.AdmitFault.{AdmitFault}
use Rattle.spec_admit.specs.declared.faults.AdmitFault.TheVariants.{Linear, Order, Overlap, Guards, Coverage}
use Rattle.spec_admit.specs.declared.faults.AdmitFault.TheVariants.{OutOfMemory}
use Rattle.spec_admit.proofs.NoFault.{order_clean, guards_clean, as_linearity}

one_get : {X : Type 0} (xs : List X) (j k : ℕ) (x y : X) → slice_get xs j ≡ Some x → slice_get xs k ≡ Some y →
    j ≡ k → x ≡ y
one_get xs j k x y p q e = let a : Some x ≡ Some y = sym p ∙ ap (λ n. slice_get xs n) e ∙ q in cc

module _ (above : Tree → Tree → Type 0) (spec : Spec) (one : OneLinearity) (overlaps : OneOverlap)
    (both : BothOverlap) (one_named : OneNamed) (fine : IsWellSorted spec) where
  not_linear : (r : ℕ) (n : List ℕ) → IsRepeated spec r n → LeftSidesAreLinear spec → ⊥
  not_linear r n t l =
      let repeated = Repeated r (record { 0 = t.var }) in
      let e : Fine ≡ repeated = one spec Fine repeated l (as_linearity spec r n t) in
      cc

  same_name : (r q : ℕ) (n m : List ℕ) → IsRepeated spec r n → IsRepeated spec q m → Linear r n ≡ Linear q m
  same_name r q n m a b =
      let e : Repeated r (record { 0 = a.var }) ≡ Repeated q (record { 0 = b.var }) = one spec _ _
      (as_linearity spec r n a) (as_linearity spec q m b) in
      let rules : r ≡ q = cc in
      let vars : ◌≡◌ {A = VarId} (record { 0 = a.var }) (record { 0 = b.var }) = cc in
      let rule : a.first.rule ≡ b.first.rule = one_get spec.rules a.place b.place a.first.rule b.first.rule
      a.first.at b.first.at (omega (arith, a.counts, b.counts, rules)) in
      let names : Some n ≡ Some m = sym a.named
      ∙ ap (λ (p : Rule × VarId). option_map (λ (i : VarInfo). i.name) (slice_get p.0.vars p.1.0))
      (λ i. (rule i, vars i)) ∙ b.named in
      let name : n ≡ m = cc in
      λ i. Linear (rules i) (name i)

  same_values : (f g : ℕ) (vs ws : List Tree) → f ≡ g → IsUncovered spec f vs → IsUncovered spec g ws → vs ≡ ws
  same_values f g vs ws e a b =
      let p : Some a.info ≡ Some b.info = sym a.declared ∙ ap (λ k. info_of spec.sig k) e ∙ b.declared in
      let info : a.info ≡ b.info = cc in
      let named : IsNamed spec.sig (rows_of f spec.rules) a.info.args ws = subst
      (λ k. IsNamed spec.sig (rows_of k spec.rules) a.info.args ws) (sym e)
      (subst (λ (i : SymInfo). IsNamed spec.sig (rows_of g spec.rules) i.args ws) (sym info) b.named) in
      (one_named spec.sig (rows_of f spec.rules) a.info.args vs ws a.named named).1

  pub one_fault : (f g : AdmitFault) → Tells above spec f → Tells above spec g →
      (f ≡ g) ⊎ ((f ≡ OutOfMemory) ⊎ (g ≡ OutOfMemory))
  one_fault OutOfMemory g a b = inr (inl refl)
  one_fault (Linear r n) OutOfMemory a b = inr (inr refl)
  one_fault (Order r n) OutOfMemory a b = inr (inr refl)
  one_fault (Overlap r q vs) OutOfMemory a b = inr (inr refl)
  one_fault (Guards r) OutOfMemory a b = inr (inr refl)
  one_fault (Coverage f vs) OutOfMemory a b = inr (inr refl)
  one_fault (Linear r n) (Linear q m) a b = inl (same_name r q n m a b)
  one_fault (Linear r n) (Order q m) a b = absurd (not_linear r n a b.0)
  one_fault (Linear r n) (Overlap p q vs) a b = absurd (not_linear r n a b.0)
  one_fault (Linear r n) (Guards q) a b = absurd (not_linear r n a b.0)
  one_fault (Linear r n) (Coverage f vs) a b = absurd (not_linear r n a b.0)
  one_fault (Order r p) (Linear q m) a b = absurd (not_linear q m b a.0)
  one_fault (Overlap r p vs) (Linear q m) a b = absurd (not_linear q m b a.0)
  one_fault (Guards r) (Linear q m) a b = absurd (not_linear q m b a.0)
  one_fault (Coverage f vs) (Linear q m) a b = absurd (not_linear q m b a.0)
  one_fault (Order r p) (Order q m) a b = let e : ◌≡◌ {A = ℕ × ℕ} (r, p) (q, m) = one_first
      (all_order_tests above spec) (r, p) (q, m) a.1 b.1 in inl (λ i. Order (e i).0 (e i).1)
  one_fault (Order r p) (Overlap q m vs) a b = absurd (not_both (all_order_tests above spec) (
    r,
    p,
  ) (order_clean above spec b.1) a.1)
  one_fault (Order r p) (Guards q) a b = absurd (not_both (all_order_tests above spec) (
    r,
    p,
  ) (order_clean above spec b.1) a.1)
  one_fault (Order r p) (Coverage f vs) a b = absurd (not_both (all_order_tests above spec) (
    r,
    p,
  ) (order_clean above spec b.1) a.1)
  one_fault (Overlap q m vs) (Order r p) a b = absurd (not_both (all_order_tests above spec) (
    r,
    p,
  ) (order_clean above spec a.1) b.1)
  one_fault (Guards q) (Order r p) a b = absurd (not_both (all_order_tests above spec) (
    r,
    p,
  ) (order_clean above spec a.1) b.1)
  one_fault (Coverage f vs) (Order r p) a b = absurd (not_both (all_order_tests above spec) (
    r,
    p,
  ) (order_clean above spec a.1) b.1)
  one_fault (Overlap r p vs) (Overlap q m ws) a b = let e : Both r p vs ≡ Both q m ws = overlaps spec
      (Both r p vs) (Both q m ws) fine a.2 b.2 in inl (cc)
  one_fault (Overlap r p vs) (Guards q) a b = absurd (both spec r p vs a.2 b.2)
  one_fault (Overlap r p vs) (Coverage f ws) a b = absurd (both spec r p vs a.2 b.2)
  one_fault (Guards q) (Overlap r p vs) a b = absurd (both spec r p vs b.2 a.2)
  one_fault (Coverage f ws) (Overlap r p vs) a b = absurd (both spec r p vs b.2 a.2)
  one_fault (Guards r) (Guards q) a b = inl (ap (λ n. Guards n) (one_first (all_guards_tests spec) r q a.3 b.3))
  one_fault (Guards r) (Coverage f vs) a b = absurd (not_both (all_guards_tests spec) r (guards_clean spec b.3) a.3)
  one_fault (Coverage f vs) (Guards r) a b = absurd (not_both (all_guards_tests spec) r (guards_clean spec a.3) b.3)
  one_fault (Coverage f vs) (Coverage g ws) a b =
      let e : f.0 ≡ g.0 = one_first (all_coverage_tests spec) f.0 g.0 a.4.first b.4.first in
      let w : vs ≡ ws = same_values f.0 g.0 vs ws e a.4 b.4 in
      inl (λ i. Coverage (record { 0 = e i }) (w i))
