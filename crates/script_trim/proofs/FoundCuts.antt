-- The first cut of a block, by the cuts at its nodes.
use Rattle.std.proofs.Common.{◌≡◌, ◌⊎◌, ℕ, ◌+◌, ◌<◌, ◌≤◌, Some, None, inl, inr, sym, subst, arith}
use Rattle.std.specs.Prelude.{Option}
use Rattle.term_core.specs.Tree.{Tree}
use Rattle.term_core.proofs.Numbers.{below_or_not}
use Rattle.spec_core.specs.declared.records.Spec.{Spec}
use Rattle.clause_core.specs.declared.reports.Report.{Report}
use Rattle.script_trim.specs.declared.blocks.KeptBlock.{KeptBlock}
use Rattle.script_trim.specs.declared.blocks.NodeCut.{NodeCut}
use Rattle.script_trim.specs.Cutting.{FitsAt}
use Rattle.script_trim.specs.Finding.{FindsCutAt, FindsCutBelow, FindsFirstCut}
use Rattle.script_trim.specs.Kept.{kept_report, IsKept}
use Rattle.script_trim.specs.OneClaim.{IsFirstClosing}
use Rattle.script_trim.specs.Trimmed.{CouldBeClosed, HasChildren}

module _ (above : Tree → Tree → Type 0) (spec : Spec) (report : Report) (number : ℕ) (block : KeptBlock) where
  abbrev NoneAt : ℕ → Type 0
  NoneAt i =
      (k : IsKept above spec report number block) → CouldBeClosed above spec
      (kept_report above spec report number k.name block) number i → ⊥

  -- at a node that has children
  pub below_node :
      (i : ℕ) → ((k : IsKept above spec report number block) →
      HasChildren above spec (kept_report above spec report number k.name block) number i) →
      (found : Option NodeCut) → FindsCutAt above spec report number block i found →
      FindsCutBelow above spec report number block i found
  below_node i has None h = λ k could. h k could.1.0 could.1.1 could.1.2
  below_node i has (Some cut) h = λ k. let p = h k in (p.0, p.1, has k, p.2)

  -- the first one
  pub first_found :
      (i : ℕ) (cut : NodeCut) → FindsCutBelow above spec report number block i (Some cut) →
      ((k : IsKept above spec report number block) (j : ℕ) → j < i →
      CouldBeClosed above spec (kept_report above spec report number k.name block) number j → ⊥) →
      FindsFirstCut above spec report number block (Some cut)
  first_found i cut h none k =
      let p = h k in
      subst (λ n. FitsAt above spec report number block k n cut.fit ×
      IsFirstClosing above spec number (kept_report above spec report number k.name block) n cut.fit.step
      cut.rest.items) (sym p.0)
      (p.1, record { children = p.2; first_step = p.3; first_node = none k })

  -- none so far
  pub none_more :
      (i : ℕ) → FindsCutBelow above spec report number block i None →
      ((k : IsKept above spec report number block) (j : ℕ) → j < i →
      CouldBeClosed above spec (kept_report above spec report number k.name block) number j → ⊥) →
      (k : IsKept above spec report number block) (j : ℕ) → j < i + 1 →
      CouldBeClosed above spec (kept_report above spec report number k.name block) number j → ⊥
  none_more i h none k j l could = either (below_or_not j i)
    where
      either : (j < i) ⊎ (i ≤ j) → ⊥
      either (inl b) = none k j b could
      either (inr g) =
          (let e : j ≡ i = omega (arith, l, g) in h k (subst
          (λ n. CouldBeClosed above spec (kept_report above spec report number k.name block) number n) e could))
