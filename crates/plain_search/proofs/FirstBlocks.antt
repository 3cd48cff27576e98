-- The block that is made is the one of the law.
use Rattle.std.proofs.Common.{◌≡◌, ℕ, ◌≤◌, List, Some, length, ap, subst, arith}
use Rattle.term_core.specs.Tree.{Tree}
use Rattle.term_core.specs.declared.ids.VarId.{VarId}
use Rattle.spec_core.specs.declared.records.Goal.{Goal}
use Rattle.spec_core.specs.declared.records.Spec.{Spec}
use Rattle.spec_core.specs.WellSorted.{IsWellSorted, GoalIsSorted}
use Rattle.clause_core.specs.declared.steps.Block.{Block}
use Rattle.clause_core.specs.declared.steps.Step.{Step}
use Rattle.clause_core.specs.declared.reports.Outcome.TheVariants.{Proved}
use Rattle.clause_core.specs.Tidied.{goal_clause}
use Rattle.acceptance.specs.Blocks.{Proves}
use Rattle.acceptance.specs.Claims.{ProvedBefore}
use Rattle.proof_script.specs.Claims.{claim_text}
use Rattle.plain_proof.specs.FirstPlain.{IsFirstPlain}
use Rattle.plain_search.specs.Blocks.{IsPlainBlock}
use Rattle.plain_search.specs.Laws.{PlainBlocks, OneBlock, HasBlock}
use Rattle.plain_search.specs.Plain.{IsFirstBlock}

module _ (above : Tree → Tree → Type 0) (spec : Spec) (goal : Goal) (most : ℕ) (v : VarId) where
  as_first : (long : ℕ) → long ≤ most → most ≤ 1000 → IsFirstPlain spec goal most (Some v) → (block : Block) →
      IsPlainBlock above spec goal v.0 block.steps → (h : HasBlock above spec goal v.0 long) →
      h.steps ≡ block.steps → IsFirstBlock above spec goal most block
  as_first long le few first block plain h same = record {
    variable = v;
    first = first;
    plain = plain;
    proves = λ before. subst (λ ss. Proves above spec (ProvedBefore spec before) (goal_clause goal) ss) same
        (h.proves before);
    few = let n = ap (λ (ss : List Step). length ss) same in let m = h.few in omega arith;
    short = λ named names rules.
        subst (λ (b : Block). length (claim_text spec.sig (record { goal = goal.name; outcome = Proved b })) ≤
        300000) (λ i. record { steps = same i }) (h.short (omega arith) named names rules);
  }

  pub first_block : PlainBlocks above → OneBlock above → IsWellSorted spec → GoalIsSorted spec.sig goal →
      most ≤ 1000 → IsFirstPlain spec goal most (Some v) → (block : Block) →
      IsPlainBlock above spec goal v.0 block.steps → IsFirstBlock above spec goal most block
  first_block law one fine sorted few first block plain =
      let long = first.0.0 in
      let p = first.0.1 in
      let le : long ≤ most = first.0.2 in
      let h = law spec goal v.0 long fine sorted p (omega arith) in
      let same = one spec goal v.0 h.steps block.steps fine p.no_premises h.plain plain in
      as_first long le few first block plain h same
