-- What the searches find by the order of the admitted specification is so by the specification's own.
use Rattle.std.proofs.Common.{◌≡◌, ℕ, List, Option, Some, None, inl, inr, refl, subst}
use Rattle.term_core.specs.Tree.{Tree}
use Rattle.spec_core.specs.declared.records.Goal.{Goal}
use Rattle.spec_core.specs.declared.records.Spec.{Spec}
use Rattle.clause_core.specs.declared.steps.Block.{Block}
use Rattle.spec_order.specs.Orders.{above_by}
use Rattle.spec_order.proofs.OwnOrders.{by_own_order}
use Rattle.plain_search.specs.Plain.{IsFirstBlock, IsPlainAnswer}
use Rattle.plain_proof.specs.FirstPlain.{IsFirstPlain}
use Rattle.proof_search.specs.Guided.{steps_in}
use Rattle.proof_search.specs.declared.answers.Guided.{Guided}
use Rattle.routine_proof.specs.Routine.{IsFirstProof}
use Rattle.spike_cli.proofs.claims.unrefuted.Goals as goal

module _ (above : Tree → Tree → Type 0) (spec : Spec) (one : Goal) (most : ℕ) where
  plain_answered :
      {r s : Option Block} → r ≡ s → IsPlainAnswer above spec one most r →
      IsPlainAnswer above spec one most s
  plain_answered is h = subst (λ r. IsPlainAnswer above spec one most r) is h

  routine_answered :
      (lemmas : List ℕ) {r s : Guided} → r ≡ s →
      IsFirstProof above spec lemmas one most (steps_in r) →
      IsFirstProof above spec lemmas one most (steps_in s)
  routine_answered lemmas is h = subst (λ r. IsFirstProof above spec lemmas one most (steps_in r)) is h

pub returns-in-Some : goal.returns-in-Some
returns-in-Some c =
    let a = c.args.admitted.now in
    let one = c.args.goal.goal.now in
    let most = c.args.bounds.plain in
    inl (by_own_order (λ above. IsFirstBlock above a.spec one most c.in-Some.block) a.spec
    c.requires.ordered
    (plain_answered (above_by a.order) a.spec one most c.in-Some.is c.in_ok-block.ensures))

pub returns-in-Block : goal.returns-in-Block
returns-in-Block c =
    let a = c.args.admitted.now in
    let one = c.args.goal.goal.now in
    let ns = c.args.lemmas.now in
    let above = above_by a.order in
    let found = c.in_ok-block-2.ensures.first one c.requires.listed in
    inr (
      plain_answered above a.spec one c.args.bounds.plain c.in_default.is c.in_ok-block.ensures,
      by_own_order
          (λ above. IsFirstProof above a.spec ns one c.args.bounds.nodes (Some c.in-Block.block.steps))
          a.spec c.requires.ordered
          (routine_answered above a.spec one c.args.bounds.nodes ns c.in-Block.is found),
    )

pub returns-in-Unfinished : goal.returns-in-Unfinished
returns-in-Unfinished c =
    let a = c.args.admitted.now in
    let one = c.args.goal.goal.now in
    let ns = c.args.lemmas.now in
    let above = above_by a.order in
    let found = c.in_ok-block-2.ensures.first one c.requires.listed in (
      plain_answered above a.spec one c.args.bounds.plain c.in_default.is c.in_ok-block.ensures,
      by_own_order (λ above. IsFirstProof above a.spec ns one c.args.bounds.nodes None) a.spec
          c.requires.ordered
          (routine_answered above a.spec one c.args.bounds.nodes ns c.in-Unfinished.is found),
      refl,
    )
