use Rattle.std.proofs.Common.{◌≡◌, ◌<◌, ◌∙◌, ℕ, List, Some, refl, sym, ap, subst, length, get_or}
use Rattle.std.specs.Prelude.{slice_get}
use Rattle.std.proofs.lemmas.Option.{slice_get_read}
use Rattle.clause_core.specs.declared.reports.Claim.{Claim}
use Rattle.clause_core.specs.declared.reports.Outcome.TheVariants.{Proved}
use Rattle.clause_core.specs.declared.steps.Block.{Block}
use Rattle.clause_core.specs.declared.steps.Step.{Step}
use Rattle.script_trim.specs.Kept.{kept_report}
use Rattle.script_trim.specs.Trimmed.{proves, Closes}
use Rattle.script_trim.proofs.FirstFits.{match_none, match_some}
use Rattle.script_trim.proofs.GivenCuts.{same_report}
use Rattle.script_trim.proofs.trimming.cut.Goals as goal

-- a claim that is read says that the goal of its name is proved by the steps of its block
claim_read :
    (claims read : List Claim) (n : ℕ) (claim : Claim) (name : List ℕ) (proof : Block) (steps : List Step) →
    read ≡ claims → n < length read → claim ≡ get_or read n claim → name ≡ claim.goal →
    claim.outcome ≡ Proved proof → steps ≡ proof.steps → slice_get claims n ≡ Some (proves name steps)
claim_read claims read n claim name proof steps e within is named says are =
    let there : slice_get claims n ≡ Some claim = ap (λ (cs : List Claim). slice_get cs n) (sym e)
    ∙ slice_get_read read (length read) n claim refl within is in
    let same : claim ≡ proves name steps = λ i. record {
      goal = sym named i;
      outcome = (says ∙ ap (λ (ss : List Step). Proved (record { steps = ss })) (sym are)) i;
    } in
    there ∙ ap (λ (x : Claim). Some x) same

pub returns-in-Some-rest : goal.returns-in-Some-rest
returns-in-Some-rest g c =
    let spec = c.args.admitted.now.spec in
    let above = g.O.TermOrder.above c.args.admitted.now.order in
    let at : slice_get c.args.report.now.claims c.args.claim ≡ Some
    (proves c.in-Some-goal_named.goal.now.name c.as_slice-2.result.now) =
    claim_read c.args.report.now.claims c.as_slice.result.now c.args.claim c.in-Some.claim.now
    c.in-Some-goal_named.goal.now.name c.in-Proved.proof c.as_slice-2.result.now c.as_slice.ensures
    c.in-Some.ensures.lookup.3.0 c.in-Some.ensures.lookup.1 c.in-Some-goal_named.ensures.1
    c.in-Proved.is c.as_slice-2.ensures in
    let same = same_report above spec c.args.report.now c.args.claim c.in_ok-block.block c.in_ok-block.ensures.kept
    c.in-Some-goal_named.goal.now.name c.as_slice-2.result.now at c.in_ok-block.ensures.steps in
    let closes = match_some c.in_ok-rest.rest c.in-Some-rest.steps _ _ c.in-Some-rest.is
    (c.in_ok-rest.ensures c.in_ok-block.ensures.kept) in
    subst (λ r. Closes above spec r c.args.claim c.args.node c.args.step.now c.from_vec-steps.result) same
    (subst (λ ss. Closes above spec (kept_report above spec c.args.report.now c.args.claim
    c.in_ok-block.ensures.kept.name c.in_ok-block.block) c.args.claim c.args.node c.args.step.now ss)
    (sym c.from_vec-steps.ensures) closes)

pub returns : goal.returns
returns g c = λ rest closes.
    let spec = c.args.admitted.now.spec in
    let above = g.O.TermOrder.above c.args.admitted.now.order in
    let at : slice_get c.args.report.now.claims c.args.claim ≡ Some
    (proves c.in-Some-goal_named.goal.now.name c.as_slice-2.result.now) =
    claim_read c.args.report.now.claims c.as_slice.result.now c.args.claim c.in-Some.claim.now
    c.in-Some-goal_named.goal.now.name c.in-Proved.proof c.as_slice-2.result.now c.as_slice.ensures
    c.in-Some.ensures.lookup.3.0 c.in-Some.ensures.lookup.1 c.in-Some-goal_named.ensures.1
    c.in-Proved.is c.as_slice-2.ensures in
    let same = same_report above spec c.args.report.now c.args.claim c.in_ok-block.block c.in_ok-block.ensures.kept
    c.in-Some-goal_named.goal.now.name c.as_slice-2.result.now at c.in_ok-block.ensures.steps in
    let none = match_none c.in_ok-rest.rest _ _ c.in-None.is (c.in_ok-rest.ensures c.in_ok-block.ensures.kept) in
    none rest (subst (λ r. Closes above spec r c.args.claim c.args.node c.args.step.now rest) (sym same) closes)
