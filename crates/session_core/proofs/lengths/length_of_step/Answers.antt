use Rattle.std.proofs.Common.{◌≡◌, ◌++◌, ◌∷◌, [], List, ap, arith, length, ◌∙◌}
use Rattle.clause_core.specs.declared.reports.Claim.{Claim}
use Rattle.clause_core.specs.declared.reports.Outcome.TheVariants.{Proved}
use Rattle.clause_core.specs.declared.steps.Step.{Step}
use Rattle.proof_script.specs.Claims.{claim_text}
use Rattle.session_core.proofs.StepLengths.{nameless_claim}
use Rattle.session_core.proofs.lengths.length_of_step.Goals as goal

pub returns : goal.returns
returns c =
    let steps : c.push.new.self ≡ c.args.step.now ∷ [] = c.in_ok-push.ensures.pushed ∙
    ap (λ (ss : List Step). ss ++ c.in_ok-copy_step.field-0 ∷ []) c.new-steps.ensures ∙
    ap (λ (s : Step). s ∷ []) c.in_ok-copy_step.ensures in
    let name : c.in_ok-of.field-0 ≡ [] = c.in_ok-of.ensures in
    let claim : Claim = record { goal = c.in_ok-of.field-0; outcome = Proved (record { steps = c.push.new.self }) } in
    let is : claim ≡ record { goal = []; outcome = Proved (record { steps = c.args.step.now ∷ [] }) } =
    (λ i. record { goal = name i; outcome = Proved (record { steps = steps i }) }) in
    let text : length c.in_ok-text.text.items ≡ length (claim_text c.args.sig.now claim) =
    ap length c.in_ok-text.ensures in
    let n = nameless_claim c.args.sig.now c.args.step.now in
    let same = ap (λ (x : Claim). length (claim_text c.args.sig.now x)) is in
    omega (arith, text, same, n, c.len.ensures)
