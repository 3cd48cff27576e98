use Rattle.std.proofs.Common.{◌≡◌, ◌+◌, ◌∙◌, ap, arith, length}
use Rattle.clause_core.specs.declared.reports.Claim.{Claim}
use Rattle.proof_script.specs.Claims.{claim_text}
use Rattle.script_trim.proofs.TextBound.{line_bound}
use Rattle.script_trim.proofs.text_bounds.bytes_with.Goals as goal

pub returns : goal.returns
returns c =
    let long : c.len.result ≡ length c.in_ok-text.text.items = grind (arith, c.len.ensures) in
    line_bound c.args.sig.now c.args.name.now c.args.step.now c.args.bytes c.in-Some.sum
    (c.in-Some.ensures.1 ∙ ap (λ n. c.args.bytes + n) (long ∙ ap length c.in_ok-text.ensures
    ∙ ap (λ (x : Claim). length (claim_text c.args.sig.now x)) c.in_ok-claim.ensures))
