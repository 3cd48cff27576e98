use Rattle.std.proofs.Common.{◌≡◌, ◌+◌, arith, length, subst}
use Rattle.proof_script.specs.Words.{line_text}
use Rattle.session_core.specs.Lengths.{proved_line}
use Rattle.session_core.proofs.taking.test_last.Goals as goal

pub returns-then-branch-gt-MOST_CLAIM_BYTES : goal.returns-then-branch-gt-MOST_CLAIM_BYTES
returns-then-branch-gt-MOST_CLAIM_BYTES c = (
  c.in_ok-test_allowed.ensures,
  λ sig.
      let n : c.len.result ≡ length c.args.taken.now.nodes.items = omega (arith, c.len.ensures) in
      let l = subst (λ k. c.in_ok-length_of_claim.field-0 ≡ length (line_text sig (proved_line c.args.name.now k)) +
      c.args.total) n (c.in_ok-length_of_claim.ensures sig) in
      omega (arith, l, c.if-branch-gt-MOST_CLAIM_BYTES.true),
)

pub returns : goal.returns
returns c = (
  c.in_ok-test_allowed.ensures,
  λ sig.
      let n : c.len.result ≡ length c.args.taken.now.nodes.items = omega (arith, c.len.ensures) in
      let l = subst (λ k. c.in_ok-length_of_claim.field-0 ≡ length (line_text sig (proved_line c.args.name.now k)) +
      c.args.total) n (c.in_ok-length_of_claim.ensures sig) in
      omega (arith, l, c.if-branch-gt-MOST_CLAIM_BYTES.false),
)
