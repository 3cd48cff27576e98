use Rattle.std.proofs.Common.{◌≡◌, false, true, sym, ◌∙◌, subst}
use Rattle.spec_core.specs.Verdict.{IsVerdict}
use Rattle.spec_core.specs.declared.records.Verdict.TheVariants.{Holds, Fails, Spent}
use Rattle.acceptance.specs.Accepting.{values_in}
use Rattle.replay_check.proofs.values.has_failed.Goals as goal

pub returns-in-Holds : goal.returns-in-Holds
returns-in-Holds c =
    let is : IsVerdict c.args.spec.now (values_in c.args.values.now) c.args.steps c.args.goal.now
    c.in_ok-verdict.field-0 =
    subst (λ vs. IsVerdict c.args.spec.now vs c.args.steps c.args.goal.now c.in_ok-verdict.field-0)
    (c.as_slice.ensures.value ∙ c.in_ok-terms.ensures)
    (c.in_ok-verdict.ensures.verdict c.requires.apart c.requires.whole) in (
      λ h. absurd (let e : false ≡ true = h in cc),
      λ h.
          let e : c.in_ok-verdict.field-0 ≡ Fails = c.one_verdict.ensures c.args.spec.now c.args.goal.now
          c.requires.listed.0 (values_in c.args.values.now) c.args.steps c.in_ok-verdict.field-0 Fails
          c.requires.fine c.requires.apart c.requires.whole c.requires.listed.1 c.requires.values.sorts is h in
          absurd (let q : Holds ≡ Fails = sym c.in-Holds.is ∙ e in cc),
    )

pub returns : goal.returns
returns c =
    let is : IsVerdict c.args.spec.now (values_in c.args.values.now) c.args.steps c.args.goal.now
    c.in_ok-verdict.field-0 =
    subst (λ vs. IsVerdict c.args.spec.now vs c.args.steps c.args.goal.now c.in_ok-verdict.field-0)
    (c.as_slice.ensures.value ∙ c.in_ok-terms.ensures)
    (c.in_ok-verdict.ensures.verdict c.requires.apart c.requires.whole) in (
      λ h. absurd (let e : false ≡ true = h in cc),
      λ h.
          let e : c.in_ok-verdict.field-0 ≡ Fails = c.one_verdict.ensures c.args.spec.now c.args.goal.now
          c.requires.listed.0 (values_in c.args.values.now) c.args.steps c.in_ok-verdict.field-0 Fails
          c.requires.fine c.requires.apart c.requires.whole c.requires.listed.1 c.requires.values.sorts is h in
          absurd (let q : Spent ≡ Fails = sym c.in-Spent.is ∙ e in cc),
    )
