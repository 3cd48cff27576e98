use Rattle.std.proofs.Common.{◌≡◌, ◌∙◌, List, ℕ, true, false, refl, subst, sym}
use Rattle.spec_core.specs.declared.records.Spec.{Spec}
use Rattle.added_goals.specs.Additions.{AddsGoals}
use Rattle.explorations.specs.Answers.{AcceptsText, AcceptsReport, ProvesEnough}
use Rattle.explorations.proofs.Decided.{no_addition, no_report, too_little, is_exploration}
use Rattle.explorations.proofs.checking.checked.Goals as goal

pub returns-then-not-adds_goals : goal.returns-then-not-adds_goals
returns-then-not-adds_goals c =
    let text = subst (λ (xs : List ℕ). AcceptsText xs c.in_ok-accepted.field-0) c.deref.ensures.value
    c.in_ok-accepted.ensures in
    let t = subst (λ a. AcceptsText c.args.text.items a) c.in-Some.is text in
    let no : c.adds_goals.result ≡ false = c.if-not-adds_goals.true in
    no_addition c.args.old.now c.args.base.now c.args.text.items c.args.report_text.items c.one_reading.ensures
    c.one_specification.ensures c.in-Some.accepted.raw c.in-Some.accepted.admitted.spec t.0
    (λ adds.
    let yes = c.adds_goals.ensures.1
    (subst (λ (s : Spec). AddsGoals c.args.old.now s) (sym c.spec.ensures.is) adds) in
    absurd (let q : false ≡ true = sym no ∙ yes in cc))

pub returns-in_default-2 : goal.returns-in_default-2
returns-in_default-2 c =
    let new = c.in-Some.accepted.admitted.spec in
    let text = subst (λ (xs : List ℕ). AcceptsText xs c.in_ok-accepted.field-0) c.deref.ensures.value
    c.in_ok-accepted.ensures in
    let t = subst (λ a. AcceptsText c.args.text.items a) c.in-Some.is text in
    let report = subst (λ (xs : List ℕ). AcceptsReport new xs c.in_ok-report.field-0) c.deref-2.ensures.value
    c.in_ok-report.ensures in
    no_report c.args.old.now c.args.base.now c.args.text.items c.args.report_text.items c.one_reading.ensures
    c.one_specification.ensures c.in-Some.accepted.raw new t.0
    (subst (λ r. AcceptsReport new c.args.report_text.items r) c.in_default-2.is report)

pub returns-then-not-proves_enough : goal.returns-then-not-proves_enough
returns-then-not-proves_enough c =
    let new = c.in-Some.accepted.admitted.spec in
    let text = subst (λ (xs : List ℕ). AcceptsText xs c.in_ok-accepted.field-0) c.deref.ensures.value
    c.in_ok-accepted.ensures in
    let t = subst (λ a. AcceptsText c.args.text.items a) c.in-Some.is text in
    let report = subst (λ (xs : List ℕ). AcceptsReport new xs c.in_ok-report.field-0) c.deref-2.ensures.value
    c.in_ok-report.ensures in
    let r = subst (λ r. AcceptsReport new c.args.report_text.items r) c.in-Some-2.is report in
    let no : c.proves_enough.result ≡ false = c.if-not-proves_enough.true in
    too_little c.args.old.now c.args.base.now c.args.text.items c.args.report_text.items c.one_reading.ensures
    c.one_specification.ensures c.in-Some.accepted.raw new t.0 c.one_report.ensures c.in-Some-2.report r.0
    (λ enough.
    let yes = c.proves_enough.ensures.1
    (subst (λ (s : Spec). ProvesEnough c.args.old.now c.args.base.now s c.in-Some-2.report)
    (sym c.spec-2.ensures.is) enough) in
    absurd (let q : false ≡ true = sym no ∙ yes in cc))

pub returns : goal.returns
returns c =
    let new = c.in-Some.accepted.admitted.spec in
    let text = subst (λ (xs : List ℕ). AcceptsText xs c.in_ok-accepted.field-0) c.deref.ensures.value
    c.in_ok-accepted.ensures in
    let t = subst (λ a. AcceptsText c.args.text.items a) c.in-Some.is text in
    let report = subst (λ (xs : List ℕ). AcceptsReport new xs c.in_ok-report.field-0) c.deref-2.ensures.value
    c.in_ok-report.ensures in
    let r = subst (λ r. AcceptsReport new c.args.report_text.items r) c.in-Some-2.is report in
    let adds = subst (λ (s : Spec). AddsGoals c.args.old.now s) c.spec.ensures.is
    (c.adds_goals.ensures.0 c.if-not-adds_goals.false) in
    let enough = subst (λ (s : Spec). ProvesEnough c.args.old.now c.args.base.now s c.in-Some-2.report)
    c.spec-2.ensures.is (c.proves_enough.ensures.0 c.if-not-proves_enough.false) in (
      refl,
      refl,
      t.1,
      is_exploration c.args.old.now c.args.base.now c.args.text.items c.args.report_text.items t.0 adds r.0 r.1
          enough,
    )
