use Rattle.std.proofs.Common.{◌≡◌, ℕ, List, Bool, refl, ap, sym, ◌∙◌, subst, arith}
use Rattle.std.specs.Prelude.{◌↔◌, IsTrue, Contains}
use Rattle.term_core.specs.Tree.{Tree}
use Rattle.term_core.proofs.Items.{if_ok_map}
use Rattle.spec_core.specs.declared.records.Spec.{Spec}
use Rattle.clause_core.specs.declared.clauses.Clause.{Clause}
use Rattle.clause_core.specs.declared.steps.Step.{Step}
use Rattle.clause_core.specs.declared.steps.Step.TheVariants.{Trivial, Match, Absurd, Subsume, ByLemma}
use Rattle.inference_rules.specs.Answers.{clauses_of}
use Rattle.script_trim.specs.Closing.{closing_steps}
use Rattle.script_trim.proofs.ClosingCases.{IsCase, closing_case, case_closing}
use Rattle.script_trim.proofs.closing.is_closing.Goals as goal

module _ (spec : Spec) (nodes : List Clause) (here : Clause) where
  -- the step is this one
  decided : (step this : Step) (answer : Bool) → step ≡ this → IsTrue answer ↔ IsCase spec nodes here this →
      IsTrue answer ↔ Contains (closing_steps spec nodes here) step
  decided step this answer is h = (
    λ y. case_closing spec nodes here step (subst (λ s. IsCase spec nodes here s) (sym is) (h.0 y)),
    λ at. h.1 (subst (λ s. IsCase spec nodes here s) is (closing_case spec nodes here step at)),
  )

  -- the step is of another kind
  no_case : (step : Step) → ((k : ℕ) → step ≡ Trivial k → ⊥) → ((k j : ℕ) → step ≡ Match k j → ⊥) →
      ((j : ℕ) → step ≡ Absurd j → ⊥) → ((k : ℕ) (terms : List Tree) → step ≡ Subsume k terms → ⊥) →
      ((name : List ℕ) (terms : List Tree) → step ≡ ByLemma name terms → ⊥) → IsCase spec nodes here step → ⊥
  no_case (Trivial k) a b c d e h = a k refl
  no_case (Match k j) a b c d e h = b k j refl
  no_case (Absurd j) a b c d e h = c j refl
  no_case (Subsume k terms) a b c d e h = d k terms refl
  no_case (ByLemma name terms) a b c d e h = e name terms refl
  no_case step a b c d e h = h

pub returns-in-Trivial : goal.returns-in-Trivial
returns-in-Trivial c =
    decided c.args.spec.now (clauses_of c.args.nodes.now) c.args.here.now c.args.step.now
    (Trivial c.in-Trivial.number) c.is_number.result c.in-Trivial.is (
      λ y. let h = c.is_number.ensures.0 y in (h.0, omega (arith, h.1)),
      λ h. c.is_number.ensures.1 (h.0, omega (arith, h.1)),
    )

pub returns-in-Absurd : goal.returns-in-Absurd
returns-in-Absurd c =
    decided c.args.spec.now (clauses_of c.args.nodes.now) c.args.here.now c.args.step.now
    (Absurd c.in-Absurd.number) c.is_number-in-Absurd.result c.in-Absurd.is (
      λ y. let h = c.is_number-in-Absurd.ensures.0 y in (h.0, omega (arith, h.1)),
      λ h. c.is_number-in-Absurd.ensures.1 (h.0, omega (arith, h.1)),
    )

pub returns-in-Match : goal.returns-in-Match
returns-in-Match c =
    decided c.args.spec.now (clauses_of c.args.nodes.now) c.args.here.now c.args.step.now
    (Match c.in-Match.conclusion c.in-Match.premise) c.are_numbers.result c.in-Match.is c.are_numbers.ensures

pub returns-in-Subsume : goal.returns-in-Subsume
returns-in-Subsume c =
    decided c.args.spec.now (clauses_of c.args.nodes.now) c.args.here.now c.args.step.now
    (Subsume c.in-Subsume.number c.as_slice.result.now) c.is_whole_node.result
    (c.in-Subsume.is ∙ ap (λ ts. Subsume c.in-Subsume.number ts) (sym c.as_slice.ensures)) c.is_whole_node.ensures

pub returns-in-ByLemma : goal.returns-in-ByLemma
returns-in-ByLemma c =
    let step : Step = c.args.step.now in
    let this : Step = ByLemma c.in-ByLemma.name c.as_slice-in-ByLemma.result.now in
    let nodes = clauses_of c.args.nodes.now in
    if_ok_map c.is_whole_goal.result (λ (is : Bool). IsTrue is ↔ IsCase c.args.spec.now nodes c.args.here.now this)
    (λ (is : Bool). IsTrue is ↔ Contains (closing_steps c.args.spec.now nodes c.args.here.now) step)
    (λ is h. decided c.args.spec.now nodes c.args.here.now step this is
    (c.in-ByLemma.is ∙ ap (λ ts. ByLemma c.in-ByLemma.name ts) (sym c.as_slice-in-ByLemma.ensures)) h)
    c.is_whole_goal.ensures

pub returns-in_default : goal.returns-in_default
returns-in_default c = (
  λ y. absurd (cc),
  λ at. absurd (no_case c.args.spec.now (clauses_of c.args.nodes.now) c.args.here.now c.args.step.now
      c.in_default.not-Trivial c.in_default.not-Match c.in_default.not-Absurd c.in_default.not-Subsume
      c.in_default.not-ByLemma
      (closing_case c.args.spec.now (clauses_of c.args.nodes.now) c.args.here.now c.args.step.now at)),
)
