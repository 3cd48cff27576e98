use Rattle.std.proofs.Common.{◌≡◌, ◌∙◌, sym}
use Rattle.clause_core.specs.declared.steps.Step.{Step}
use Rattle.clause_core.specs.declared.steps.Step.TheVariants.{Trivial, Match, Absurd, Subsume, ByLemma, Rule, Case}
use Rattle.clause_core.specs.declared.steps.Step.TheVariants.{Decompose, Clash, Drop, Solve, Cover, Generalize}
use Rattle.clause_core.specs.declared.steps.Step.TheVariants.{Context, Hyp, Lemma}
use Rattle.proof_script.specs.Steps.{step_line}
use Rattle.proof_script.proofs.NextWords.{no_match}
use Rattle.proof_script.proofs.verbs.read_verb.Goals as goal

pub returns-else-eq-16 : goal.returns-else-eq-16
returns-else-eq-16 c = by
  where
    by : (step : Step) → (step_line step).head ≡ c.args.word.now → ⊥
    by (Trivial a0) e = no_match c.args.word.now c.as_slice.result.now c.if-eq.ensures (sym e ∙ sym c.as_slice.ensures)
    by (Match a0 a1) e = no_match c.args.word.now c.as_slice-else-eq.result.now c.if-eq-2.ensures
        (sym e ∙ sym c.as_slice-else-eq.ensures)
    by (Absurd a0) e = no_match c.args.word.now c.as_slice-else-eq-2.result.now c.if-eq-3.ensures
        (sym e ∙ sym c.as_slice-else-eq-2.ensures)
    by (Subsume a0 a1) e = no_match c.args.word.now c.as_slice-else-eq-3.result.now c.if-eq-4.ensures
        (sym e ∙ sym c.as_slice-else-eq-3.ensures)
    by (ByLemma a0 a1) e = no_match c.args.word.now c.as_slice-else-eq-4.result.now c.if-eq-5.ensures
        (sym e ∙ sym c.as_slice-else-eq-4.ensures)
    by (Rule a0 a1) e = no_match c.args.word.now c.as_slice-else-eq-5.result.now c.if-eq-6.ensures
        (sym e ∙ sym c.as_slice-else-eq-5.ensures)
    by (Case a0 a1) e = no_match c.args.word.now c.as_slice-else-eq-6.result.now c.if-eq-7.ensures
        (sym e ∙ sym c.as_slice-else-eq-6.ensures)
    by (Decompose a0 a1) e = no_match c.args.word.now c.as_slice-else-eq-7.result.now c.if-eq-8.ensures
        (sym e ∙ sym c.as_slice-else-eq-7.ensures)
    by (Clash a0) e = no_match c.args.word.now c.as_slice-else-eq-8.result.now c.if-eq-9.ensures
        (sym e ∙ sym c.as_slice-else-eq-8.ensures)
    by (Drop a0 a1) e = no_match c.args.word.now c.as_slice-else-eq-9.result.now c.if-eq-10.ensures
        (sym e ∙ sym c.as_slice-else-eq-9.ensures)
    by (Solve a0) e = no_match c.args.word.now c.as_slice-else-eq-10.result.now c.if-eq-11.ensures
        (sym e ∙ sym c.as_slice-else-eq-10.ensures)
    by (Cover a0 a1) e = no_match c.args.word.now c.as_slice-else-eq-11.result.now c.if-eq-12.ensures
        (sym e ∙ sym c.as_slice-else-eq-11.ensures)
    by (Generalize a0) e = no_match c.args.word.now c.as_slice-else-eq-12.result.now c.if-eq-13.ensures
        (sym e ∙ sym c.as_slice-else-eq-12.ensures)
    by (Context a0 a1 a2) e = no_match c.args.word.now c.as_slice-else-eq-13.result.now c.if-eq-14.ensures
        (sym e ∙ sym c.as_slice-else-eq-13.ensures)
    by (Hyp a0 a1 a2 a3) e = no_match c.args.word.now c.as_slice-else-eq-14.result.now c.if-eq-15.ensures
        (sym e ∙ sym c.as_slice-else-eq-14.ensures)
    by (Lemma a0 a1 a2 a3) e = no_match c.args.word.now c.as_slice-else-eq-15.result.now c.if-eq-16.ensures
        (sym e ∙ sym c.as_slice-else-eq-15.ensures)
