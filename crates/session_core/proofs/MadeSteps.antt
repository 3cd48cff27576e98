-- What a step that is answered makes, or for what it is refused.
use Rattle.std.proofs.Common.{◌≡◌, ◌<◌, ℕ, List, Some, Ok, Err, inr, get_or, arith, length}
use Rattle.std.specs.Prelude.{slice_get}
use Rattle.std.proofs.lemmas.Option.{slice_get-get_or}
use Rattle.term_core.specs.Tree.{Tree}
use Rattle.spec_core.specs.declared.records.Spec.{Spec}
use Rattle.clause_core.specs.declared.answers.Children.{Children}
use Rattle.clause_core.specs.declared.answers.Why.{Why}
use Rattle.clause_core.specs.declared.clauses.Clause.{Clause}
use Rattle.clause_core.specs.declared.steps.Step.{Step}
use Rattle.acceptance.specs.Blocks.{StepMakes}
use Rattle.acceptance.specs.StepRefusals.{IsRefused}
use Rattle.block_links.specs.Links.{without_sides}
use Rattle.block_steps.proofs.Taking.{AnsweredAt, length-clauses}
use Rattle.inference_rules.specs.Answers.{clauses_of}
use Rattle.inference_rules.specs.declared.nodes.Node.{Node}
use Rattle.inference_rules.specs.declared.nodes.StepError.TheVariants.{Why as because}

module _ (above : Tree → Tree → Type 0) (spec : Spec) (usable : ℕ → Type 0) (nodes : List Node) (k : ℕ) (step : Step)
    (lt : k < length nodes) where
  abbrev next : Clause
  next = get_or (clauses_of nodes) k without_sides

  next_is : slice_get (clauses_of nodes) k ≡ Some next
  next_is = slice_get-get_or (clauses_of nodes) k without_sides (omega (arith, length-clauses nodes, lt))

  pub answered_makes : (m : Children) → AnsweredAt above spec usable nodes k step (Ok m) →
      StepMakes above spec usable (clauses_of nodes) k step m
  answered_makes m says = record { clause = next; is = next_is; says = says next next_is }

  pub answered_refused : (why : Why) → AnsweredAt above spec usable nodes k step (Err (because why)) →
      IsRefused above spec usable (clauses_of nodes) k step why
  answered_refused why says = inr (next, next_is, says next next_is)
