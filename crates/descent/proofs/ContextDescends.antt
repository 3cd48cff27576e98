-- One step of descent for `context`: a premise's side in the place of the other one.
use Rattle.std.proofs.Common.{ℕ, [], Bool, inl, inr}
use Rattle.term_core.specs.Tree.{Tree}
use Rattle.term_order.specs.Laws.{HasRanks}
use Rattle.clause_core.specs.declared.steps.Place.{Place}
use Rattle.clause_core.specs.declared.steps.Step.TheVariants.{Context}
use Rattle.clause_core.specs.declared.answers.Why.TheVariants.{NoSuchPlace, DoesNotFit}
use Rattle.descent.specs.Descent.{StepDescends}
use Rattle.descent.proofs.Closers.{holds_at}
use Rattle.descent.proofs.StepDescents.{no_reason}
use Rattle.descent.proofs.EqualTerms.{exchange_goes}
use Rattle.descent.proofs.SortedEquations.{sorted_at}

pub context_descends : (above : Tree → Tree → Type 0) (rank : ℕ → ℕ → Tree → ℕ → Type 0) → HasRanks above rank →
    (place : Place) (n : ℕ) (left : Bool) → StepDescends above rank (Context place n left)
context_descends above rank laws place n left spec numbers nodes c made xs fine admitted lemmas nodes_sorted
    sorted (inl (at, inl (same, m))) fails =
    exchange_goes above rank laws spec fine admitted nodes c made sorted xs fails place at.0 left at.1.equation
    (sorted_at spec.sig c.ctx c.premises n at.1 sorted.premises)
    (holds_at spec xs c.premises n at.1 fails.premises) same [] m
context_descends above rank laws place n left spec numbers nodes c made xs fine admitted lemmas nodes_sorted
    sorted (inl (at, inr h)) fails = absurd (no_reason above c nodes made DoesNotFit h.1)
context_descends above rank laws place n left spec numbers nodes c made xs fine admitted lemmas nodes_sorted
    sorted (inr h) fails = absurd (no_reason above c nodes made NoSuchPlace h.1)
