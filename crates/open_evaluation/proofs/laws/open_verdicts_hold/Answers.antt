use Rattle.std.proofs.Common.{◌≡◌, ℕ, ◌++◌, List, Some, sym, ◌∙◌}
use Rattle.std.specs.Prelude.{length, slice_get}
use Rattle.std.proofs.lemmas.List.{length-map}
use Rattle.term_core.specs.declared.ids.SortId.{SortId}
use Rattle.spec_core.specs.declared.records.Equation.{Equation}
use Rattle.spec_core.specs.Sig.{Sig}
use Rattle.spec_core.specs.WellSorted.{sorts_of, EquationsAreSorted}
use Rattle.spec_core.proofs.Determined.{occurs_within}
use Rattle.open_evaluation.specs.OpenGives.{VariablesAreBelow}
use Rattle.open_evaluation.proofs.OpenWalks.{verdict_under}
use Rattle.open_evaluation.proofs.laws.open_verdicts_hold.Goals as goal

-- the variables of sorted equations have numbers below the count of the sorts
within : (sig : Sig) (ctx : List SortId) (n : ℕ) (es : List Equation) → EquationsAreSorted sig ctx es →
    length ctx ≡ n → (k : ℕ) (e : Equation) → slice_get es k ≡ Some e → VariablesAreBelow n e.left
    × VariablesAreBelow n e.right
within sig ctx n es h count k e at =
    let r = h k e at in (
      λ j o. rw (← count) (occurs_within sig ctx e.left r.0 r.1 j o),
      λ j o. rw (← count) (occurs_within sig ctx e.right r.0 r.2 j o),
    )

pub returns : goal.returns
returns c spec g fixed rest budget r fine sorted long built says =
    let ctx = sorts_of g.vars in
    let count : length ctx ≡ length (fixed ++ rest) = length-map g.vars _ ∙ sym long in
    verdict_under spec fine fixed rest built (length g.vars) budget g.premises g.conclusions r
    (within spec.sig ctx (length (fixed ++ rest)) g.premises sorted.premises count)
    (within spec.sig ctx (length (fixed ++ rest)) g.conclusions sorted.conclusions count) says
