-- What the answers of an evaluation say of the text that is written.
use Rattle.std.proofs.Common.{◌≡◌, ◌∙◌, ◌≤◌, ◌<◌, ℕ, List, [], ap, subst, sym}
use Rattle.term_core.specs.Tree.{Tree, tree_size}
use Rattle.term_core.specs.declared.ids.SortId.{SortId}
use Rattle.spec_core.specs.declared.records.Spec.{Spec}
use Rattle.spec_core.specs.Sorts.{Sorted}
use Rattle.spec_core.specs.WellSorted.{IsWellSorted}
use Rattle.spec_core.specs.Sig.{Sig}
use Rattle.spec_core.specs.TermText.{SymbolsAreInRange, term_text}
use Rattle.spec_core.specs.Gives.{Gives}
use Rattle.spec_order.specs.Orders.{above_of}
use Rattle.clause_core.specs.Admitted.{IsAdmitted}
use Rattle.spec_core.proofs.Keeps.{keeps}
use Rattle.accepted_spec.specs.declared.refusals.Refusal.{Refusal}
use Rattle.file_replies.specs.declared.statuses.Status.{Status}
use Rattle.file_replies.specs.declared.statuses.Status.TheVariants as status
use Rattle.accepted_spec.specs.Refusals.{IsTermRefusal}
use Rattle.std.specs.Prelude.{Result, Ok, Err, IfOk, codes, if◌then◌else◌}
use Rattle.refuter.proofs.Numbers.{le_true, le_false}
use Rattle.ground_eval.specs.Evals.{IsEval}
use Rattle.ground_eval.specs.declared.answers.Eval.{Eval}
use Rattle.ground_eval.specs.declared.answers.Eval.TheVariants.{Value, Large, Spent}
use Rattle.term_core.specs.declared.memory.OutOfMemory.{OutOfMemory}
use Rattle.file_replies.specs.declared.statuses.Ending.{Ending}
use Rattle.accepted_spec.specs.Meanings.{TermTextStandsFor}
use Rattle.spike_cli.specs.Evaluations.{IsEvaluation, value_text, lines_with, spent_line, valued, spent, refused}
use Rattle.accepted_spec.specs.Tellings.{Tells, IsLineOf}
use Rattle.accepted_spec.proofs.SymbolsInRange.{sorted_in_range}
use Rattle.file_replies.proofs.Endings.{line_told}

-- a value has symbols of the signature
pub value_printable : (spec : Spec) (t v : Tree) (n : ℕ) → IsWellSorted spec →
    (s : SortId) × Sorted spec.sig [] t s → Gives spec t v n → SymbolsAreInRange spec.sig v
value_printable spec t v n fine sorted gives = let kept = keeps spec fine gives sorted.0 sorted.1 in
    sorted_in_range spec.sig [] v sorted.0 kept.0

-- a line of refusal is the text of an evaluation
pub refused_evaluation : (spec : Spec) (bytes : List ℕ) (steps : ℕ) (r : Refusal) (text : List ℕ) (s : Status) →
    Tells (IsTermRefusal spec.sig bytes) r → IsLineOf r text → s ≡ status.Refused → IsEvaluation spec bytes steps text s
refused_evaluation spec bytes steps r text s told is e = subst
    (λ (u : Status). IsEvaluation spec bytes steps text u) (sym e)
    (refused (line_told (IsTermRefusal spec.sig bytes) r told text is))

pub refused_result : (spec : Spec) (bytes : List ℕ) (steps : ℕ) (r : Refusal)
    (result : Result Ending OutOfMemory) → Tells (IsTermRefusal spec.sig bytes) r →
    IfOk result (λ e. IsLineOf r e.text.items × (e.status ≡ status.Refused)) →
    IfOk result (λ e. IsEvaluation spec bytes steps e.text.items e.status)
refused_result spec bytes steps r (Ok e) told h = refused_evaluation spec bytes steps r e.text.items e.status
    told h.0 h.1
refused_result spec bytes steps r (Err e) told h = tt

-- the text of a value that is small enough to be written, and of one that isn't
pub small_text : (sig : Sig) (v : Tree) → tree_size v ≤ 10000 → value_text sig v ≡ term_text sig [] v
small_text sig v small = ap (λ b. if b then term_text sig [] v else codes "large") (le_true (tree_size v) 10000 small)

pub large_text : (sig : Sig) (v : Tree) → 10000 < tree_size v → value_text sig v ≡ codes "large"
large_text sig v large = ap (λ b. if b then term_text sig [] v else codes "large") (le_false (tree_size v) 10000 large)

-- what an evaluation in an admitted specification found
module _ (spec : Spec) (bytes : List ℕ) (t : Tree) (steps : ℕ) (stands : TermTextStandsFor spec.sig bytes t) where
  pub value_told : (v : Tree) (n : ℕ) (r : Eval) (text : List ℕ) → r ≡ Value v n → IsEval spec t steps r →
      text ≡ lines_with (term_text spec.sig [] v) n → IsEvaluation spec bytes steps text status.Done
  value_told v n r text is found e =
      let f : IsEval spec t steps (Value v n) = subst (λ (x : Eval). IsEval spec t steps x) is found in
      subst (λ u. IsEvaluation spec bytes steps u status.Done)
      (ap (λ u. lines_with u n) (small_text spec.sig v f.2) ∙ sym e) (valued t v n stands f.0 f.1)

  pub large_told : (n : ℕ) (r : Eval) (text : List ℕ) → r ≡ Large n → IsEval spec t steps r →
      text ≡ lines_with (codes "large") n → IsEvaluation spec bytes steps text status.Done
  large_told n r text is found e =
      let f : IsEval spec t steps (Large n) = subst (λ (x : Eval). IsEval spec t steps x) is found in
      subst (λ u. IsEvaluation spec bytes steps u status.Done)
      (ap (λ u. lines_with u n) (large_text spec.sig f.0 f.3) ∙ sym e) (valued t f.0 n stands f.1 f.2)

  pub none_told :
      (r : Eval) (text : List ℕ) → IsAdmitted (above_of spec) spec → r ≡ Spent →
      IsEval spec t steps r → text ≡ spent_line steps → IsEvaluation spec bytes steps text status.Open
  none_told r text admitted is found e =
      let f : IsEval spec t steps Spent = subst (λ (x : Eval). IsEval spec t steps x) is found in
      subst (λ u. IsEvaluation spec bytes steps u status.Open) (sym e)
      (spent t stands (f admitted.apart admitted.whole))

-- a value that was found has symbols of the signature
pub found_printable : (spec : Spec) (t v : Tree) (steps n : ℕ) (r : Eval) → IsWellSorted spec →
    (s : SortId) × Sorted spec.sig [] t s → r ≡ Value v n → IsEval spec t steps r → SymbolsAreInRange spec.sig v
found_printable spec t v steps n r fine sorted is found =
    let f : IsEval spec t steps (Value v n) = subst (λ (x : Eval). IsEval spec t steps x) is found in
    value_printable spec t v n fine sorted f.0
