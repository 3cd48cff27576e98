-- What the evaluation of a term writes.
use Rattle.std.specs.Prelude.{ℕ, ◌≤◌, List, [], ◌++◌, codes, if◌then◌else◌, nat_le}
use Rattle.std.specs.Fmt.{decimal}
use Rattle.term_core.specs.Tree.{Tree, tree_size}
use Rattle.spec_core.specs.declared.records.Spec.{Spec}
use Rattle.spec_core.specs.Sig.{Sig}
use Rattle.spec_core.specs.TermText.{term_text}
use Rattle.spec_core.specs.Gives.{Gives}
use Rattle.file_replies.specs.declared.statuses.Status.{Status}
use Rattle.file_replies.specs.declared.statuses.Status.TheVariants.{Done, Open, Refused}
use Rattle.accepted_spec.specs.Meanings.{TermTextStandsFor}
use Rattle.accepted_spec.specs.Refusals.{IsTermRefusal}

-- the value's text, or `large` if it has more than 10,000 symbols
abbrev pub value_text : Sig → Tree → List ℕ
value_text sig v =
    if nat_le (tree_size v) 10000 then term_text sig [] v else codes "large"

-- `value V` and `steps N`, for the text of V
abbrev pub lines_with : List ℕ → ℕ → List ℕ
lines_with text n = codes "value " ++ text ++ codes "\nsteps " ++ decimal n ++ codes "\n"

-- the two lines for a value and its cost
abbrev pub value_lines : Sig → Tree → ℕ → List ℕ
value_lines sig v n = lines_with (value_text sig v) n

-- `spent B`
abbrev pub spent_line : ℕ → List ℕ
spent_line steps = codes "spent " ++ decimal steps ++ codes "\n"

-- the term has no value at a cost of at most these steps
abbrev pub HasNoValueWithin : Spec → Tree → ℕ → Type 0
HasNoValueWithin spec t steps =
    (v : Tree) (n : ℕ) → Gives spec t v n → n ≤ steps → ⊥

-- what is written for the bytes of a term, and the status: its value and the cost within the steps;
-- that there is none; or the line of its first fault
pub data IsEvaluation (spec : Spec) (bytes : List ℕ) (steps : ℕ) : List ℕ → Status → Type 0 where
  valued : (t v : Tree) (n : ℕ) → TermTextStandsFor spec.sig bytes t → Gives spec t v n → n ≤ steps
      → IsEvaluation spec bytes steps (value_lines spec.sig v n) Done
  spent : (t : Tree) → TermTextStandsFor spec.sig bytes t → HasNoValueWithin spec t steps
      → IsEvaluation spec bytes steps (spent_line steps) Open
  refused : {line : List ℕ} → IsTermRefusal spec.sig bytes line
      → IsEvaluation spec bytes steps line Refused

-- the text of an evaluation, whatever its status
abbrev pub IsEvaluationText : Spec → List ℕ → ℕ → List ℕ → Type 0
IsEvaluationText spec bytes steps text =
    (status : Status) × IsEvaluation spec bytes steps text status
