-- That the text of `load` is accepted.
use Rattle.std.specs.Prelude.{ℕ, ◌≤◌, List}
use Rattle.spec_core.specs.declared.records.Spec.{Spec}
use Rattle.spec_core.specs.WellSorted.{IsWellSorted}
use Rattle.spec_grammar.specs.declared.raw.RawSpec.{RawSpec}
use Rattle.spec_grammar.specs.Grammar.{IsSpecText}
use Rattle.spec_grammar.specs.Derives.{TextDerives}
use Rattle.spec_printing.specs.Printed.{printed}
use Rattle.sort_check.specs.StandsFor.{StandsFor}
use Rattle.spec_order.specs.Orders.{above_of}
use Rattle.clause_core.specs.Admitted.{IsAdmitted}
use Rattle.load_text.specs.LoadRaw.{load_raw}
use Rattle.load_text.specs.LoadSpec.{load_spec}

-- The text derives declarations, which stand for this specification; it is well sorted, and its
-- own order admits it.
pub record IsAcceptedAs (text : List ℕ) (spec : Spec) : Type 0 where
  pub raw : RawSpec
  pub derives : TextDerives IsSpecText text raw
  pub stands : StandsFor raw spec
  pub sorted : IsWellSorted spec
  pub admitted : IsAdmitted (above_of spec) spec

-- the text of each number of goals from 1 to 200
abbrev pub LoadTextsAreAccepted : Type 0
LoadTextsAreAccepted = (n : ℕ) → 1 ≤ n → n ≤ 200 → IsAcceptedAs (printed (load_raw n)) (load_spec n)
