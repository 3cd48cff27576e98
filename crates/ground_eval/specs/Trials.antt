-- What a trial of a goal can compare.
use Rattle.std.specs.Prelude.{List}
use Rattle.term_core.specs.Tree.{Tree}
use Rattle.spec_core.specs.declared.records.Equation.{Equation}
use Rattle.value_bank.specs.Cells.{Cell}
use Rattle.ground_eval.specs.declared.comparing.SidePair.{SidePair}
use Rattle.ground_eval.specs.declared.comparing.Trial.{Trial}
use Rattle.ground_eval.specs.OpenSides.{Setting, CanOpenAll}
use Rattle.ground_eval.specs.Prepared.{CanCompareAll}

module _ (trial : Trial) (cells : List Cell) (pairs : List SidePair) (es : List Equation) where
  -- the sides of the equations, under these values
  abbrev pub CanTry : List Tree → Type 0
  CanTry terms = CanCompareAll trial.machine.now cells pairs trial.values.now es terms

  -- the sides of the equations, with constants
  abbrev pub CanTryOpen : Setting → Type 0
  CanTryOpen s = CanOpenAll s trial.machine.now cells pairs trial.values.now es
