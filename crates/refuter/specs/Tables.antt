-- What a search keeps over its bank.
use Rattle.std.specs.Prelude.{List}
use Rattle.value_bank.specs.Cells.{Cell}
use Rattle.bank_machine.specs.KeptCalls.{AreRight}
use Rattle.ground_eval.specs.Opened.{Partial, AreMarksOf}
use Rattle.refuter.specs.declared.tables.Tables.{Tables}

-- the kept calls are right where variables have constants, and the marks say where those are
abbrev pub AreRightTables : Partial → List Cell → Tables → Type 0
AreRightTables goal cells tables =
    AreRight goal.extended cells tables.kept × AreMarksOf goal cells tables.marks
