-- What is kept over a bank stays right when cells are added.
use Rattle.std.proofs.Common.{List}
use Rattle.value_bank.specs.Cells.{Cell, AddsCells}
use Rattle.value_bank.proofs.Terms.{term_kept, terms_kept}
use Rattle.ground_eval.specs.Opened.{Partial}
use Rattle.refuter.specs.declared.tables.Tables.{Tables}
use Rattle.refuter.specs.Tables.{AreRightTables}

pub tables_kept : (goal : Partial) (old new : List Cell) (tables : Tables) → AddsCells old new →
    AreRightTables goal old tables → AreRightTables goal new tables
tables_kept goal old new tables adds all = (
  λ f ps known says.
      let r = all.0 f ps known says in
      record {
        args = r.args;
        value = r.value;
        stand = terms_kept old new ps r.args adds r.stand;
        there = term_kept old new known.place r.value adds r.there;
        gives = r.gives;
      },
  λ k mark at.
      let m = all.1 k mark at in
      record { term = m.term; there = term_kept old new k m.term adds m.there; says = m.says },
)
