use Rattle.std.proofs.Common.{◌≡◌, false, true}
use Rattle.added_goals.proofs.Entries.{differ_if, entry_at, same_entries, same_if_not, same_names}
use Rattle.added_goals.proofs.signatures.same_symbol.Goals as goal

pub returns : goal.returns
returns c =
    let number = c.args.sym.0 in
    let name = c.name.result.now in
    let again = c.name-2.result.now in
    let info = c.info.result.now in
    let another = c.info-2.result.now in
    let same = same_if_not name again c.ne.result c.ne.ensures c.if-ne.false in
    let entries =
    same_entries c.args.one.now.table c.args.other.now.table number name again info another
    (entry_at c.args.one.now.table number name info c.name.ensures c.info.ensures)
    (entry_at c.args.other.now.table number again another c.name-2.ensures c.info-2.ensures) in (
      (λ t. entries.0 (same, c.is_same.ensures.0 t)),
      (λ e. c.is_same.ensures.1 (entries.1 e).1),
    )

pub returns-then-ne : goal.returns-then-ne
returns-then-ne c =
    let name = c.name.result.now in
    let again = c.name-2.result.now in
    let differ = differ_if name again c.ne.result c.ne.ensures c.if-ne.true in (
      (λ t. absurd (let q : false ≡ true = t in cc)),
      (λ e. absurd (differ (same_names c.args.one.now.table c.args.other.now.table c.args.sym.0 name again
          c.name.ensures c.name-2.ensures e))),
    )
