use Rattle.std.proofs.Common.{arith, ap, sym, subst, length}
use Rattle.std.specs.List.{AllByRecursion}
use Rattle.term_core.specs.Tree.{trees_of, sizes}
use Rattle.value_bank.specs.Cells.{AreTerms}
use Rattle.value_bank.specs.Ground.{IsGround}
use Rattle.refuter.proofs.Memory.{read_symbols}
use Rattle.refuter.proofs.Sizing.{all_ground}
use Rattle.refuter.proofs.Steps.{at_places}
use Rattle.refuter.proofs.walking.make_room.Goals as goal

pub place-requires : goal.place-requires
place-requires c = subst (λ ts. AllByRecursion IsGround ts) (sym c.deref-2.ensures.value)
    (all_ground c.args.bank.now c.deref.result.now c.in_ok-values.values.items c.in_ok-values.ensures)

pub returns-clause-placed : goal.returns-clause-placed
returns-clause-placed c =
    let read = subst (λ ps. AreTerms c.args.bank.now ps (trees_of c.in_ok-values.values.items))
    c.deref.ensures.value c.in_ok-values.ensures in
    let placed = subst (λ ts. AreTerms c.place.new.self c.in_ok-row.field-0.items (trees_of ts))
    c.deref-2.ensures.value c.in_ok-row.ensures.placed in
    at_places c.args.bank.now c.args.row.now.items (λ ts. AreTerms c.place.new.self c.in_ok-row.field-0.items
    (trees_of ts)) c.in_ok-values.values.items read placed

pub returns-clause-kept : goal.returns-clause-kept
returns-clause-kept c g right = c.new-2.ensures g c.place.new.self

pub returns-clause-few : goal.returns-clause-few
returns-clause-few c =
    let read = subst (λ ps. AreTerms c.args.bank.now ps (trees_of c.in_ok-values.values.items))
    c.deref.ensures.value c.in_ok-values.ensures in
    let small = read_symbols c.args.bank.now c.args.row.now.items c.in_ok-values.values.items c.requires read in
    omega (
      arith,
      small,
      ap (λ ts. sizes (trees_of ts)) c.deref-2.ensures.value,
      ap (λ cells. length cells) c.in_ok-bank.ensures,
      c.in_ok-row.ensures.few,
    )
