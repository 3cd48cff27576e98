use Rattle.std.proofs.Common.{◌≡◌, ◌∙◌, [], false, arith, refl, sym, ap, subst}
use Rattle.term_core.specs.Tree.{trees_of}
use Rattle.spec_core.specs.Order.{substitutions}
use Rattle.value_bank.specs.Cells.{AreTerms}
use Rattle.refuter.specs.declared.parts.Look.TheVariants.{Whole}
use Rattle.refuter.specs.declared.parts.Tally.{Tally}
use Rattle.refuter.specs.declared.answers.Search.TheVariants.{NotFound}
use Rattle.refuter.specs.Blocks.{rows_of, block}
use Rattle.refuter.specs.Looks.{LooksOver}
use Rattle.refuter.proofs.Blocks.{whole_block}
use Rattle.refuter.proofs.Looks.{looks_none, finds_by, false_by}
use Rattle.refuter.proofs.Walks.{few_symbols, last_sorts, begun_none, rows_some, rows_none}
use Rattle.refuter.proofs.walking.Walk.search.Goals as goal

pub push_first-requires-clause-sorts : goal.push_first-requires-clause-sorts
push_first-requires-clause-sorts c = last_sorts _ _ _ _ _ _ c.requires.walk [] c.args.sorts.now c.requires.sorts

pub push_first-requires-clause-few : goal.push_first-requires-clause-few
push_first-requires-clause-few c = few_symbols _ _ _ _ _ _ c.requires.walk

pub returns-then-not-some-clause-finds : goal.returns-then-not-some-clause-finds
returns-then-not-some-clause-finds c apart all =
    let spec = c.args.self.now.prepared.now.spec in
    let aim = c.args.self.now.prepared.now.goal in
    let budget = c.args.self.now.budget in
    let tries = c.args.self.now.tries in
    let rows = substitutions spec aim c.args.self.now.depth in
    let zero : Tally = record { tried = 0; skipped = 0 } in
    let none : rows ≡ [] = rows_none _ _ _ _ _ _ c.requires.walk c.push_first.new.bank c.new-row.result.items
    c.push_first.new.row.items c.in_ok-some.some c.args.sorts.now c.requires.sorts c.if-not-some.true
    c.in_ok-some.ensures.goes in
    let over = subst (λ xs. LooksOver spec aim budget tries xs zero zero Whole) (sym none)
    (looks_none spec aim budget tries zero (omega arith)) in
    finds_by spec aim budget tries rows zero zero Whole (NotFound 0 0 false) refl refl over refl apart all

pub look-requires-clause-kept : goal.look-requires-clause-kept
look-requires-clause-kept c = c.new-tables.ensures c.args.self.now.prepared.now c.push_first.new.bank

pub look-requires-clause-begun : goal.look-requires-clause-begun
look-requires-clause-begun c = (
  [],
  begun_none _ _ _ _ _ _ c.requires.walk c.push_first.new.bank c.clear.new.self.items c.args.sorts.now
      c.requires.sorts c.clear.ensures.items,
)

pub look-requires-clause-some : goal.look-requires-clause-some
look-requires-clause-some c = rows_some _ _ _ _ _ _ c.requires.walk c.push_first.new.bank c.new-row.result.items
    c.push_first.new.row.items c.in_ok-some.some c.args.sorts.now c.requires.sorts c.if-not-some.false
    c.in_ok-some.ensures.goes

pub returns-clause-finds : goal.returns-clause-finds
returns-clause-finds c apart every =
    let spec = c.args.self.now.prepared.now.spec in
    let aim = c.args.self.now.prepared.now.goal in
    let budget = c.args.self.now.budget in
    let tries = c.args.self.now.tries in
    let rows = substitutions spec aim c.args.self.now.depth in
    let zero : Tally = record { tried = 0; skipped = 0 } in
    let all : block spec.sig c.args.self.now.depth [] c.args.sorts.now ≡ rows = whole_block spec.sig
    c.args.self.now.depth c.args.sorts.now ∙ ap (λ ss. rows_of spec.sig c.args.self.now.depth ss)
    c.requires.sorts in
    let stand : AreTerms c.push_first.new.bank c.clear.new.self.items (trees_of []) = subst
    (λ ps. AreTerms c.push_first.new.bank ps (trees_of [])) (sym c.clear.ensures.items) tt in
    let over = subst (λ xs. LooksOver spec aim budget tries xs zero c.look.new.tally c.in_ok-look.look) all
    (c.in_ok-look.ensures.looks [] stand) in
    finds_by spec aim budget tries rows zero c.look.new.tally c.in_ok-look.look c.answer.result refl refl over
    c.answer.ensures apart every

pub returns-clause-found : goal.returns-clause-found
returns-clause-found c =
    let spec = c.args.self.now.prepared.now.spec in
    let aim = c.args.self.now.prepared.now.goal in
    let budget = c.args.self.now.budget in
    let tries = c.args.self.now.tries in
    let rows = substitutions spec aim c.args.self.now.depth in
    let zero : Tally = record { tried = 0; skipped = 0 } in
    let all : block spec.sig c.args.self.now.depth [] c.args.sorts.now ≡ rows = whole_block spec.sig
    c.args.self.now.depth c.args.sorts.now ∙ ap (λ ss. rows_of spec.sig c.args.self.now.depth ss)
    c.requires.sorts in
    let stand : AreTerms c.push_first.new.bank c.clear.new.self.items (trees_of []) = subst
    (λ ps. AreTerms c.push_first.new.bank ps (trees_of [])) (sym c.clear.ensures.items) tt in
    let over = subst (λ xs. LooksOver spec aim budget tries xs zero c.look.new.tally c.in_ok-look.look) all
    (c.in_ok-look.ensures.looks [] stand) in
    false_by spec aim budget tries rows zero c.look.new.tally c.in_ok-look.look c.answer.result refl over
    c.answer.ensures
