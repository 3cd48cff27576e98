use Rattle.std.proofs.Common.{◌≡◌, ◌∙◌, ◌++◌, [], ap, subst}
use Rattle.spec_core.specs.Pairs.{pairs_of}
use Rattle.spec_core.specs.Declarations.{AreFresh, bool_symbols}
use Rattle.spec_core.proofs.Fresh.{fill_stop, fill_done, fill_not, is_not}
use Rattle.spec_core.proofs.building.fill.Goals as goal
use Rattle.spec_core.proofs.building.fill.Goals.{After-add_symbols-2}

begins : (c : After-add_symbols-2) → pairs_of c.args.table.now.entries ≡ []
begins c = ap (λ es. pairs_of es) c.requires

bools_in : (c : After-add_symbols-2) →
    (pairs_of c.add_symbols.new.table.entries ≡ pairs_of c.args.table.now.entries ++ bool_symbols)
    × AreFresh (pairs_of c.args.table.now.entries) bool_symbols
bools_in c =
    let h = c.in_ok-add_symbols.ensures.fresh c.if-not-branch.false in (
      h.0 ∙ ap (λ x. pairs_of c.args.table.now.entries ++ x) c.in_ok-first.ensures,
      subst (λ x. AreFresh (pairs_of c.args.table.now.entries) x) c.in_ok-first.ensures h.1,
    )

pub returns-then-not-branch-2-clause-repeated : goal.returns-then-not-branch-2-clause-repeated
returns-then-not-branch-2-clause-repeated c _ =
    let d = (goal.at.returns-then-not-branch-2-clause-repeated c).After-add_symbols-2 in
    fill_stop _ _ [] [] c.args.constructors.items c.args.functions.items (begins d) (bools_in d).0
    (c.in_ok-add_symbols-2.ensures.repeated (is_not c.in_ok-add_symbols-2.field-0 c.if-not-branch-2.true))

pub returns-clause-fresh : goal.returns-clause-fresh
returns-clause-fresh c =
    let d = (goal.at.returns-clause-fresh c).After-add_symbols-2 in
    let h = c.in_ok-add_symbols-2.ensures.fresh c.if-not-branch-2.false in
    fill_done _ _ _ _ c.args.constructors.items c.args.functions.items (begins d) (bools_in d).0 (bools_in d).1
    h.0 h.1 c.add_symbols-3.result c.add_symbols-3.ensures.fresh

pub returns-clause-repeated : goal.returns-clause-repeated
returns-clause-repeated c =
    let d = (goal.at.returns-clause-repeated c).After-add_symbols-2 in
    let h = c.in_ok-add_symbols-2.ensures.fresh c.if-not-branch-2.false in
    fill_not _ _ _ [] c.args.constructors.items c.args.functions.items (begins d) (bools_in d).0 h.0
    c.add_symbols-3.result c.add_symbols-3.ensures.repeated
