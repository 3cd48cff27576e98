-- What matching finds is the only list, and if it finds nothing there is none.
use Rattle.std.proofs.Common.{◌∷◌, []}
use Rattle.term_core.specs.References.{terms_of}
use Rattle.fitting_lists.proofs.TermLists.{first_fails, one_pattern, no_list, only_list}
use Rattle.fitting_lists.proofs.matcher.Matcher.rewriting.Goals as goal

pub returns-then-not-branch : goal.returns-then-not-branch
returns-then-not-branch c =
    let side = c.args.side.now in
    let term = c.args.term.now in
    let old = c.reset.new.self in
    let new = c.bind.new.bindings in
    no_list c.args.count (side ∷ []) (term ∷ []) old new c.in_ok-reset.ensures
    (first_fails old new side term [] [] c.in_ok-bind.field-0 c.if-not-branch.true
    c.in_ok-bind.ensures)

pub returns : goal.returns
returns c =
    let side = c.args.side.now in
    let term = c.args.term.now in
    let old = c.reset.new.self in
    let new = c.bind.new.bindings in
    only_list c.args.count (side ∷ []) (term ∷ []) c.requires old new c.in_ok-bind.field-0
    (terms_of c.list.new.found.items) c.in_ok-reset.ensures c.if-not-branch.false
    (one_pattern old new side term c.in_ok-bind.field-0 c.in_ok-bind.ensures)
    c.in_ok-list.ensures
