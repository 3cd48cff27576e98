-- What matching finds is the only list, and if a side has no match there is none.
use Rattle.std.proofs.Common.{◌∷◌, [], subst}
use Rattle.term_core.specs.References.{terms_of}
use Rattle.matching.specs.Extending.{BindsAll}
use Rattle.fitting_lists.specs.Fitting.{both_sides}
use Rattle.fitting_lists.proofs.TermLists.{first_fails, two_patterns, no_list, only_list}
use Rattle.fitting_lists.proofs.matcher.Matcher.fitting.Goals as goal

pub returns-then-not-branch : goal.returns-then-not-branch
returns-then-not-branch c =
    let equation = c.args.equation.now in
    let left = c.args.left.now in
    let right = c.args.right.now in
    let old = c.reset.new.self in
    let new = c.bind.new.bindings in
    no_list c.args.count (both_sides equation) (left ∷ right ∷ []) old new c.in_ok-reset.ensures
    (first_fails old new equation.left left (equation.right ∷ []) (right ∷ [])
    c.in_ok-bind.field-0 c.if-not-branch.true c.in_ok-bind.ensures)

pub returns-then-not-branch-2 : goal.returns-then-not-branch-2
returns-then-not-branch-2 c =
    let equation = c.args.equation.now in
    let left = c.args.left.now in
    let right = c.args.right.now in
    let old = c.reset.new.self in
    let mid = c.bind.new.bindings in
    let new = c.bind-2.new.bindings in
    let binds = two_patterns old mid new equation.left equation.right left right
    c.in_ok-bind.field-0 c.in_ok-bind-2.field-0 c.if-not-branch.false c.in_ok-bind.ensures
    c.in_ok-bind-2.ensures in
    let terms = left ∷ right ∷ [] in
    no_list c.args.count (both_sides equation) terms old new c.in_ok-reset.ensures
    (subst (λ b. BindsAll old (both_sides equation) terms new b) c.if-not-branch-2.true binds)

pub returns : goal.returns
returns c =
    let equation = c.args.equation.now in
    let left = c.args.left.now in
    let right = c.args.right.now in
    let old = c.reset.new.self in
    let mid = c.bind.new.bindings in
    let new = c.bind-2.new.bindings in
    only_list c.args.count (both_sides equation) (left ∷ right ∷ []) c.requires old new
    c.in_ok-bind-2.field-0 (terms_of c.list.new.found.items) c.in_ok-reset.ensures
    c.if-not-branch-2.false
    (two_patterns old mid new equation.left equation.right left right c.in_ok-bind.field-0
    c.in_ok-bind-2.field-0 c.if-not-branch.false c.in_ok-bind.ensures c.in_ok-bind-2.ensures)
    c.in_ok-list.ensures
