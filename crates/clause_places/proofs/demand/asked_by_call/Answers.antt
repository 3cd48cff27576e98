use Rattle.std.proofs.Common.{◌≡◌, List, ℕ, ap, sym, ◌∙◌, take}
use Rattle.term_core.specs.Tree.{Tree, app, trees_of}
use Rattle.clause_places.specs.Asked.{variable_paths_from, asked_by}
use Rattle.clause_places.specs.Demand.{looked_at, left_sides_of}
use Rattle.clause_places.proofs.LookedAt.{asked_by_patterns}
use Rattle.clause_places.proofs.Firsts.{first_as}
use Rattle.clause_places.proofs.demand.asked_by_call.Goals as goal

pub returns : goal.returns
returns c =
    let spec = c.args.spec.now in
    let f = c.args.sym.0 in
    let args = trees_of c.args.args.now in
    let made = c.in_ok-patterns.patterns in
    let looked = λ (ts : List Tree). looked_at spec.sig ts (variable_paths_from 1 args) in
    let patterns : left_sides_of spec.rules f ≡ made =
    ap (λ rules. left_sides_of rules f) (sym c.as_slice.ensures)
    ∙ sym c.in_ok-patterns.ensures in
    let same : asked_by spec (app f args) ≡ looked made =
    asked_by_patterns spec f args ∙ ap looked patterns in
    first_as c.looked_at_in_terms.result (asked_by spec (app f args)) (looked made)
    (ap (λ (ns : List ℕ). take 1 ns) same) c.looked_at_in_terms.ensures
