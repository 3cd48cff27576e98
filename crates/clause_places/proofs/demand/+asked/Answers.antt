use Rattle.std.proofs.Common.{◌≡◌, List, ℕ, [], ◌∷◌, ap, sym, ◌∙◌, take, arith}
use Rattle.term_core.specs.Tree.{Tree, app, trees_of}
use Rattle.term_core.specs.View.{tree_of}
use Rattle.term_core.proofs.Trees.{weight-member}
use Rattle.clause_places.specs.Asked.{asked_by}
use Rattle.clause_places.specs.Demand.{asked_in, asked_among}
use Rattle.clause_places.proofs.AskedAmong.{asked_in_call}
use Rattle.clause_places.proofs.Firsts.{first_as, first_before, first_behind}
use Rattle.clause_places.proofs.demand.+asked.Goals as goal

pub asked_in_term-returns-in-Some : goal.asked_in_term-returns-in-Some
asked_in_term-returns-in-Some t c =
    let spec = c.args.spec.now in
    let f = c.in-App.sym.0 in
    let args = c.in-App.args in
    let by = λ (ts : List Tree). asked_by spec (app f (trees_of ts)) in
    let is : app f (trees_of args) ≡ c.args.term.now =
    ap tree_of (sym c.in-App.is) ∙ c.term.view_is in
    let found = rw c.in-Some.is at c.in_ok-var.ensures in
    let here : take 1 (asked_among spec args) ≡ c.in-Some.var.0 ∷ [] =
    ap (λ ts. take 1 (asked_among spec ts)) (sym c.as_slice.ensures) ∙ found in
    ap (λ u. take 1 (asked_in spec u)) (sym is)
    ∙ ap (λ (ns : List ℕ). take 1 ns) (asked_in_call spec f args)
    ∙ first_before (asked_among spec args) (by args) c.in-Some.var.0 here

pub asked_in_term-returns : goal.asked_in_term-returns
asked_in_term-returns t c =
    let spec = c.args.spec.now in
    let f = c.in-App.sym.0 in
    let args = c.in-App.args in
    let by = λ (ts : List Tree). asked_by spec (app f (trees_of ts)) in
    let is : app f (trees_of args) ≡ c.args.term.now =
    ap tree_of (sym c.in-App.is) ∙ c.term.view_is in
    let none = rw c.in_default-2.is at c.in_ok-var.ensures in
    let before : take 1 (asked_among spec args) ≡ [] =
    ap (λ ts. take 1 (asked_among spec ts)) (sym c.as_slice.ensures) ∙ none in
    let same : take 1 (asked_in spec c.args.term.now) ≡ take 1 (by c.as_slice-2.result.now) =
    ap (λ u. take 1 (asked_in spec u)) (sym is)
    ∙ ap (λ (ns : List ℕ). take 1 ns) (asked_in_call spec f args)
    ∙ first_behind (asked_among spec args) (by args) before
    ∙ ap (λ ts. take 1 (by ts)) (sym c.as_slice-2.ensures) in
    first_as c.asked_by_call.result (asked_in spec c.args.term.now) (by c.as_slice-2.result.now)
    same c.asked_by_call.ensures

pub asked_in_terms-asked_in_term-requires : goal.asked_in_terms-asked_in_term-requires
asked_in_terms-asked_in_term-requires t c =
    let lighter =
    weight-member c.args.terms.now c.loop-term.term-index c.term-item.result
    c.loop-term-test.true c.term-item.is in
    (omega (arith, lighter), tt)
