-- The last of the terms, by its root.
use Rattle.std.proofs.Common.{◌≡◌, ℕ, ◌-◌, ◌<◌, ◌==◌, true, false, List, [], ◌∷◌, length, get_or, ap, sym, ◌∙◌, arith}
use Rattle.term_core.specs.Tree.{Tree, app, trees_of}
use Rattle.term_core.specs.View.{tree_of}
use Rattle.term_core.proofs.Trees.{weight-member}
use Rattle.fitting_lists.specs.Spines.{one_more, last_run, run}
use Rattle.fitting_lists.proofs.Weights.{lighter}
use Rattle.fitting_lists.proofs.FittingSpines.{last_is, same_symbol, other_symbol}
use Rattle.fitting_lists.proofs.spines.next_along.Goals as goal

-- the list is tested to have items
no_empty : (ts : List Tree) → (length ts == 0) ≡ false → 0 < length ts
no_empty [] e = absurd (let q : true ≡ false = e in cc)
no_empty (t ∷ ts) e = omega arith

-- the run of the last of the terms, which is this one
run_at :
    (f : ℕ) (ts : List Tree) (t u : Tree) → 0 < length ts → t ≡ get_or ts (length ts - 1) t →
    u ≡ t → last_run f (trees_of ts) ≡ run f u
run_at f ts t u some is same =
    last_is f ts (length ts - 1) t (omega arith) is ∙ ap (run f) (sym same)

pub returns-in-Var-clause-run : goal.returns-in-Var-clause-run
returns-in-Var-clause-run c =
    run_at c.args.symbol.0 c.args.terms.now c.index-terms-terms.result _
    (no_empty c.args.terms.now (sym c.is_empty.ensures ∙ c.if-is_empty.false))
    c.index-terms-terms.is
    (ap tree_of (sym c.in-Var.is) ∙ c.last.view_is)

pub returns-then-eq-clause-run : goal.returns-then-eq-clause-run
returns-then-eq-clause-run c =
    let f = c.args.symbol.0 in
    let g = c.in-App.other.0 in
    let arguments = c.in-App.arguments in
    run_at f c.args.terms.now c.index-terms-terms.result (app g (trees_of arguments))
    (no_empty c.args.terms.now (sym c.is_empty.ensures ∙ c.if-is_empty.false))
    c.index-terms-terms.is
    (ap tree_of (sym c.in-App.is) ∙ c.last.view_is)
    ∙ same_symbol f g (trees_of arguments) (sym c.eq.ensures ∙ c.if-eq.true)
    ∙ ap (λ (ts : List Tree). one_more (last_run f (trees_of ts))) (sym c.as_slice.ensures)

pub returns-then-eq-clause-falls : goal.returns-then-eq-clause-falls
returns-then-eq-clause-falls c =
    let terms = c.args.terms.now in
    let last = c.index-terms-terms.result in
    let some = no_empty terms (sym c.is_empty.ensures ∙ c.if-is_empty.false) in
    let below : length terms - 1 < length terms = omega (arith, some) in
    let member = weight-member terms (length terms - 1) last below c.index-terms-terms.is in
    let less =
    lighter last c.in-App.other.0 c.in-App.arguments c.as_slice.result.now
    (ap tree_of (sym c.in-App.is) ∙ c.last.view_is) c.as_slice.ensures
    in
    omega (arith, member, less)

pub returns-else-eq-clause-run : goal.returns-else-eq-clause-run
returns-else-eq-clause-run c =
    let f = c.args.symbol.0 in
    let g = c.in-App.other.0 in
    let arguments = c.in-App.arguments in
    run_at f c.args.terms.now c.index-terms-terms.result (app g (trees_of arguments))
    (no_empty c.args.terms.now (sym c.is_empty.ensures ∙ c.if-is_empty.false))
    c.index-terms-terms.is
    (ap tree_of (sym c.in-App.is) ∙ c.last.view_is)
    ∙ other_symbol f g (trees_of arguments) (sym c.eq.ensures ∙ c.if-eq.false)
