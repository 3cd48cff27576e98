use Rattle.std.proofs.Common.{◌≡◌, [], ap, ◌∙◌, take, arith}
use Rattle.term_core.proofs.Trees.{weight-member}
use Rattle.clause_places.specs.Asked.{variable_paths}
use Rattle.clause_places.specs.Demand.{looked_at}
use Rattle.clause_places.proofs.LookedAt.{looked_at_none, found_here, none_here}
use Rattle.clause_places.proofs.PatternReferences.{no_terms}
use Rattle.clause_places.proofs.patterns.+looking.Goals as goal

pub looked_at_in_term-returns-then-is_empty : goal.looked_at_in_term-returns-then-is_empty
looked_at_in_term-returns-then-is_empty t c =
    let sig = c.args.sig.now in
    let paths = variable_paths c.args.term.now in
    let none : c.args.patterns.now ≡ [] =
    no_terms c.as_slice.result.now c.args.patterns.now c.is_empty.result c.as_slice.ensures
    c.is_empty.ensures c.if-is_empty.true in
    ap (λ ts. take 1 (looked_at sig ts paths)) none
    ∙ ap (λ ns. take 1 ns) (looked_at_none sig paths)

pub looked_at_in_terms-looked_at_in_term-requires :
    goal.looked_at_in_terms-looked_at_in_term-requires
looked_at_in_terms-looked_at_in_term-requires t c =
    let lighter =
    weight-member c.args.terms.now c.loop-index.index c.index-terms-index.result
    c.loop-index-test.true c.index-terms-index.is in
    (omega (arith, lighter), tt)

pub looked_at_in_terms-returns-in-Some : goal.looked_at_in_terms-returns-in-Some
looked_at_in_terms-returns-in-Some t c =
    found_here c.args.sig.now c.args.patterns.now c.args.terms.now c.in_ok-below.below
    c.loop-index.index c.index-terms-index.result c.loop-index-test.true c.index-terms-index.is
    c.in_ok-below.ensures c.in-Some.var.0 c.loop-index.invariant
    (rw c.in-Some.is at c.in_ok-var.ensures)

pub looked_at_in_terms-loop-index-preserved : goal.looked_at_in_terms-loop-index-preserved
looked_at_in_terms-loop-index-preserved t c =
    none_here c.args.sig.now c.args.patterns.now c.args.terms.now c.in_ok-below.below
    c.loop-index.index c.index-terms-index.result c.loop-index-test.true c.index-terms-index.is
    c.in_ok-below.ensures c.loop-index.invariant (rw c.in_default.is at c.in_ok-var.ensures)
