-- Each argument of a pattern becomes that of the term, and weighs less than all of them.
use Rattle.std.proofs.Common.{◌≡◌, ℕ, zero, suc, ◌-◌, ◌<◌, List, [], ◌∷◌, length, get_or, ap, sym, ◌∙◌, arith}
use Rattle.term_core.specs.Tree.{Tree, some, trees_of, instance, instances}
use Rattle.term_core.proofs.Trees.{weight-member}
use Rattle.fitting_lists.proofs.along.last_ones.Goals as goal

becomes_at :
    (list ps ts : List Tree) (i : ℕ) (p t : Tree) → i < length ps → i < length ts →
    p ≡ get_or ps i p → t ≡ get_or ts i t → instances list (trees_of ps) ≡ trees_of ts →
    instance list p ≡ t
becomes_at list [] ts i p t lt less is same e = absurd (omega arith)
becomes_at list (q ∷ qs) [] i p t lt less is same e = absurd (omega arith)
becomes_at list (q ∷ qs) (u ∷ us) zero p t lt less is same e =
    let all : some (instance list q) (instances list (trees_of qs)) ≡ some u (trees_of us) = e in
    let first : instance list q ≡ u = cc in
    ap (instance list) is ∙ first ∙ sym same
becomes_at list (q ∷ qs) (u ∷ us) (suc i) p t lt less is same e =
    let all : some (instance list q) (instances list (trees_of qs)) ≡ some u (trees_of us) = e in
    becomes_at list qs us i p t (omega arith) (omega arith) is same (cc)

pub returns-clause-becomes : goal.returns-clause-becomes
returns-clause-becomes c =
    λ list e.
    becomes_at list c.args.patterns.now c.args.terms.now (length c.args.patterns.now - 1)
    c.index-patterns-count.result c.index-terms-count.result (omega arith) (omega arith)
    c.index-patterns-count.is c.index-terms-count.is e

pub returns-clause-lighter : goal.returns-clause-lighter
returns-clause-lighter c =
    let patterns = c.args.patterns.now in
    let below : length patterns - 1 < length patterns = omega arith in
    let member =
    weight-member patterns (length patterns - 1) c.index-patterns-count.result below
    c.index-patterns-count.is
    in
    omega (arith, member)
