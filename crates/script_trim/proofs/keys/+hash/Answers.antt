use Rattle.std.proofs.Common.{◌≡◌, ℕ, ◌+◌, ◌<◌, ◌≤◌, List, refl, ap, sym, ◌∙◌, subst, arith, length, get_or, drop}
use Rattle.std.proofs.lemmas.Option.{slice_get_read}
use Rattle.term_core.specs.Tree.{Tree, trees_of}
use Rattle.term_core.proofs.Items.{drop_here, drop_past}
use Rattle.term_core.proofs.Trees.{weight-member}
use Rattle.script_trim.specs.Keys.{hashed, hashed_all}
use Rattle.script_trim.proofs.keys.+hash.Goals as goal

next_term : (ts : List Tree) (i : ℕ) (t : Tree) (hash new all : ℕ) → i < length ts → t ≡ get_or ts i t →
    new ≡ hashed hash t → hashed_all hash (trees_of (drop i ts)) ≡ all →
    hashed_all new (trees_of (drop (i + 1) ts)) ≡ all
next_term ts i t hash new all lt is made before =
    ap (λ n. hashed_all n (trees_of (drop (i + 1) ts))) made
    ∙ sym (ap (λ us. hashed_all hash (trees_of us)) (drop_here ts i t
    (slice_get_read ts (length ts) i t refl lt is)))
    ∙ before

last_term : (ts : List Tree) (i hash all : ℕ) → length ts ≤ i → hashed_all hash (trees_of (drop i ts)) ≡ all →
    hash ≡ all
last_term ts i hash all le before = subst (λ us. hashed_all hash (trees_of us) ≡ all) (drop_past ts i le) before

pub hash_terms-hash_term-hash-requires : goal.hash_terms-hash_term-hash-requires
hash_terms-hash_term-hash-requires t c = (
  omega (
    arith,
    weight-member c.args.terms.now c.loop-term.term-index
        c.term-item.result c.loop-term-test.true c.term-item.is,
  ),
  tt,
)

pub hash_terms-loop-term-preserved : goal.hash_terms-loop-term-preserved
hash_terms-loop-term-preserved t c = next_term c.args.terms.now c.loop-term.term-index c.term-item.result
    c.loop-term.hash c.hash_term-hash.result _ c.loop-term-test.true c.term-item.is c.hash_term-hash.ensures
    c.loop-term.invariant

pub hash_terms-returns : goal.hash_terms-returns
hash_terms-returns t c = last_term c.args.terms.now c.loop-term.term-index c.loop-term.hash _ c.loop-term-test.false
    c.loop-term.invariant
