use Rattle.std.proofs.Common.{◌≡◌, ℕ, ◌<◌, List, sym, subst, arith}
use Rattle.spec_grammar.specs.RawTree.{RawTree, word, raw_trees}
use Rattle.spec_grammar.specs.RawMeasure.{weight, list_weight, list_weight_is}
use Rattle.step_cases.proofs.terms.+numbered.Goals as goal

args_fall : (args : List RawTree) (name : List ℕ) (at : ℕ) (t : RawTree) → word name at (raw_trees args) ≡ t →
    list_weight args < weight t
args_fall args name at t e = subst (λ x. list_weight args < weight x) e (omega (arith, list_weight_is args))

pub numbered-push_numbered-requires : goal.numbered-push_numbered-requires
numbered-push_numbered-requires t c =
    let h : list_weight c.as_slice.result.now < weight c.args.raw.now = subst
    (λ xs. list_weight xs < weight c.args.raw.now) (sym c.as_slice.ensures)
    (args_fall c.raw.inside.args c.raw.inside.name c.raw.inside.at c.args.raw.now c.raw.view_is) in
    (omega (arith, h), tt)
