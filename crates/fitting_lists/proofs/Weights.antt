-- Weights of terms and of their arguments.
use Rattle.std.proofs.Common.{◌≡◌, ℕ, ◌+◌, List, ap, ◌∙◌}
use Rattle.term_core.specs.Tree.{Tree, app, trees_of}
use Rattle.term_core.specs.Measure.{weight, list_weight, list_weight_is}

-- the arguments of a term weigh less than the term
pub lighter :
    (t : Tree) (f : ℕ) (ts us : List Tree) → app f (trees_of ts) ≡ t → us ≡ ts →
    list_weight us + 1 ≡ weight t
lighter t f ts us e same =
    ap (λ vs. list_weight vs + 1) same ∙ ap (λ k. k + 1) (list_weight_is ts) ∙ ap weight e
