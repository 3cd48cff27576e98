-- Chains of uses, each at some place of the term.
use Rattle.std.specs.Prelude.{ℕ}
use Rattle.term_core.specs.Tree.{Tree, Trees, app, none, some}

-- the one term becomes the other one by uses of the relation, first below its root; the one terms
-- become the other ones, each on its own
mutual
  pub data Chain (uses : Tree → Tree → Type 0) : Tree → Tree → Type 0 where
    stays : (t : Tree) → Chain uses t t
    below :
        (f : ℕ) (ts us : Trees) (r : Tree) →
        Chains uses ts us → Chain uses (app f us) r → Chain uses (app f ts) r
    at_root : (t s r : Tree) → uses t s → Chain uses s r → Chain uses t r

  pub data Chains (uses : Tree → Tree → Type 0) : Trees → Trees → Type 0 where
    nothing : Chains uses none none
    each :
        (t u : Tree) (ts us : Trees) →
        Chain uses t u → Chains uses ts us → Chains uses (some t ts) (some u us)
