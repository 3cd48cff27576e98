-- Parts of a term (subterms).
use Rattle.std.specs.Prelude.{◌≡◌, ◌⊎◌}
use Rattle.term_core.specs.Tree.{Tree, Trees, var, app, none, some}

-- the first tree is the second or occurs in it
abbrev mutual
  pub IsPart : Tree → Tree → Type 0
  IsPart t (var n) = t ≡ var n
  IsPart t (app f ts) = (t ≡ app f ts) ⊎ IsPartOfAny t ts

  pub IsPartOfAny : Tree → Trees → Type 0
  IsPartOfAny t none = ⊥
  IsPartOfAny t (some u us) = IsPart t u ⊎ IsPartOfAny t us
