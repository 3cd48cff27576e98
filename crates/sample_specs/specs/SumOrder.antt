-- An order of naturals with addition, for worked examples: by values that grow with each part of a
-- term (Lankford 1975, polynomial interpretations). It orders the terms of every specification.
use Rattle.std.specs.Prelude.{◌≡◌, ℕ, ◌+◌, ◌<◌, ◌==◌, if◌then◌else◌}
use Rattle.term_core.specs.Tree.{Tree, Trees, var, app, none, some}

-- the value of a term, where the variables have these values: one more than those of its arguments
-- together; plus, the symbol 4, counts its first argument twice, and one more for itself
abbrev mutual
  pub value : (ℕ → ℕ) → Tree → ℕ
  value env (var x) = env x
  value env (app f ts) = 1 + (if f == 4 then 1 + first_value env ts else 0) + values env ts

  pub first_value : (ℕ → ℕ) → Trees → ℕ
  first_value env none = 0
  first_value env (some t ts) = value env t

  pub values : (ℕ → ℕ) → Trees → ℕ
  values env none = 0
  values env (some t ts) = value env t + values env ts

-- t has the greater value, whatever values the variables have
abbrev pub AboveInSums : Tree → Tree → Type 0
AboveInSums t s = (env : ℕ → ℕ) → value env s < value env t

-- the rank of a ground term is its value
abbrev pub RankInSums : ℕ → ℕ → Tree → ℕ → Type 0
RankInSums symbols depth t r = value (λ x. 0) t ≡ r
