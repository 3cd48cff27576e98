-- Keys: numbers that tell most clauses apart that can't close a node as they are. Apart from speed,
-- all that matters of a key is that it is one number for an equation and its swapped form.
use Rattle.std.specs.Prelude.{ℕ, ◌+◌, ◌*◌, ◌/◌, ◌%◌, ◌^◌, min, max, bit_xor, List, [], ◌∷◌, Option, Some, None}
use Rattle.std.specs.Prelude.{Contains}
use Rattle.term_core.specs.Tree.{Tree, Trees, var, app, none, some}
use Rattle.spec_core.specs.declared.records.Equation.{Equation}
use Rattle.clause_core.specs.declared.clauses.Clause.{Clause}

-- one more number in a hash
unfoldable pub stirred : ℕ → ℕ → ℕ
stirred hash number = bit_xor hash number * 0x9e3779b97f4a7c15 % 2 ^ 64

-- the hash with the symbols and the variables of a term, from the left
abbrev mutual
  pub hashed : ℕ → Tree → ℕ
  hashed hash (var n) = stirred hash n
  hashed hash (app f ts) = hashed_all (stirred hash (f + 2 ^ 32)) ts

  pub hashed_all : ℕ → Trees → ℕ
  hashed_all hash none = hash
  hashed_all hash (some t ts) = hashed_all (hashed hash t) ts

-- one number for two hashes, in either order
unfoldable pub both_hashed : ℕ → ℕ → ℕ
both_hashed hash other = stirred (min hash other) (max hash other) / 2 ^ 32

-- the same for an equation and its swapped form
abbrev pub equation_key : Equation → ℕ
equation_key e = both_hashed (hashed 0 e.left) (hashed 0 e.right)

abbrev pub first_key : List Equation → Option ℕ
first_key [] = None
first_key (e ∷ es) = Some (equation_key e)

-- the key of the first conclusion, if there is one
abbrev pub key_of : Clause → Option ℕ
key_of c = first_key c.conclusions

-- a clause of this key may close, as it is, a node whose conclusions have these keys: its first
-- conclusion would be among them
abbrev pub MayClose : List ℕ → Option ℕ → Type 0
MayClose keys None = Unit {0}
MayClose keys (Some key) = Contains keys key
