-- Keys that more than one node has, and nodes that no other node may close by its key.
use Rattle.std.specs.Prelude.{◌≡◌, ◌≢◌, ℕ, List, Option, Some, None, true, map, nat_eq, slice_get}
use Rattle.std.specs.HashSet.{HashSet, contains}
use Rattle.clause_core.specs.declared.clauses.Clause.{Clause}
use Rattle.script_trim.specs.Keys.{equation_key, key_of, MayClose}

-- there is a key at each place, and the set has those that are there at two places
pub record AreShared {S : Type 0} (keys : List (Option ℕ)) (shared : HashSet ℕ S) : Type 0 where
  pub some : (i : ℕ) → slice_get keys i ≡ Some None → ⊥
  pub twice :
      (i j k : ℕ) → i ≢ j → slice_get keys i ≡ Some (Some k) → slice_get keys j ≡ Some (Some k) →
      contains nat_eq shared k ≡ true

-- of these nodes no other one has a key by which it may close node i, which has this clause
abbrev pub IsAlone : List Clause → ℕ → Clause → Type 0
IsAlone nodes i c =
    (j : ℕ) (d : Clause) → j ≢ i → slice_get nodes j ≡ Some d →
    MayClose (map equation_key c.conclusions) (key_of d) → ⊥
