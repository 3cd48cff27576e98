-- Left sides as tests of slots.
use Rattle.std.specs.Prelude.{◌≡◌, ◌⊎◌, ℕ, suc, ◌≤◌, List, [], ◌∷◌, ◌++◌, Some, slice_get, length}
use Rattle.rule_code.specs.declared.tests.Test.{Test}
use Rattle.term_core.specs.Tree.{Tree, var, app, instance, trees_of}

-- whether the value of a slot is this symbol with this many arguments, which then become the next slots
abbrev pub test : ℕ → ℕ → ℕ → Test
test s f n = record { slot = s; sym = f; count = n }

-- the value of the slot is the test's symbol with these arguments
abbrev pub Passes : List Tree → Test → List Tree → Type 0
Passes env t us = (instance env (var t.slot) ≡ app t.sym (trees_of us)) × (length us ≡ t.count)

-- each test passes, and the slots grow from the first to the second list
abbrev pub Unpacks : List Tree → List Test → List Tree → Type 0
Unpacks env [] grown = grown ≡ env
Unpacks env (t ∷ ts) grown = (us : List Tree) × Passes env t us × Unpacks (env ++ us) ts grown

-- some test doesn't pass
abbrev pub Fails : List Tree → List Test → Type 0
Fails env [] = ⊥
Fails env (t ∷ ts) = ((us : List Tree) → Passes env t us → ⊥)
    ⊎ ((us : List Tree) × Passes env t us × Fails (env ++ us) ts)

-- the patterns of the slots, which are opened from number k on, in their order: a variable needs no test; a symbol is
-- tested, and the patterns of its arguments are those of the next slots
pub data Opens : List Tree → ℕ → List Test → List Tree → Type 0 where
  opened : {pats : List Tree} {k : ℕ} → length pats ≤ k → Opens pats k [] pats
  passed : {pats all : List Tree} {k : ℕ} {tests : List Test} (n : ℕ)
      → slice_get pats k ≡ Some (var n) → Opens pats (suc k) tests all → Opens pats k tests all
  opens : {pats all : List Tree} {k : ℕ} {tests : List Test} (f : ℕ) (us : List Tree)
      → slice_get pats k ≡ Some (app f (trees_of us)) → Opens (pats ++ us) (suc k) tests all
      → Opens pats k (test k f (length us) ∷ tests) all

-- each variable has a slot that is listed for it, which has the value of all its slots
abbrev pub HaveHomes : List Tree → List ℕ → List Tree → Type 0
HaveHomes all homes grown = (s n : ℕ) → slice_get all s ≡ Some (var n) → (h : ℕ)
    × (slice_get homes n ≡ Some h) × (instance grown (var h) ≡ instance grown (var s))
