-- How the two normal forms of a case are closed.
use Rattle.std.specs.Prelude.{◌≡◌, ℕ, suc, ◌+◌, ◌⊎◌, List, Option}
use Rattle.term_core.specs.Tree.{Tree, Trees, app, none, some}
use Rattle.term_core.specs.declared.ids.SortId.{SortId}
use Rattle.spec_core.specs.declared.records.Equation.{Equation}
use Rattle.spec_core.specs.Sig.{Sig, IsConstructor}
use Rattle.substitutions.specs.Substitution.{apply}
use Rattle.substitutions.specs.Fitting.{Fits}

-- both terms have the same constructor at the head
abbrev pub HaveSameHead : Sig → Tree → Tree → Type 0
HaveSameHead sig a b =
    (f : ℕ) × (ts : Trees) × (us : Trees) × IsConstructor sig f
    × (a ≡ app f ts) × (b ≡ app f us)

module _ (sig : Sig) (ctx : List SortId) (e : Equation) (over : List SortId) where
  -- the two terms, over the variables `over`, are the sides of an instance of the equation, whose
  -- variables have the sorts of ctx, and keep them
  abbrev pub IsInstance : Tree → Tree → Type 0
  IsInstance a b =
      (s : List (Option Tree)) × Fits sig ctx over s
      × (apply s e.left ≡ a) × (apply s e.right ≡ b)

  -- equal constructors are stripped, and each pair that is left is identical, or is an instance of
  -- the equation as written or swapped; with the number of constructors that are stripped, and of
  -- pairs that are closed by an instance. A pair with equal constructors is closed by no instance
  mutual
    pub data Closes : Tree → Tree → ℕ → ℕ → Type 0 where
      identical : {a b : Tree} → a ≡ b → Closes a b 0 0
      stripped :
          {f : ℕ} {ts us : Trees} {s i : ℕ} → IsConstructor sig f → ClosesAll ts us s i →
          Closes (app f ts) (app f us) (suc s) i
      instanced :
          {a b : Tree} → (HaveSameHead sig a b → ⊥) → IsInstance a b ⊎ IsInstance b a →
          Closes a b 0 1

    pub data ClosesAll : Trees → Trees → ℕ → ℕ → Type 0 where
      no_pairs : ClosesAll none none 0 0
      more_pairs :
          {t u : Tree} {ts us : Trees} {s i p j m n : ℕ} → Closes t u s i → ClosesAll ts us p j →
          m ≡ s + p → n ≡ i + j → ClosesAll (some t ts) (some u us) m n
