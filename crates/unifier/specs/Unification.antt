-- Unifiers (Robinson, 1965).
use Rattle.std.specs.Prelude.{◌≡◌, ◌⊎◌, ℕ, List, Option, Some, slice_get}
use Rattle.term_core.specs.Tree.{Tree}
use Rattle.term_core.specs.declared.ids.SortId.{SortId}
use Rattle.spec_core.specs.Sig.{Sig}
use Rattle.spec_core.specs.Sorts.{Sorted}
use Rattle.term_core.specs.Variables.{Occurs}
use Rattle.substitutions.specs.Substitution.{entry, apply, IsComposed}

-- the substitution makes both terms the same
abbrev pub IsUnifier : Tree → Tree → List (Option Tree) → Type 0
IsUnifier a b s = apply s a ≡ apply s b

abbrev pub HaveNoUnifier : Tree → Tree → Type 0
HaveNoUnifier a b = (s : List (Option Tree)) → IsUnifier a b s → ⊥

-- it is a unifier, and every unifier is it followed by some substitution
pub record IsMostGeneral (a b : Tree) (s : List (Option Tree)) : Type 0 where
  pub unifies : IsUnifier a b s
  pub general :
      (t : List (Option Tree)) → IsUnifier a b t → (u : List (Option Tree)) × IsComposed s u t

-- the variable occurs in one of the terms
abbrev pub OccursInEither : Tree → Tree → ℕ → Type 0
OccursInEither a b n = Occurs n a ⊎ Occurs n b

-- each variable with an entry occurs in one of the terms, and so does each variable of an entry
abbrev pub IsRelevant : Tree → Tree → List (Option Tree) → Type 0
IsRelevant a b s =
    (n : ℕ) (t : Tree) → entry s n ≡ Some t →
    OccursInEither a b n × ((m : ℕ) → Occurs m t → OccursInEither a b m)

-- if both terms have one sort, each entry has its variable's sort
abbrev pub KeepsSorts : Tree → Tree → List (Option Tree) → Type 0
KeepsSorts a b s =
    (sig : Sig) (ctx : List SortId) (sort : SortId) →
    Sorted sig ctx a sort → Sorted sig ctx b sort →
    (n : ℕ) (t : Tree) → entry s n ≡ Some t →
    (r : SortId) × (slice_get ctx n ≡ Some r) × Sorted sig ctx t r
