-- The unguarded rule of least number that is used at the root of a term.
use Rattle.std.specs.Prelude.{◌≡◌, ℕ, suc, ◌<◌, List, [], Option, Some, None, slice_get}
use Rattle.term_core.specs.Tree.{Tree}
use Rattle.spec_core.specs.declared.records.Rule.{Rule}
use Rattle.spec_core.specs.declared.records.Spec.{Spec}
use Rattle.matching.specs.Matching.{IsMatch, HasNoMatch}
use Rattle.normalization.specs.Uses.{Use, IsStuck}

-- the rule of this index is the first unguarded one whose left side matches the term, by these entries
pub record Found (spec : Spec) (t : Tree) (index : ℕ) (entries : List (Option Tree)) : Type 0 where
  pub rule : Rule
  pub listed : slice_get spec.rules index ≡ Some rule
  pub unguarded : rule.guards ≡ []
  pub matched : IsMatch rule.left t entries
  pub least : (m : ℕ) (v : Tree) → m < suc index → Use spec m t v → ⊥

abbrev pub IsFound : Spec → Tree → Option ℕ → Type 0
IsFound spec t (Some index) = (entries : List (Option Tree)) × Found spec t index entries
IsFound spec t None = IsStuck spec t

-- the left side of no unguarded rule at the first n of these places matches the term
abbrev pub NoneBefore : List Rule → List ℕ → Tree → ℕ → Type 0
NoneBefore rules places t n = (j k : ℕ) (rule : Rule)
    → j < n → slice_get places j ≡ Some k → slice_get rules k ≡ Some rule → rule.guards ≡ []
    → HasNoMatch rule.left t
