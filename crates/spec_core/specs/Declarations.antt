-- The signature that lists of declarations make.
use Rattle.std.specs.Prelude.{◌≡◌, ◌≢◌, ℕ, ◌+◌, ◌<◌, List, [], ◌∷◌, ◌++◌, codes, length}
use Rattle.std.specs.List.{AllByRecursion}
use Rattle.term_core.specs.declared.ids.SortId.{SortId}
use Rattle.spec_core.specs.declared.records.SymInfo.{SymInfo}
use Rattle.spec_core.specs.Sig.{Sig}
use Rattle.spec_core.specs.Small.{AllHaveSmallValues}

module _ {X : Type 0} (name_of : X → List ℕ) where
  -- the name is the name of none of the items
  abbrev pub IsNewAmong : List ℕ → List X → Type 0
  IsNewAmong name [] = Unit {0}
  IsNewAmong name (x ∷ xs) = (name ≡ name_of x → ⊥) × IsNewAmong name xs

  -- each item's name is the name of none of those seen and of none before it
  abbrev pub AreNewAfter : List X → List X → Type 0
  AreNewAfter seen [] = Unit {0}
  AreNewAfter seen (x ∷ xs) = IsNewAmong (name_of x) seen × AreNewAfter (seen ++ x ∷ []) xs

-- the same of the symbols of a table, and of names
abbrev pub IsNew : List ℕ → List (List ℕ × SymInfo) → Type 0
IsNew = IsNewAmong (λ (e : List ℕ × SymInfo). e.0)

abbrev pub AreFresh : List (List ℕ × SymInfo) → List (List ℕ × SymInfo) → Type 0
AreFresh = AreNewAfter (λ (e : List ℕ × SymInfo). e.0)

abbrev pub IsNewName : List ℕ → List (List ℕ) → Type 0
IsNewName = IsNewAmong (λ (name : List ℕ). name)

abbrev pub AreNewNames : List (List ℕ) → List (List ℕ) → Type 0
AreNewNames = AreNewAfter (λ (name : List ℕ). name)

abbrev pub bool_sort : SortId
bool_sort = record { 0 = 0 }

-- a constructor of `Bool`, which has no arguments
abbrev pub bool_symbol : SymInfo
bool_symbol = record { args = []; result = bool_sort }

abbrev pub bool_symbols : List (List ℕ × SymInfo)
bool_symbols = (codes "true", bool_symbol) ∷ (codes "false", bool_symbol) ∷ []

abbrev pub all_symbols : List (List ℕ × SymInfo) → List (List ℕ × SymInfo) → List (List ℕ × SymInfo)
all_symbols constructors functions = bool_symbols ++ (constructors ++ functions)

-- the sorts of a symbol are below this number
abbrev pub IsBelow : ℕ → List ℕ × SymInfo → Type 0
IsBelow n e = (e.1.result.0 < n) × AllByRecursion (λ (s : SortId). s.0 < n) e.1.args

-- the symbol's result is another sort than `Bool`
abbrev pub IsNotBool : List ℕ × SymInfo → Type 0
IsNotBool e = e.1.result.0 ≢ 0

module _ (sorts : List (List ℕ)) (constructors functions : List (List ℕ × SymInfo)) where
  -- the signature of these declarations, with `Bool` and its constructors before them
  abbrev pub declared_by : Sig
  declared_by = record {
    sorts = codes "Bool" ∷ sorts;
    table = all_symbols constructors functions;
    constructors = 2 + length constructors;
  }

  -- no name occurs twice among the sorts, nor among the symbols
  abbrev pub AreDistinct : Type 0
  AreDistinct =
      AreNewNames [] (codes "Bool" ∷ sorts) × AreFresh [] (all_symbols constructors functions)

-- the signature is made of declarations with distinct names and sorts in range, none of them a constructor of `Bool`,
-- and each sort has a value of at most 255 symbols
pub record IsDeclared (sig : Sig) : Type 0 where
  pub sorts : List (List ℕ)
  pub constructors : List (List ℕ × SymInfo)
  pub functions : List (List ℕ × SymInfo)
  pub is : sig ≡ declared_by sorts constructors functions
  pub distinct : AreDistinct sorts constructors functions
  pub constructors_in_range : AllByRecursion (IsBelow (1 + length sorts)) constructors
  pub functions_in_range : AllByRecursion (IsBelow (1 + length sorts)) functions
  pub no_more_booleans : AllByRecursion IsNotBool constructors
  pub small : AllHaveSmallValues sig
