-- Entries: heads with arguments.
use Rattle.std.specs.Prelude.{◌≡◌, ◌⊎◌, ℕ, ◌<◌, ◌^◌, List, [], ◌∷◌, ◌++◌, Some, length, map, slice_get}

pub record Entry (H A : Type 0) : Type 0 where
  pub head : H
  pub args : List A

abbrev pub entry : {H A : Type 0} → H → List A → Entry H A
entry h xs = record { head = h; args = xs }

-- the hashes of entries
abbrev pub hashes_by : {H A : Type 0} → (H → List A → ℕ) → List (Entry H A) → List ℕ
hashes_by {H} {A} hash_of es = map (λ (e : Entry H A). hash_of e.head e.args) es

module _ {X : Type 0} where
  -- each entry is there once, and places have 32 bits
  pub record AreShared (es : List X) : Type 0 where
    pub distinct : (j k : ℕ) (e : X) → slice_get es j ≡ Some e → slice_get es k ≡ Some e → j ≡ k
    pub few : length es < 2 ^ 32

  -- no place has the entry
  abbrev pub IsNowhere : List X → X → Type 0
  IsNowhere es e = (k : ℕ) → slice_get es k ≡ Some e → ⊥

  -- the entry is added after the others, or nothing is
  abbrev pub IsAdded : List X → List X → X → Type 0
  IsAdded old new e = (new ≡ old) ⊎ (new ≡ old ++ e ∷ [])
