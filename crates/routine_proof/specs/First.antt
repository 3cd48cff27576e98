-- The first item of a list that has a result.
use Rattle.std.specs.Prelude.{◌⊎◌, List, [], ◌∷◌, Option, Some, None}
use Rattle.std.specs.List.{AllByRecursion}

module _ {A R : Type 0} (is : A → R → Type 0) where
  abbrev pub HasNone : A → Type 0
  HasNone a = (r : R) → is a r → ⊥

  -- the result is that of the first item that has one
  abbrev pub FirstIs : List A → R → Type 0
  FirstIs [] r = ⊥
  FirstIs (a ∷ rest) r = is a r ⊎ (HasNone a × FirstIs rest r)

  -- no item has a result
  abbrev pub NoneIs : List A → Type 0
  NoneIs items = AllByRecursion HasNone items

  -- the result of the first item that has one, or that none has one
  abbrev pub IsFirst : List A → Option R → Type 0
  IsFirst items (Some r) = FirstIs items r
  IsFirst items None = NoneIs items
