-- The rule on multisets (Dershowitz and Manna, 1979), on lists that are read as multisets.
use Rattle.std.specs.Prelude.{◌≤◌, List, ◌++◌, length, IsPermutation, Contains}

-- rest and other are what is left of xs and ys once all common members cancel, each as often as
-- both have it
pub record AreRests {X : Type 0} (xs ys rest other : List X) : Type 0 where
  pub common : List X
  pub of_first : IsPermutation xs (common ++ rest)
  pub of_second : IsPermutation ys (common ++ other)
  pub apart : (x : X) → Contains rest x → Contains other x → ⊥

module _ {X : Type 0} (greater : X → X → Type 0) where
  -- some member of the list is greater
  abbrev pub HasGreater : List X → X → Type 0
  HasGreater xs y = (x : X) × Contains xs x × greater x y

  abbrev pub EachHasGreater : List X → List X → Type 0
  EachHasGreater xs ys = (y : X) → Contains ys y → HasGreater xs y

  -- the rest of xs isn't empty, and each member of the rest of ys has a greater one in it
  pub record Exceeds (xs ys : List X) : Type 0 where
    pub rest : List X
    pub other : List X
    pub rests : AreRests xs ys rest other
    pub not_empty : 1 ≤ length rest
    pub has_greater : EachHasGreater rest other
