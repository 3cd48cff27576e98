-- Patterns and the values that they admit, where the number of a variable is of no account.
use Rattle.std.specs.Prelude.{◌≡◌, ◌⊎◌, List, [], ◌∷◌}
use Rattle.term_core.specs.Tree.{Tree, Trees, var, app, none, some, trees_of}

-- a variable admits every term, and an application those of its symbol whose arguments its
-- arguments admit
abbrev mutual
  pub Admits : Tree → Tree → Type 0
  Admits (var n) t = Unit {0}
  Admits (app f ps) (app g ts) = (f ≡ g) × AdmitAll ps ts
  Admits (app f ps) (var n) = ⊥

  pub AdmitAll : Trees → Trees → Type 0
  AdmitAll none none = Unit {0}
  AdmitAll (some p ps) (some t ts) = Admits p t × AdmitAll ps ts
  AdmitAll none (some t ts) = ⊥
  AdmitAll (some p ps) none = ⊥

-- some row admits the values
abbrev pub SomeAdmits : List (List Tree) → List Tree → Type 0
SomeAdmits [] vs = ⊥
SomeAdmits (row ∷ rows) vs = AdmitAll (trees_of row) (trees_of vs) ⊎ SomeAdmits rows vs
