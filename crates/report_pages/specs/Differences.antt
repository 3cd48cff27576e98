-- The first place at which two terms differ.
use Rattle.std.specs.Prelude.{◌≡◌, ℕ, suc, ◌==◌, ◌≤◌, Bool, true, false, List, [], ◌∷◌, ◌++◌}
use Rattle.std.specs.Prelude.{Option, Some, None, if◌then◌else◌, length}
use Rattle.term_core.specs.Tree.{Tree, Trees, var, app, none, some, list_of}
use Rattle.ground_eval.specs.declared.answers.Eval.{Eval}
use Rattle.ground_eval.specs.declared.answers.Eval.TheVariants.{Value, Large, Spent}

-- a path into the argument of this number, or else the path that the other arguments give
abbrev pub in_argument : ℕ → Option (List ℕ) → Option (List ℕ) → Option (List ℕ)
in_argument number (Some path) others = Some (number ∷ path)
in_argument number None others = others

abbrev mutual
  -- the path to the first place, from the left, at which the terms have different symbols
  pub difference : Tree → Tree → Option (List ℕ)
  difference (var m) (var n) = if m == n then None else Some []
  difference (var m) (app g us) = Some []
  difference (app f ts) (var n) = Some []
  difference (app f ts) (app g us) = if f == g then difference_from 1 ts us else Some []

  -- the same of arguments, of which the first ones have this number
  pub difference_from : ℕ → Trees → Trees → Option (List ℕ)
  difference_from number none us = None
  difference_from number (some t ts) none = None
  difference_from number (some t ts) (some u us) =
      in_argument number (difference t u) (difference_from (suc number) ts us)

-- the path, if there is one, is added at the end
abbrev pub IsPushed : List ℕ → List ℕ → Option (List ℕ) → Bool → Type 0
IsPushed old new (Some path) true = new ≡ old ++ path
IsPushed old new None false = new ≡ old
IsPushed old new (Some path) false = ⊥
IsPushed old new None true = ⊥

-- no symbol of the term has more than 8 arguments
abbrev mutual
  pub HasFewBelow : Tree → Type 0
  HasFewBelow (var n) = Unit {0}
  HasFewBelow (app f ts) = (length (list_of ts) ≤ 8) × HaveFewBelow ts

  pub HaveFewBelow : Trees → Type 0
  HaveFewBelow none = Unit {0}
  HaveFewBelow (some t ts) = HasFewBelow t × HaveFewBelow ts

-- the same of a value that a side gives
abbrev pub IsNarrow : Eval → Type 0
IsNarrow (Value v n) = HasFewBelow v
IsNarrow (Large n) = Unit {0}
IsNarrow Spent = Unit {0}
