-- Variables that are met in the order of their numbers, and how many numbers they take.
use Rattle.std.specs.Prelude.{ℕ, suc, ◌==◌, nat_lt, List, [], ◌∷◌, Option, Some, None, if◌then◌else◌}

-- the numbers taken with this variable, if this many were taken before it. There is none if
-- one was left out
abbrev pub taken_with : Option ℕ → ℕ → Option ℕ
taken_with None n = None
taken_with (Some k) n =
    if nat_lt n k then Some k else (if n == k then Some (suc k) else None)

abbrev pub taken_after : Option ℕ → List ℕ → Option ℕ
taken_after taken [] = taken
taken_after taken (n ∷ ns) = taken_after (taken_with taken n) ns
