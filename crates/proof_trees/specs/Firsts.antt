-- The numbers of first children, of few nodes.
use Rattle.std.specs.Prelude.{◌≡◌, ◌+◌, ◌≤◌, ℕ, List, Some, length, map, slice_get}
use Rattle.std.specs.List.{range_with_len}
use Rattle.clause_core.specs.declared.answers.Children.{Children}
use Rattle.acceptance.specs.Strict.{first_child}

-- the children that links lead to have numbers of at most 10,000
abbrev pub AreFew : List Children → Type 0
AreFew links =
    (k : ℕ) (link : Children) → slice_get links k ≡ Some link →
    first_child links k + length link.clauses ≤ 10000

-- the number of the first child of each node
abbrev pub firsts_of : List Children → List ℕ
firsts_of links = map (first_child links) (range_with_len 0 (length links))
