-- The values that a search tries, in their order.
use Rattle.std.specs.Prelude.{ℕ, zero, suc, ◌==◌, nat_le, List, [], ◌∷◌, Bool, if◌then◌else◌, map, filter}
use Rattle.std.specs.List.{flat_map}
use Rattle.term_core.specs.Tree.{Tree, app, trees_of, tree_size}
use Rattle.term_core.specs.declared.ids.SortId.{SortId}
use Rattle.term_core.specs.declared.ids.SymId.{SymId}
use Rattle.spec_core.specs.declared.records.SymInfo.{SymInfo}
use Rattle.spec_core.specs.declared.records.Goal.{Goal}
use Rattle.spec_core.specs.declared.records.Spec.{Spec}
use Rattle.spec_core.specs.Sig.{Sig}
use Rattle.spec_core.specs.WellSorted.{sorts_of}

-- one member of each list, the first list slowest
abbrev pub product : List (List Tree) → List (List Tree)
product [] = [] ∷ []
product (xs ∷ xss) = flat_map (λ x. map (λ ys. x ∷ ys) (product xss)) xs

-- the constructors of the sort with their argument sorts, where `left` constructors are still to come and the next number is f
abbrev pub constructors_from : ℕ → ℕ → SortId → List (List ℕ × SymInfo) → List (ℕ × List SortId)
constructors_from f zero s es = []
constructors_from f (suc left) s [] = []
constructors_from f (suc left) s (e ∷ es) =
    if e.1.result.0 == s.0 then (f, e.1.args) ∷ constructors_from (suc f) left s es
    else constructors_from (suc f) left s es

abbrev pub constructors_of : Sig → SortId → List (ℕ × List SortId)
constructors_of sig s = constructors_from 0 sig.constructors s sig.table

-- the numbers of the sort's constructors
abbrev pub symbol_number : SymId → ℕ
symbol_number f = f.0

abbrev pub constructor_numbers : Sig → SortId → List ℕ
constructor_numbers sig s = map (λ (c : ℕ × List SortId). c.0) (constructors_of sig s)

abbrev pub is_small : Tree → Bool
is_small t = nat_le (tree_size t) 255

-- the values of the sort with at most this depth
abbrev pub values : Sig → ℕ → SortId → List Tree
values sig zero s = []
values sig (suc depth) s = filter is_small
    (flat_map (λ (c : ℕ × List SortId). map
    (λ ts. app c.0 (trees_of ts)) (product (map (λ u. values sig depth u) c.1)))
    (constructors_of sig s))

abbrev pub substitutions : Spec → Goal → ℕ → List (List Tree)
substitutions spec goal depth = product (map (λ s. values spec.sig depth s) (sorts_of goal.vars))
