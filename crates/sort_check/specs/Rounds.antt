-- Sorts of variables by rounds over the equations of two variables.
use Rattle.std.specs.Prelude.{ℕ, zero, suc, List, [], ◌∷◌, Option, Some, None}
use Rattle.std.specs.List.{slice_set}
use Rattle.term_core.specs.declared.ids.SortId.{SortId}
use Rattle.spec_core.specs.Findings.{Search, nothing, test, then}
use Rattle.sort_check.specs.Entries.{sort_at, Differ}
use Rattle.sort_check.specs.declared.entries.Pair.{Pair}
use Rattle.sort_check.specs.declared.faults.SortFault.{SortFault}
use Rattle.sort_check.specs.declared.faults.SortFault.TheVariants.{Sort}
use Rattle.sort_check.specs.declared.faults.SortKind.TheVariants.{WrongSort}

-- an equation gives the sort of one side to the other if that has none
abbrev pub shared : List (Option SortId) → Pair → Option SortId → Option SortId
    → List (Option SortId)
shared known p (Some s) None = slice_set known p.right (Some s)
shared known p None (Some s) = slice_set known p.left (Some s)
shared known p (Some s) (Some u) = known
shared known p None None = known

abbrev pub after_pair : List (Option SortId) → Pair → List (Option SortId)
after_pair known p = shared known p (sort_at known p.left) (sort_at known p.right)

-- one round over the equations, in order
abbrev pub round_tests : List (Option SortId) → List Pair → Search SortFault
round_tests known [] = nothing
round_tests known (p ∷ ps) = then (test (Sort p.at WrongSort)
    (Differ (sort_at known p.left) (sort_at known p.right)))
    (round_tests (after_pair known p) ps)

abbrev pub after_round : List (Option SortId) → List Pair → List (Option SortId)
after_round known [] = known
after_round known (p ∷ ps) = after_round (after_pair known p) ps

-- this many rounds: after one that changes nothing, no further one finds or changes anything
abbrev pub rounds_tests : ℕ → List (Option SortId) → List Pair → Search SortFault
rounds_tests zero known ps = nothing
rounds_tests (suc n) known ps = then (round_tests known ps)
    (rounds_tests n (after_round known ps) ps)

abbrev pub after_rounds : ℕ → List (Option SortId) → List Pair → List (Option SortId)
after_rounds zero known ps = known
after_rounds (suc n) known ps = after_rounds n (after_round known ps) ps
