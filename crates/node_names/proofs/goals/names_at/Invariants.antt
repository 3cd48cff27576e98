use Rattle.std.proofs.Common.{◌≡◌, ℕ, map, take}
use Rattle.std.specs.Prelude.{codes, slice_index_or}
use Rattle.term_core.specs.Variables.{numbers_of}
use Rattle.spec_core.specs.TermText.{variable_names}
use Rattle.node_names.proofs.goals.names_at.Given as goal

abbrev pub invariant-loop-number : goal.invariant-loop-number
invariant-loop-number l =
    l.made.items ≡ map (λ (n : ℕ). slice_index_or (variable_names l.vars) n (codes "v"))
    (numbers_of (take l.number-index l.numbers))
