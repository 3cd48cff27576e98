use Rattle.std.proofs.Common.{take, ◌≢◌}
use Rattle.std.specs.List.{AllByRecursion}
use Rattle.proof_script.proofs.place_words.split_dot.Given as goal

-- no byte before this place is a dot
abbrev pub invariant-loop-end : goal.invariant-loop-end
invariant-loop-end l = AllByRecursion (λ b. b ≢ 46) (take l.end l.bytes)
