use Rattle.std.proofs.Common.{◌≡◌, drop}
use Rattle.proof_words.specs.Lemmas.{goal_named}
use Rattle.proof_words.proofs.lemmas.goal_named.Given as goal

-- no goal before this place has the name
abbrev pub invariant-loop-place : goal.invariant-loop-place
invariant-loop-place l =
    goal_named l.name l.place (drop l.place l.spec.goals) ≡ goal_named l.name 0 l.spec.goals
