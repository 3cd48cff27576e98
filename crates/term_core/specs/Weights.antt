-- Weights of symbols, by which the ordering of Knuth and Bendix compares terms.
use Rattle.std.specs.Prelude.{◌≤◌, ℕ, All, List}

-- each weight is 1 to 1000
abbrev pub AreWeights : List ℕ → Type 0
AreWeights weights = All (λ weight. (1 ≤ weight) × (weight ≤ 1000)) weights
