-- How many instructions code has at most.
use Rattle.std.specs.Prelude.{ℕ, suc, ◌+◌, List, [], ◌∷◌}
use Rattle.term_core.specs.Tree.{Tree, tree_size}
use Rattle.spec_core.specs.declared.records.Guard.{Guard}
use Rattle.spec_core.specs.declared.records.Rule.{Rule}

-- the code of a term: a step for each symbol, and an end
abbrev pub term_length : Tree → ℕ
term_length t = suc (tree_size t)

abbrev pub tests_length : List Guard → ℕ
tests_length [] = 0
tests_length (g ∷ gs) = term_length g.test + tests_length gs

-- the code of a rule: that of the test of each guard, and that of the right side
abbrev pub rule_length : Rule → ℕ
rule_length r = tests_length r.guards + term_length r.right

abbrev pub rules_length : List Rule → ℕ
rules_length [] = 0
rules_length (r ∷ rs) = rule_length r + rules_length rs
