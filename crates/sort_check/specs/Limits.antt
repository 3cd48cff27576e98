-- How many rules a function may have.
use Rattle.std.specs.Prelude.{ℕ, ◌==◌, if◌then◌else◌}

-- the most rules of one function in a format, 1 or 2
abbrev pub most_rules_of_one : ℕ → ℕ
most_rules_of_one version = if version == 2 then 128 else 64
