-- How the terms of a specification are ordered.
use Rattle.std.specs.Prelude.{◌≡◌, ℕ, List, map, length}
use Rattle.term_core.specs.Precedence.{IsPrecedence, written_by_number}
use Rattle.term_core.specs.Weights.{AreWeights}
use Rattle.spec_core.specs.declared.records.SymInfo.{SymInfo}
use Rattle.spec_core.specs.declared.records.OrderInfo.{OrderInfo}
use Rattle.spec_core.specs.declared.records.OrderInfo.TheVariants.{Path, Weights}
use Rattle.spec_core.specs.Sig.{Sig}

-- each symbol has a level and a status, and these make a precedence; or each symbol has a weight
abbrev pub IsOrderOf : Sig → OrderInfo → Type 0
IsOrderOf sig (Path levels statuses) =
    (length levels ≡ length sig.table)
    × IsPrecedence (record { levels = levels; statuses = statuses })
IsOrderOf sig (Weights weights) = (length weights ≡ length sig.table) × AreWeights weights

-- how many arguments each symbol has
abbrev pub arities : Sig → List ℕ
arities sig = map (λ (e : List ℕ × SymInfo). length e.1.args) sig.table

-- the path ordering in which each symbol's level is its number, and arguments are compared as written
abbrev pub order_by_number : Sig → OrderInfo
order_by_number sig =
    let o = written_by_number (arities sig) in Path o.levels o.statuses
