-- What `check` writes of an accepted specification.
use Rattle.std.specs.Prelude.{◌≡◌, ℕ, List, ◌++◌, Bool, true, false, codes, length, sum_by}
use Rattle.std.specs.Fmt.{decimal}
use Rattle.spec_grammar.specs.declared.raw.RawSort.{RawSort}
use Rattle.spec_grammar.specs.declared.raw.RawSpec.{RawSpec}
use Rattle.file_replies.specs.declared.statuses.Status.{Status}
use Rattle.file_replies.specs.declared.statuses.Status.TheVariants.{Done}
use Rattle.spec_printing.specs.Printed.{printed}

-- how many constructors the sorts have
abbrev pub constructor_count : List RawSort → ℕ
constructor_count sorts = sum_by (λ (s : RawSort). length s.constructors) sorts

-- `accepted sorts S constructors C functions F rules R goals G`: how many of each the text declares
abbrev pub accepted_line : RawSpec → List ℕ
accepted_line raw =
    codes "accepted sorts " ++ decimal (length raw.sorts)
    ++ codes " constructors " ++ decimal (constructor_count raw.sorts)
    ++ codes " functions " ++ decimal (length raw.funs)
    ++ codes " rules " ++ decimal (length raw.rules)
    ++ codes " goals " ++ decimal (length raw.goals) ++ codes "\n"

-- the printed form if it is asked for, else the line
abbrev pub check_text : Bool → RawSpec → List ℕ
check_text true raw = printed raw
check_text false raw = accepted_line raw

-- this text, with the status Done
abbrev pub IsCheck : Bool → RawSpec → List ℕ → Status → Type 0
IsCheck print raw text status = (text ≡ check_text print raw) × (status ≡ Done)
