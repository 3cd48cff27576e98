-- What an event writes in plain text. Its margin is two blanks for each case around it.
use Rattle.std.specs.Prelude.{ℕ, List, [], ◌++◌, ◌-◌, length, take, codes}
use Rattle.page_core.specs.declared.parts.Part.{Part}
use Rattle.page_core.specs.declared.parts.Part.TheVariants.{Document, Goals, Goal, GoalHeading}
use Rattle.page_core.specs.declared.parts.Part.TheVariants.{Step, Case, CaseHeading}

-- the margin around a case
abbrev pub outer_margin : List ℕ → List ℕ
outer_margin margin = take (length margin - 2) margin

-- the margin in a part
abbrev pub margin_within : Part → List ℕ → List ℕ
margin_within Case margin = margin ++ codes "  "
margin_within _ margin = margin

-- the margin after a part
abbrev pub margin_after : Part → List ℕ → List ℕ
margin_after Case margin = outer_margin margin
margin_after _ margin = margin

-- What is written where a part begins. A step is four blanks to the right of its node, and the heading of a case
-- as far to the left as the node that the case comes from.
abbrev pub line_begin : Part → List ℕ → List ℕ
line_begin Document margin = []
line_begin Goals margin = []
line_begin (Goal goal) margin = []
line_begin GoalHeading margin = codes "\n" ++ margin
line_begin Step margin = margin ++ codes "    "
line_begin Case margin = []
line_begin CaseHeading margin = outer_margin margin
line_begin _ margin = margin

-- what is written where a part ends
abbrev pub line_end : Part → List ℕ
line_end Document = []
line_end Goals = []
line_end (Goal goal) = []
line_end Case = []
line_end _ = codes "\n"
