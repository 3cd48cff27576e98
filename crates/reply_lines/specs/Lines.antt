-- The lines that are written of a report, by its claims or by the reason why it isn't accepted.
use Rattle.std.specs.Prelude.{ℕ, List, ◌++◌, Bool, true, false, codes, count_by}
use Rattle.std.specs.Fmt.{decimal}
use Rattle.clause_core.specs.declared.answers.Why.{Why}
use Rattle.clause_core.specs.declared.answers.Why.TheVariants.{NoSuchNode, NoSuchPlace, NoSuchRule, DoesNotFit}
use Rattle.clause_core.specs.declared.answers.Why.TheVariants.{NotProvedBefore, Sort, NotCovering, Limit}
use Rattle.clause_core.specs.declared.reports.Claim.{Claim}
use Rattle.clause_core.specs.declared.reports.Outcome.{Outcome}
use Rattle.clause_core.specs.declared.reports.Outcome.TheVariants.{Proved, Refuted, Open}
use Rattle.clause_core.specs.declared.reports.ReplayWhy.{ReplayWhy}
use Rattle.clause_core.specs.declared.reports.ReplayWhy.TheVariants.{UnknownGoal, GoalTwice, Step, Pending, NotSmaller}
use Rattle.clause_core.specs.declared.reports.ReplayWhy.TheVariants.{Variables, NotFalse}

abbrev pub is_proved : Outcome → Bool
is_proved (Proved block) = true
is_proved (Refuted index values) = false
is_proved (Open budget) = false

abbrev pub is_refuted : Outcome → Bool
is_refuted (Proved block) = false
is_refuted (Refuted index values) = true
is_refuted (Open budget) = false

abbrev pub is_open : Outcome → Bool
is_open (Proved block) = false
is_open (Refuted index values) = false
is_open (Open budget) = true

-- how many of the claims have such an outcome
abbrev pub claim_count : (Outcome → Bool) → List Claim → ℕ
claim_count test claims = count_by (λ (claim : Claim). test claim.outcome) claims

-- `yes: proved P, refuted R, open O`: how many claims of each kind the report has
abbrev pub yes_line : List Claim → List ℕ
yes_line claims =
    codes "yes: proved " ++ decimal (claim_count is_proved claims)
    ++ codes ", refuted " ++ decimal (claim_count is_refuted claims)
    ++ codes ", open " ++ decimal (claim_count is_open claims) ++ codes "\n"

-- `load N: proved P, refuted R, open O`, of the report of this many goals with these claims, and
-- `replay: yes`
abbrev pub load_lines : ℕ → List Claim → List ℕ
load_lines goals claims =
    codes "load " ++ decimal goals
    ++ codes ": proved " ++ decimal (claim_count is_proved claims)
    ++ codes ", refuted " ++ decimal (claim_count is_refuted claims)
    ++ codes ", open " ++ decimal (claim_count is_open claims) ++ codes "\nreplay: yes\n"

-- `no line L: WHY`
abbrev pub no_line : ℕ → List ℕ → List ℕ
no_line line why = codes "no line " ++ decimal line ++ codes ": " ++ why ++ codes "\n"

-- the words for a step that isn't defined at its node
abbrev pub step_text : Why → List ℕ
step_text NoSuchNode = codes "no such node"
step_text NoSuchPlace = codes "no such place"
step_text NoSuchRule = codes "no such rule"
step_text DoesNotFit = codes "does not fit"
step_text NotProvedBefore = codes "not proved before"
step_text Sort = codes "sort"
step_text NotCovering = codes "not covering"
step_text Limit = codes "limit"

-- the words for each reason
abbrev pub why_text : ReplayWhy → List ℕ
why_text UnknownGoal = codes "unknown goal"
why_text GoalTwice = codes "goal twice"
why_text (Step why) = step_text why
why_text Pending = codes "pending"
why_text NotSmaller = codes "not smaller"
why_text Variables = codes "variables"
why_text NotFalse = codes "not false"
