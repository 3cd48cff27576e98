-- What is written for an accepted specification, and the status with it.
use Rattle.std.specs.Prelude.{◌≡◌, ◌≤◌, ℕ, Bool, true, false, List, [], ◌∷◌, Option, Some, None, codes}
use Rattle.std.specs.List.{list_any}
use Rattle.std.specs.Str.{bytes_eq}
use Rattle.spec_core.specs.declared.records.Goal.{Goal}
use Rattle.spec_core.specs.declared.records.Spec.{Spec}
use Rattle.file_replies.specs.Replies.{IsFileReply, IsFileReplyText}
use Rattle.file_replies.specs.declared.statuses.Status.{Status}
use Rattle.file_replies.specs.declared.statuses.Status.TheVariants.{Done, Refused}
use Rattle.show_cli.specs.OpenTexts.{IsOpenText}
use Rattle.show_cli.specs.Pages.{IsPage}
use Rattle.show_words.specs.Words.{Task, View, page, open_goals}

abbrev pub is_named : List ℕ → Goal → Bool
is_named name goal = bytes_eq goal.name name

-- all goals are asked for, or the specification has one of this name
abbrev pub has_asked : Spec → Option (List ℕ) → Bool
has_asked spec None = true
has_asked spec (Some name) = list_any (is_named name) spec.goals

-- the line if it has none
abbrev pub no_goal_line : List ℕ
no_goal_line = codes "refused goal\n"

-- the files that are read beside the specification's
abbrev pub further_files : View → List (List ℕ)
further_files (page form report) = report ∷ []
further_files (open_goals bounds) = []

-- the bounds are as far as a search for plain proofs may go
abbrev pub IsWithin : View → Type 0
IsWithin (page form report) = Unit {0}
IsWithin (open_goals bounds) = bounds.plain ≤ 1000

module _ (held : List ℕ → Option (List ℕ)) (task : Task) (spec : Spec) where
  -- what is shown: the reply to the report, which is the page if it is accepted; or the text on the open
  -- goals
  abbrev pub IsView : View → List ℕ → Status → Type 0
  IsView (page form report) text status =
      IsFileReply (IsPage form task.file task.goal) spec (held report) text status
  IsView (open_goals bounds) text status = IsOpenText spec task.file task.goal bounds text × (status ≡ Done)

  -- the text alone
  abbrev pub IsViewText : View → List ℕ → Type 0
  IsViewText (page form report) text =
      IsFileReplyText (IsPage form task.file task.goal) spec (held report) text
  IsViewText (open_goals bounds) text = IsOpenText spec task.file task.goal bounds text

  -- what is written, and the status: the line if there is no goal of the name, and else what is shown
  pub data IsEnd : List ℕ → Status → Type 0 where
    no_goal : has_asked spec task.goal ≡ false → IsEnd no_goal_line Refused
    view : {text : List ℕ} {status : Status} → has_asked spec task.goal ≡ true
        → IsView task.view text status → IsEnd text status

  -- the text alone
  abbrev pub IsEndText : List ℕ → Type 0
  IsEndText text = (status : Status) × IsEnd text status
