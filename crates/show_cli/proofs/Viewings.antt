-- What is written for a specification, from what is shown of it.
use Rattle.std.proofs.Common.{◌≡◌, ℕ, List, Option, false, refl, subst, sym, true}
use Rattle.std.specs.Prelude.{Result, Ok, Err}
use Rattle.spec_core.specs.declared.records.Spec.{Spec}
use Rattle.file_replies.specs.declared.statuses.Status.{Status}
use Rattle.file_replies.specs.declared.statuses.Status.TheVariants.{Done, Refused}
use Rattle.file_replies.specs.declared.stops.Stop.{Stop}
use Rattle.file_replies.specs.declared.stops.Stop.TheVariants.{ReadFault, WriteFault, OutOfMemory}
use Rattle.file_replies.specs.Stops.{FinishesReading}
use Rattle.file_replies.proofs.Pieces.{part_of}
use Rattle.show_words.specs.Words.{Task, View, page, open_goals}
use Rattle.show_cli.specs.Ends.{IsEnd, IsEndText, IsView, IsViewText, has_asked, no_goal, no_goal_line, view}

-- what a command that reads another file writes, in other words
module _ (old new : Option (List ℕ)) (writes writes' reads reads' : ℕ) where
  pub reads_same :
      (P Q : List ℕ → Status → Type 0) (R S : List ℕ → Type 0) →
      ((text : List ℕ) (s : Status) → P text s → Q text s) → ((text : List ℕ) → R text → S text) →
      (result : Result Status Stop) → FinishesReading old new writes writes' reads reads' P R result →
      FinishesReading old new writes writes' reads reads' Q S result
  reads_same P Q R S whole part (Ok s) h = (h.0, whole h.0 s h.1, h.2)
  reads_same P Q R S whole part (Err ReadFault) h = h
  reads_same P Q R S whole part (Err WriteFault) h = (h.0, part_of R S old new part h.1)
  reads_same P Q R S whole part (Err OutOfMemory) h = part_of R S old new part h

module _ (held : List ℕ → Option (List ℕ)) (task : Task) (spec : Spec) where
  -- the line if there is no goal of the name
  module _ (none : has_asked spec task.goal ≡ false) where
    pub line_end :
        (text : List ℕ) (s : Status) → (text ≡ no_goal_line) × (s ≡ Refused) →
        IsEnd held task spec text s
    line_end text s is =
        subst (λ t. IsEnd held task spec t s) (sym is.0)
        (subst (λ x. IsEnd held task spec no_goal_line x) (sym is.1) (no_goal none))

    pub line_text : (text : List ℕ) → text ≡ no_goal_line → IsEndText held task spec text
    line_text text is = (Refused, line_end text Refused (is, refl))

  -- a text that is shown has a status
  text_status :
      (v : View) (text : List ℕ) → IsViewText held task spec v text →
      (s : Status) × IsView held task spec v text s
  text_status (page form report) text is = is
  text_status (open_goals bounds) text is = (Done, (is, refl))

  -- what is shown
  module _ (has : has_asked spec task.goal ≡ true) where
    pub view_end :
        (text : List ℕ) (s : Status) → IsView held task spec task.view text s → IsEnd held task spec text s
    view_end text s is = view has is

    pub view_text :
        (text : List ℕ) → IsViewText held task spec task.view text → IsEndText held task spec text
    view_text text is =
        let shown = text_status task.view text is in
        (shown.0, view has shown.1)
