-- What is left if a line was to be written, and which statuses replies have.
use Rattle.std.proofs.Common.{◌≡◌, ℕ, List, Option, inr, refl, sym, subst}
use Rattle.std.specs.Prelude.{Result, Ok, Err, OnOk, OnErr}
use Rattle.io_core.specs.Count.{Rose}
use Rattle.io_core.specs.Piece.{Appended, AppendedPrefix}
use Rattle.io_core.specs.declared.faults.WriteError.{WriteError}
use Rattle.io_core.specs.declared.faults.WriteError.TheVariants as write
use Rattle.spec_core.specs.declared.records.Spec.{Spec}
use Rattle.clause_core.specs.declared.reports.Report.{Report}
use Rattle.accepted_spec.specs.Tellings.{Tells, IsLineOf}
use Rattle.accepted_spec.specs.declared.refusals.Refusal.{Refusal}
use Rattle.accepted_spec.specs.declared.refusals.Refusal.TheVariants.{Line, OutOfMemory as NoMemory}
use Rattle.file_replies.specs.declared.statuses.Status.{Status}
use Rattle.file_replies.specs.declared.statuses.Status.TheVariants as status
use Rattle.file_replies.specs.Parts.{AppendsPartOf}
use Rattle.file_replies.specs.Replies.{IsFileReply, IsReply, accepted, no_report, refused, replied, too_long_report}
use Rattle.file_replies.specs.Stops.{status_ended}

-- a line that was to be written whole
module _
    (Holds : Status → Type 0) (IsText : List ℕ → Type 0) (old new : Option (List ℕ)) (writes writes' : ℕ)
    (at_fault : Rose writes writes' → AppendsPartOf IsText old new → Holds status.WriteFault)
    (at_memory : AppendsPartOf IsText old new → Holds status.OutOfMemory) where
  pub line_ends :
      (s result : Status) (line : List ℕ) → IsText line → (Appended old new line → Holds s) →
      (wrote : Result Unit WriteError) → OnOk wrote (Appended old new line) →
      OnErr wrote (AppendedPrefix old new line) → (wrote ≡ Err write.Failed → Rose writes writes') →
      result ≡ status_ended s wrote → Holds result
  line_ends s result line may done wrote ok err failed e = subst Holds (sym e) (by wrote ok err failed)
    where
      by :
          (wrote : Result Unit WriteError) → OnOk wrote (Appended old new line) →
          OnErr wrote (AppendedPrefix old new line) → (wrote ≡ Err write.Failed → Rose writes writes') →
          Holds (status_ended s wrote)
      by (Ok u) ok err failed = done ok
      by (Err write.Failed) ok err failed = at_fault (failed refl) (inr (line, may, err))
      by (Err write.OutOfMemory) ok err failed = at_memory (inr (line, may, err))

-- the line that a refusal has is one of those that it tells
pub line_told :
    (IsLine : List ℕ → Type 0) (r : Refusal) → Tells IsLine r → (text : List ℕ) → IsLineOf r text → IsLine text
line_told IsLine (Line line) h text is = subst IsLine (sym is) h
line_told IsLine NoMemory h text is = absurd is

-- the statuses of replies
abbrev pub IsStatusOfReply : Status → Type 0
IsStatusOfReply status.Done = Unit {0}
IsStatusOfReply status.Refused = Unit {0}
IsStatusOfReply status.No = Unit {0}
IsStatusOfReply _ = ⊥

module _ (IsYes : Spec → Report → List ℕ → Type 0) (spec : Spec) where
  status_of_bytes :
      (bytes text : List ℕ) (s : Status) → IsReply IsYes spec bytes text s → IsStatusOfReply s
  status_of_bytes bytes text s (accepted report is ok right said) = tt
  status_of_bytes bytes text s (no_report line fault) = tt
  status_of_bytes bytes text s (refused report line why is first) = tt

  pub status_of_reply :
      (held : Option (List ℕ)) (text : List ℕ) (s : Status) →
      IsFileReply IsYes spec held text s → IsStatusOfReply s
  status_of_reply held text s (replied bytes read is) = status_of_bytes bytes text s is
  status_of_reply held text s (too_long_report long) = tt
