-- What was appended when a command ended or stopped, and which names were asked for.
use Rattle.std.specs.Prelude.{◌≡◌, ℕ, ◌⊎◌, List, ◌++◌, Option, Result, Ok, Err, codes}
use Rattle.io_core.specs.Count.{Rose}
use Rattle.io_core.specs.Piece.{Appended}
use Rattle.io_core.specs.declared.faults.WriteError.{WriteError}
use Rattle.io_core.specs.declared.faults.WriteError.TheVariants as write
use Rattle.accepted_spec.specs.Meanings.{IsAccepted}
use Rattle.file_replies.specs.declared.statuses.Status.{Status}
use Rattle.file_replies.specs.declared.statuses.Status.TheVariants as status
use Rattle.file_replies.specs.declared.stops.Stop.{Stop}
use Rattle.file_replies.specs.declared.stops.Stop.TheVariants.{ReadFault, WriteFault, OutOfMemory}
use Rattle.file_replies.specs.Parts.{AppendsPartOf}

-- the words for a command that stopped
abbrev pub stop_text : Stop → List ℕ
stop_text ReadFault = codes "a file can't be read"
stop_text WriteFault = codes "the output can't be written"
stop_text OutOfMemory = codes "out of memory"

-- why a command stops when bytes aren't written
abbrev pub stop_of : WriteError → Stop
stop_of write.Failed = WriteFault
stop_of write.OutOfMemory = OutOfMemory

-- the status of a command that stops
abbrev pub status_of_stop : Stop → Status
status_of_stop ReadFault = status.ReadFault
status_of_stop WriteFault = status.WriteFault
status_of_stop OutOfMemory = status.OutOfMemory

module _ (old new : Option (List ℕ)) (writes writes' : ℕ) where
  -- a part of one of these texts was appended, and the count of faults rose if that was why it
  -- stopped; no file was read
  abbrev pub Stopped : (List ℕ → Type 0) → Stop → Type 0
  Stopped IsText ReadFault = ⊥
  Stopped IsText WriteFault = Rose writes writes' × AppendsPartOf IsText old new
  Stopped IsText OutOfMemory = AppendsPartOf IsText old new

  -- a whole text was appended, with its status, or a part of one if the command stopped
  abbrev pub Finishes :
      (List ℕ → Status → Type 0) → (List ℕ → Type 0) → Result Status Stop → Type 0
  Finishes IsWhole IsPart (Ok after) =
      (text : List ℕ) × IsWhole text after × Appended old new text
  Finishes IsWhole IsPart (Err stop) = Stopped IsPart stop

  -- the same of a command that reads another file; if it couldn't, the store's count of faults
  -- rose and nothing was appended
  abbrev pub FinishesReading :
      ℕ → ℕ → (List ℕ → Status → Type 0) → (List ℕ → Type 0) → Result Status Stop → Type 0
  FinishesReading reads reads' IsWhole IsPart (Err ReadFault) = Rose reads reads' × (new ≡ old)
  FinishesReading reads reads' IsWhole IsPart result = Finishes IsWhole IsPart result

-- one of these texts was appended as a refusal, or a part of one if the command stopped
module _ (IsText : List ℕ → Type 0) (old new : Option (List ℕ)) (writes writes' : ℕ) where
  abbrev pub Refuses : Status → Type 0
  Refuses status.Refused = (text : List ℕ) × IsText text × Appended old new text
  Refuses status.WriteFault = Rose writes writes' × AppendsPartOf IsText old new
  Refuses status.OutOfMemory = AppendsPartOf IsText old new
  Refuses _ = ⊥

-- these names were asked for, or none was
abbrev pub AsksFor : List (List ℕ) → List (List ℕ) → List (List ℕ) → Type 0
AsksFor names old new = (new ≡ old) ⊎ (new ≡ old ++ names)

-- the same, if some are asked for only if the bytes are accepted
abbrev pub AsksForOn : List ℕ → List (List ℕ) → List (List ℕ) → List (List ℕ) → Type 0
AsksForOn bytes names old new = (new ≡ old) ⊎ (IsAccepted bytes × (new ≡ old ++ names))

-- the status of a command whose text was written, or wasn't
abbrev pub status_ended : Status → Result Unit WriteError → Status
status_ended s (Ok u) = s
status_ended s (Err e) = status_of_stop (stop_of e)

-- the status of a command that ended, or stopped
abbrev pub status_of : Result Status Stop → Status
status_of (Ok s) = s
status_of (Err stop) = status_of_stop stop
