-- What is said of a command that reads another file, and of what was read.
use Rattle.std.proofs.Common.{◌≡◌, ◌≢◌, ◌∙◌, ℕ, List, ◌≤◌, Option, sym, subst, length}
use Rattle.std.specs.Prelude.{Result, Ok, Err, IsErrAnd, IfSome}
use Rattle.io_core.specs.Count.{Rose}
use Rattle.io_core.specs.Piece.{AppendedPrefix}
use Rattle.io_core.specs.declared.faults.ReadError.{ReadError}
use Rattle.io_core.specs.declared.faults.ReadError.TheVariants as read
use Rattle.io_core.specs.declared.faults.WriteError.{WriteError}
use Rattle.io_core.specs.declared.faults.WriteError.TheVariants as write
use Rattle.spec_core.specs.declared.records.Spec.{Spec}
use Rattle.spec_grammar.specs.Limits.{file_limit}
use Rattle.clause_core.specs.declared.reports.Report.{Report}
use Rattle.file_replies.specs.Reads.{AreTextOf}
use Rattle.file_replies.specs.declared.statuses.Status.{Status}
use Rattle.file_replies.specs.declared.stops.Stop.{Stop}
use Rattle.file_replies.specs.declared.stops.Stop.TheVariants.{ReadFault, WriteFault, OutOfMemory}
use Rattle.file_replies.specs.Replies.{IsReply}
use Rattle.file_replies.specs.Stops.{Finishes, FinishesReading, stop_of}
use Rattle.file_replies.proofs.Pieces.{part_of, piece_stopped, at_error}

module _ (old new : Option (List ℕ)) (writes writes' reads reads' : ℕ) where
  -- a command that reads no other file
  pub reads_nothing :
      (IsWhole : List ℕ → Status → Type 0) (IsPart : List ℕ → Type 0) (result : Result Status Stop) →
      Finishes old new writes writes' IsWhole IsPart result →
      FinishesReading old new writes writes' reads reads' IsWhole IsPart result
  reads_nothing IsWhole IsPart (Ok s) h = h
  reads_nothing IsWhole IsPart (Err ReadFault) h = absurd h
  reads_nothing IsWhole IsPart (Err WriteFault) h = h
  reads_nothing IsWhole IsPart (Err OutOfMemory) h = h

  -- a command that reads a further file
  module _ (IsWhole : List ℕ → Status → Type 0) (IsPart : List ℕ → Type 0) where
    -- what was written for the bytes of the file
    pub reads_bytes :
        (IsOfBytes : List ℕ → Status → Type 0) (IsPartOfBytes : List ℕ → Type 0) →
        ((text : List ℕ) (s : Status) → IsOfBytes text s → IsWhole text s) →
        ((text : List ℕ) → IsPartOfBytes text → IsPart text) → (result : Result Status Stop) →
        Finishes old new writes writes' IsOfBytes IsPartOfBytes result →
        FinishesReading old new writes writes' reads reads' IsWhole IsPart result
    reads_bytes IsOfBytes IsPartOfBytes whole part (Ok s) h = (h.0, whole h.0 s h.1, h.2)
    reads_bytes IsOfBytes IsPartOfBytes whole part (Err ReadFault) h = absurd h
    reads_bytes IsOfBytes IsPartOfBytes whole part (Err WriteFault) h =
        (h.0, part_of IsPartOfBytes IsPart old new part h.1)
    reads_bytes IsOfBytes IsPartOfBytes whole part (Err OutOfMemory) h =
        part_of IsPartOfBytes IsPart old new part h

    -- a line that was to be written for the file
    pub line_stopped :
        (line : List ℕ) → IsPart line → (error : WriteError) (result : Result Status Stop) →
        IsErrAnd result (λ s. s ≡ stop_of error) → AppendedPrefix old new line →
        (◌≡◌ {A = Result Unit WriteError} (Err error) (Err write.Failed) → Rose writes writes') →
        FinishesReading old new writes writes' reads reads' IsWhole IsPart result
    line_stopped line may error result is prefix failed =
        at_error (FinishesReading old new writes writes' reads reads' IsWhole IsPart) result
        (stop_of error) is (reads_nothing IsWhole IsPart (Err (stop_of error))
        (piece_stopped IsPart old new writes writes' line error may prefix failed))

-- a reply whose text is this line
pub reply_told :
    (IsYes : Spec → Report → List ℕ → Type 0) (spec : Spec) (bytes text line : List ℕ) (s : Status) →
    text ≡ line → IsReply IsYes spec bytes line s → IsReply IsYes spec bytes text s
reply_told IsYes spec bytes text line s is reply =
    subst (λ t. IsReply IsYes spec bytes t s) (sym is) reply

-- a read that failed, or found too much, isn't one that wanted memory
pub too_long_read : (e : ReadError) → e ≡ read.TooLong → e ≢ read.OutOfMemory
too_long_read e is other = let q : read.TooLong ≡ read.OutOfMemory = sym is ∙ other in cc

pub failed_read : (e : ReadError) → e ≡ read.Failed → e ≢ read.OutOfMemory
failed_read e is other = let q : read.Failed ≡ read.OutOfMemory = sym is ∙ other in cc

-- what was read of the file that a command names
pub read_bytes :
    (held : List ℕ → Option (List ℕ)) (name file items bytes : List ℕ) → name ≡ file → bytes ≡ items →
    IfSome (held name) (λ whole. items ≡ whole) → length items ≤ file_limit items →
    AreTextOf (held file) bytes
read_bytes held name file items bytes named same told within =
    subst (λ (b : List ℕ). AreTextOf (held file) b) (sym same)
    (subst (λ (n : List ℕ). AreTextOf (held n) items) named (record { told = told; within = within }))
