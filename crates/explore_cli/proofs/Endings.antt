-- What each ending of a call says.
use Rattle.std.proofs.Common.{◌≡◌, ℕ, List, Option, inl, inr}
use Rattle.std.specs.Prelude.{Result, Err, OnOk, OnErr}
use Rattle.io_core.specs.Count.{Rose}
use Rattle.io_core.specs.Piece.{Appended, AppendedPrefix}
use Rattle.io_core.specs.declared.faults.WriteError.{WriteError}
use Rattle.io_core.specs.declared.faults.WriteError.TheVariants as write
use Rattle.spec_core.specs.declared.records.Spec.{Spec}
use Rattle.spec_grammar.specs.declared.raw.RawSpec.{RawSpec}
use Rattle.accepted_spec.specs.Meanings.{IsAcceptedAs}
use Rattle.accepted_spec.specs.Refusals.{IsRefusalOf}
use Rattle.accepted_spec.specs.Tellings.{Tells, IsLineOf}
use Rattle.accepted_spec.specs.declared.refusals.Refusal.{Refusal}
use Rattle.file_replies.specs.declared.statuses.Status.{Status}
use Rattle.file_replies.specs.declared.statuses.Status.TheVariants as status
use Rattle.file_replies.specs.Parts.{AppendsPartOf}
use Rattle.file_replies.specs.Reads.{AreTextOf}
use Rattle.file_replies.specs.Stops.{Refuses, status_ended}
use Rattle.file_replies.proofs.Endings.{line_ends, line_told}
use Rattle.file_replies.proofs.Pieces.{part_of}
use Rattle.explore_words.specs.Words.{Task, Asks}
use Rattle.explore_cli.specs.Runs.{MayWriteFor, refusal, on_spec, Ended, RefusedBytes, ReadsFile, MayWrite, for_file}
use Rattle.explore_cli.specs.Runs.{Means}
use Rattle.explore_cli.specs.Stops.{MeansFor}
use Rattle.explore_cli.specs.Written.{IsEnd}

module _ (task : Task) (bytes : List ℕ) (old new : Option (List ℕ)) (writes writes' : ℕ) where
  -- the line of a refusal
  pub refused_means :
      (r : Refusal) → Tells (IsRefusalOf bytes) r → (result : Status) →
      Refuses (IsLineOf r) old new writes writes' result → MeansFor task bytes old new writes writes' result
  refused_means r told status.Done h = absurd h
  refused_means r told status.Refuted h = absurd h
  refused_means r told status.Open h = absurd h
  refused_means r told status.Refused h = (h.0, line_told (IsRefusalOf bytes) r told h.0 h.1, h.2)
  refused_means r told status.No h = h
  refused_means r told status.ReadFault h = h
  refused_means r told status.WriteFault h = (
    h.0,
    part_of (IsLineOf r) (MayWriteFor task bytes) old new
        (λ t is. refusal (line_told (IsRefusalOf bytes) r told t is)) h.1,
  )
  refused_means r told status.Usage h = h
  refused_means r told status.OutOfMemory h =
      part_of (IsLineOf r) (MayWriteFor task bytes) old new
      (λ t is. refusal (line_told (IsRefusalOf bytes) r told t is)) h

  -- the text or the report of an exploration of the specification of the bytes
  module _ (raw : RawSpec) (spec : Spec) (accepted : IsAcceptedAs bytes raw spec) where
    made :
        (s : Status) (text : List ℕ) → IsEnd task.form spec text s → Appended old new text →
        MeansFor task bytes old new writes writes' s
    made status.Done text is done =
        record { raw = raw; spec = spec; accepted = accepted; text = text; is_end = is; appended = done }
    made status.Refuted text is done =
        record { raw = raw; spec = spec; accepted = accepted; text = text; is_end = is; appended = done }
    made status.Open text is done =
        record { raw = raw; spec = spec; accepted = accepted; text = text; is_end = is; appended = done }
    made status.Refused text is done = absurd is.gives
    made status.No text is done = absurd is.gives
    made status.ReadFault text is done = absurd is.gives
    made status.WriteFault text is done = absurd is.gives
    made status.Usage text is done = absurd is.gives
    made status.OutOfMemory text is done = absurd is.gives

    pub ended_means :
        (s result : Status) (text : List ℕ) → IsEnd task.form spec text s →
        (wrote : Result Unit WriteError) → OnOk wrote (Appended old new text) →
        OnErr wrote (AppendedPrefix old new text) → (wrote ≡ Err write.Failed → Rose writes writes') →
        result ≡ status_ended s wrote → MeansFor task bytes old new writes writes' result
    ended_means s result text is wrote ok err failed e =
        line_ends (MeansFor task bytes old new writes writes') (MayWriteFor task bytes) old new
        writes writes' (λ r p. (r, p)) (λ p. p) s result text (on_spec raw spec accepted (s, is))
        (made s text is) wrote ok err failed e

module _
    (words : List (List ℕ)) (held : List ℕ → Option (List ℕ)) (reads reads' : ℕ)
    (old new : Option (List ℕ)) (writes writes' : ℕ) where
  -- a line of a call
  pub line_means :
      (s result : Status) (line : List ℕ) → MayWrite words held line →
      (Appended old new line → Means words held reads reads' old new writes writes' s) →
      (wrote : Result Unit WriteError) → OnOk wrote (Appended old new line) →
      OnErr wrote (AppendedPrefix old new line) → (wrote ≡ Err write.Failed → Rose writes writes') →
      result ≡ status_ended s wrote → Means words held reads reads' old new writes writes' result
  line_means s result line may done wrote ok err failed e =
      line_ends (Means words held reads reads' old new writes writes') (MayWrite words held) old new
      writes writes' (λ r p. (r, p)) (λ p. p) s result line may done wrote ok err failed e

  -- what was done on the bytes of the file that the words name
  module _ (task : Task) (bytes : List ℕ) (asks : Asks words task) (read : AreTextOf (held task.file) bytes) where
    with_file : (Holds : Task → List ℕ → Type 0) → Holds task bytes → ReadsFile words held Holds
    with_file Holds h = record { task = task; asked = asks; bytes = bytes; read = read; holds = h }

    file_part : AppendsPartOf (MayWriteFor task bytes) old new → AppendsPartOf (MayWrite words held) old new
    file_part p =
        part_of (MayWriteFor task bytes) (MayWrite words held) old new
        (λ t m. for_file (with_file (λ k b. MayWriteFor k b t) m)) p

    pub file_means :
        (s : Status) → MeansFor task bytes old new writes writes' s →
        Means words held reads reads' old new writes writes' s
    file_means status.Done h = inl (with_file (λ k b. Ended k b old new status.Done) h)
    file_means status.Refuted h = with_file (λ k b. Ended k b old new status.Refuted) h
    file_means status.Open h = with_file (λ k b. Ended k b old new status.Open) h
    file_means status.Refused h = inr (with_file (λ k b. RefusedBytes k b old new) h)
    file_means status.No h = h
    file_means status.ReadFault h = absurd h
    file_means status.WriteFault h = (h.0, file_part h.1)
    file_means status.Usage h = absurd h
    file_means status.OutOfMemory h = file_part h
