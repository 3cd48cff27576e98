-- What each ending of a call says.
use Rattle.std.proofs.Common.{◌≡◌, ◌≤◌, ℕ, List, Option, inl, inr, sym, subst}
use Rattle.std.specs.Prelude.{Result, Ok, Err, OnOk, OnErr}
use Rattle.io_core.specs.Count.{Rose}
use Rattle.io_core.specs.Piece.{Appended, AppendedPrefix}
use Rattle.io_core.specs.declared.faults.WriteError.{WriteError}
use Rattle.io_core.specs.declared.faults.WriteError.TheVariants as write
use Rattle.io_core.proofs.Counts.{Rose-after}
use Rattle.spec_core.specs.declared.records.Spec.{Spec}
use Rattle.spec_grammar.specs.declared.raw.RawSpec.{RawSpec}
use Rattle.accepted_spec.specs.Meanings.{IsAcceptedAs}
use Rattle.accepted_spec.specs.Refusals.{IsRefusalOf}
use Rattle.accepted_spec.specs.Tellings.{Tells, IsLineOf}
use Rattle.accepted_spec.specs.declared.refusals.Refusal.{Refusal}
use Rattle.file_replies.specs.declared.statuses.Status.{Status}
use Rattle.file_replies.specs.declared.statuses.Status.TheVariants as status
use Rattle.file_replies.specs.declared.stops.Stop.{Stop}
use Rattle.file_replies.specs.declared.stops.Stop.TheVariants.{ReadFault, WriteFault, OutOfMemory}
use Rattle.file_replies.specs.Parts.{AppendsPartOf}
use Rattle.file_replies.specs.Reads.{AreTextOf}
use Rattle.file_replies.specs.Stops.{FinishesReading, Refuses, status_ended, status_of_stop}
use Rattle.file_replies.proofs.Endings.{IsStatusOfReply, line_ends, line_told, status_of_reply}
use Rattle.file_replies.proofs.Pieces.{part_of}
use Rattle.show_words.specs.Words.{Task, View, page, open_goals, Asks}
use Rattle.show_cli.specs.Ends.{IsEnd, IsEndText, IsView, no_goal, view}
use Rattle.show_cli.specs.Pages.{IsPage}
use Rattle.show_cli.specs.Runs.{MayWriteFor, refusal, on_spec, Ended, RefusedBytes, ReadsFile, MayWrite, for_file}
use Rattle.show_cli.specs.Runs.{Means}
use Rattle.show_cli.specs.Stops.{MeansFor}

-- what is written for a specification has a status of a reply
module _ (held : List ℕ → Option (List ℕ)) (task : Task) (spec : Spec) where
  status_of_view :
      (v : View) (text : List ℕ) (s : Status) → IsView held task spec v text s → IsStatusOfReply s
  status_of_view (page form report) text s is =
      status_of_reply (IsPage form task.file task.goal) spec (held report) text s is
  status_of_view (open_goals bounds) text s is = subst IsStatusOfReply (sym is.1) tt

  status_of_end : (text : List ℕ) (s : Status) → IsEnd held task spec text s → IsStatusOfReply s
  status_of_end text s (no_goal none) = tt
  status_of_end text s (view has is) = status_of_view task.view text s is

module _
    (held : List ℕ → Option (List ℕ)) (task : Task) (bytes : List ℕ) (reads reads' : ℕ)
    (old new : Option (List ℕ)) (writes writes' : ℕ) where
  -- the line of a refusal
  pub refused_means :
      (r : Refusal) → Tells (IsRefusalOf bytes) r → (result : Status) →
      Refuses (IsLineOf r) old new writes writes' result →
      MeansFor held task bytes reads reads' old new writes writes' result
  refused_means r told status.Done h = absurd h
  refused_means r told status.Refuted h = h
  refused_means r told status.Open h = h
  refused_means r told status.Refused h = inl (h.0, line_told (IsRefusalOf bytes) r told h.0 h.1, h.2)
  refused_means r told status.No h = absurd h
  refused_means r told status.ReadFault h = absurd h
  refused_means r told status.WriteFault h = (
    h.0,
    part_of (IsLineOf r) (MayWriteFor held task bytes) old new
        (λ t is. refusal (line_told (IsRefusalOf bytes) r told t is)) h.1,
  )
  refused_means r told status.Usage h = h
  refused_means r told status.OutOfMemory h =
      part_of (IsLineOf r) (MayWriteFor held task bytes) old new
      (λ t is. refusal (line_told (IsRefusalOf bytes) r told t is)) h

  -- what is written for the specification of the bytes
  module _ (raw : RawSpec) (spec : Spec) (accepted : IsAcceptedAs bytes raw spec) where
    made :
        (s : Status) (text : List ℕ) → IsEnd held task spec text s →
        Appended old new text → Ended held task bytes old new s
    made s text is done =
        record { raw = raw; spec = spec; accepted = accepted; text = text; is_end = is; appended = done }

    -- written whole
    pub finished_means :
        (s : Status) (text : List ℕ) → IsEnd held task spec text s →
        Appended old new text → MeansFor held task bytes reads reads' old new writes writes' s
    finished_means status.Done text is done = made status.Done text is done
    finished_means status.Refused text is done = inr (made status.Refused text is done)
    finished_means status.No text is done = made status.No text is done
    finished_means status.Refuted text is done =
        status_of_end held task spec text status.Refuted is
    finished_means status.Open text is done =
        status_of_end held task spec text status.Open is
    finished_means status.ReadFault text is done =
        absurd (status_of_end held task spec text status.ReadFault is)
    finished_means status.WriteFault text is done =
        absurd (status_of_end held task spec text status.WriteFault is)
    finished_means status.Usage text is done =
        status_of_end held task spec text status.Usage is
    finished_means status.OutOfMemory text is done =
        absurd (status_of_end held task spec text status.OutOfMemory is)

    part :
        AppendsPartOf (IsEndText held task spec) old new →
        AppendsPartOf (MayWriteFor held task bytes) old new
    part p =
        part_of (IsEndText held task spec) (MayWriteFor held task bytes)
        old new (λ t b. on_spec raw spec accepted b) p

    -- stopped before its end
    pub stopped_means :
        (stop : Stop) (result : Status) →
        FinishesReading old new writes writes' reads reads'
        (IsEnd held task spec)
        (IsEndText held task spec) (Err stop) →
        result ≡ status_of_stop stop →
        MeansFor held task bytes reads reads' old new writes writes' result
    stopped_means stop result s e =
        subst (MeansFor held task bytes reads reads' old new writes writes') (sym e) (by stop s)
      where
        by :
            (stop : Stop) →
            FinishesReading old new writes writes' reads reads'
            (IsEnd held task spec)
            (IsEndText held task spec) (Err stop) →
            MeansFor held task bytes reads reads' old new writes writes' (status_of_stop stop)
        by ReadFault s = s
        by WriteFault s = (s.0, part s.1)
        by OutOfMemory s = part s

module _
    (words : List (List ℕ)) (held : List ℕ → Option (List ℕ)) (reads reads' : ℕ)
    (old new : Option (List ℕ)) (writes writes' : ℕ) where
  -- a line of a call
  pub line_means :
      (s result : Status) (line : List ℕ) → MayWrite words held line →
      (Appended old new line → Means words held reads reads' old new writes writes' s) →
      (wrote : Result Unit WriteError) → OnOk wrote (Appended old new line) →
      OnErr wrote (AppendedPrefix old new line) → (wrote ≡ Err write.Failed → Rose writes writes') →
      result ≡ status_ended s wrote → Means words held reads reads' old new writes writes' result
  line_means s result line may done wrote ok err failed e =
      line_ends (Means words held reads reads' old new writes writes') (MayWrite words held) old new
      writes writes' (λ r p. (r, p)) (λ p. p) s result line may done wrote ok err failed e

  -- what was done on the bytes of the file that the words name
  module _
      (task : Task) (bytes : List ℕ) (asks : Asks words task) (read : AreTextOf (held task.file) bytes)
      (middle : ℕ) (before : reads ≤ middle) where
    with_file : (Holds : Task → List ℕ → Type 0) → Holds task bytes → ReadsFile words held Holds
    with_file Holds h = record { task = task; asked = asks; bytes = bytes; read = read; holds = h }

    file_part :
        AppendsPartOf (MayWriteFor held task bytes) old new → AppendsPartOf (MayWrite words held) old new
    file_part p =
        part_of (MayWriteFor held task bytes) (MayWrite words held) old new
        (λ t m. for_file (with_file (λ k b. MayWriteFor held k b t) m)) p

    pub file_means :
        (s : Status) → MeansFor held task bytes middle reads' old new writes writes' s →
        Means words held reads reads' old new writes writes' s
    file_means status.Done h = inl (with_file (λ k b. Ended held k b old new status.Done) h)
    file_means status.Refuted h = h
    file_means status.Open h = h
    file_means status.Refused h = inr (with_file (λ k b. RefusedBytes held k b old new) h)
    file_means status.No h = with_file (λ k b. Ended held k b old new status.No) h
    file_means status.ReadFault h = ((task, asks), Rose-after reads middle reads' before h.0, h.1)
    file_means status.WriteFault h = (h.0, file_part h.1)
    file_means status.Usage h = absurd h
    file_means status.OutOfMemory h = file_part h
