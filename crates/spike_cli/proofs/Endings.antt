-- What each ending of a call says.
use Rattle.std.proofs.Common.{◌≡◌, ◌≤◌, ℕ, List, Option, inl, inr, sym, subst}
use Rattle.std.specs.Prelude.{Result, Ok, Err, OnOk, OnErr, Bool, true, false}
use Rattle.io_core.specs.Count.{Rose}
use Rattle.io_core.specs.Piece.{Appended, AppendedPrefix}
use Rattle.io_core.specs.declared.faults.WriteError.{WriteError}
use Rattle.io_core.specs.declared.faults.WriteError.TheVariants as write
use Rattle.spec_core.specs.declared.records.Spec.{Spec}
use Rattle.spec_grammar.specs.declared.raw.RawSpec.{RawSpec}
use Rattle.file_replies.specs.declared.statuses.Status.{Status}
use Rattle.file_replies.specs.declared.statuses.Status.TheVariants as status
use Rattle.file_replies.specs.declared.stops.Stop.{Stop}
use Rattle.file_replies.specs.declared.stops.Stop.TheVariants.{ReadFault, WriteFault, OutOfMemory}
use Rattle.clause_core.specs.declared.reports.Claim.{Claim}
use Rattle.spike_cli.specs.Claims.{IsStatusOfClaims}
use Rattle.command_line.specs.Tasks.{Task, checking, refuting, proving, evaluating, replaying, upgrading}
use Rattle.command_line.specs.Tasks.{trimming, carrying_out, Asks, AsksToLoad}
use Rattle.spike_cli.specs.Evaluations.{IsEvaluation, valued, spent, refused}
use Rattle.file_replies.specs.Reads.{AreTextOf}
use Rattle.spike_cli.specs.Replays.{IsYesLine}
use Rattle.spike_cli.specs.Trims.{IsTrimmedText}
use Rattle.spike_cli.specs.Sessions.{IsSession, IsFileSession, carried_out, faulty, for_bytes}
use Rattle.spike_cli.specs.Sessions.{too_long_commands}
use Rattle.spike_cli.specs.Sessions.{status_at_end}
use Rattle.file_replies.specs.Parts.{AppendsPartOf}
use Rattle.accepted_spec.specs.Meanings.{IsAcceptedAs}
use Rattle.accepted_spec.specs.Refusals.{IsRefusalOf}
use Rattle.accepted_spec.specs.Tellings.{Tells, IsLineOf}
use Rattle.accepted_spec.specs.declared.refusals.Refusal.{Refusal}
use Rattle.spike_cli.specs.Runs.{IsEnd, MayWriteOn, MayWriteFor, refusal, on_spec, Ended, RefusedBytes}
use Rattle.spike_cli.specs.Runs.{ReadsFile, MayWrite, for_file, for_load, Means}
use Rattle.file_replies.specs.Stops.{Finishes, FinishesReading, Refuses, status_ended, status_of, status_of_stop}
use Rattle.spike_cli.specs.Stops.{MeansFor}
use Rattle.spike_cli.specs.Loads.{IsLoad}
use Rattle.io_core.proofs.Counts.{Rose-after}
use Rattle.file_replies.proofs.Endings.{IsStatusOfReply, line_ends, line_told, status_of_reply}
use Rattle.file_replies.proofs.Pieces.{part_of}

-- a status with which no task ends
abbrev IsNoEnd : Status → Type 0
IsNoEnd status.ReadFault = Unit {0}
IsNoEnd status.WriteFault = Unit {0}
IsNoEnd status.Usage = Unit {0}
IsNoEnd status.OutOfMemory = Unit {0}
IsNoEnd _ = ⊥

no_reply_end : (s : Status) → IsNoEnd s → IsStatusOfReply s → ⊥
no_reply_end status.Done n is = n
no_reply_end status.Refuted n is = n
no_reply_end status.Open n is = n
no_reply_end status.Refused n is = n
no_reply_end status.No n is = n
no_reply_end status.ReadFault n is = is
no_reply_end status.WriteFault n is = is
no_reply_end status.Usage n is = is
no_reply_end status.OutOfMemory n is = is

no_evaluation : (spec : Spec) (term : List ℕ) (steps : ℕ) (text : List ℕ) (s : Status) → IsNoEnd s →
    IsEvaluation spec term steps text s → ⊥
no_evaluation spec term steps text s n (valued t v k stands gives within) = n
no_evaluation spec term steps text s n (spent t stands none) = n
no_evaluation spec term steps text s n (refused is) = n

no_claims : (claims : List Claim) (s : Status) → IsNoEnd s → IsStatusOfClaims claims s → ⊥
no_claims claims status.No n h = h
no_claims claims status.ReadFault n h = h
no_claims claims status.WriteFault n h = h
no_claims claims status.Usage n h = h
no_claims claims status.OutOfMemory n h = h
no_claims claims status.Done n h = n
no_claims claims status.Refuted n h = n
no_claims claims status.Open n h = n
no_claims claims status.Refused n h = n

module _ (spec : Spec) where
  no_status_at_end : (is_open : Bool) → IsNoEnd (status_at_end is_open) → ⊥
  no_status_at_end true n = n
  no_status_at_end false n = n

  no_session : (bytes text : List ℕ) (s : Status) → IsNoEnd s → IsSession spec bytes text s → ⊥
  no_session bytes text s n (carried_out commands {is_open = is_open} are said right) = no_status_at_end is_open n
  no_session bytes text s n (faulty line is) = n

  no_file_session :
      (held : Option (List ℕ)) (text : List ℕ) (s : Status) → IsNoEnd s → IsFileSession spec held text s → ⊥
  no_file_session held text s n (for_bytes bytes read is) = no_session bytes text s n is
  no_file_session held text s n (too_long_commands long) = n

no_end : (held : List ℕ → Option (List ℕ)) (task : Task) (raw : RawSpec) (spec : Spec) (text : List ℕ)
    (s : Status) → IsNoEnd s → IsEnd held task raw spec text s → ⊥
no_end held (checking print) raw spec text s n is = subst (λ (u : Status). IsNoEnd u) is.1 n
no_end held (refuting search) raw spec text s n is = no_claims is.claims s n is.answers
no_end held (proving bounds) raw spec text s n is = no_claims is.claims s n is.answers
no_end held (evaluating term steps) raw spec text s n is = no_evaluation spec term steps text s n is
no_end held (replaying report) raw spec text s n is = no_reply_end s n
    (status_of_reply IsYesLine spec (held report) text s is)
no_end held upgrading raw spec text s n is = subst (λ (u : Status). IsNoEnd u) is.1 n
no_end held (trimming report) raw spec text s n is = no_reply_end s n
    (status_of_reply IsTrimmedText spec (held report) text s is)
no_end held (carrying_out path) raw spec text s n is = no_file_session spec (held path) text s n is

module _ (held : List ℕ → Option (List ℕ)) (task : Task) (bytes : List ℕ) (reads reads' : ℕ)
    (old new : Option (List ℕ)) (writes writes' : ℕ) where
  -- the line of a refusal
  pub refused_means : (r : Refusal) → Tells (IsRefusalOf bytes) r → (result : Status) →
      Refuses (IsLineOf r) old new writes writes' result →
      MeansFor held task bytes reads reads' old new writes writes' result
  refused_means r told status.Done h = absurd h
  refused_means r told status.Refuted h = absurd h
  refused_means r told status.Open h = absurd h
  refused_means r told status.Refused h = inl (h.0, line_told (IsRefusalOf bytes) r told h.0 h.1, h.2)
  refused_means r told status.No h = absurd h
  refused_means r told status.ReadFault h = absurd h
  refused_means r told status.WriteFault h = (
    h.0,
    part_of (IsLineOf r) (MayWriteFor held task bytes) old new
        (λ t is. refusal (line_told (IsRefusalOf bytes) r told t is)) h.1,
  )
  refused_means r told status.Usage h = absurd h
  refused_means r told status.OutOfMemory h = part_of (IsLineOf r) (MayWriteFor held task bytes) old new
      (λ t is. refusal (line_told (IsRefusalOf bytes) r told t is)) h

  module _ (raw : RawSpec) (spec : Spec) (accepted : IsAcceptedAs bytes raw spec) where
    made : (s : Status) (text : List ℕ) → IsEnd held task raw spec text s → Appended old new text →
        Ended held task bytes old new s
    made s text is done = record {
      raw = raw;
      spec = spec;
      accepted = accepted;
      text = text;
      is_end = is;
      appended = done;
    }

    -- a task's text that was written whole
    pub finished_means : (s : Status) (text : List ℕ) → IsEnd held task raw spec text s →
        Appended old new text → MeansFor held task bytes reads reads' old new writes writes' s
    finished_means status.Done text is done = made status.Done text is done
    finished_means status.Refuted text is done = made status.Refuted text is done
    finished_means status.Open text is done = made status.Open text is done
    finished_means status.Refused text is done = inr (made status.Refused text is done)
    finished_means status.No text is done = made status.No text is done
    finished_means status.ReadFault text is done = absurd (no_end held task raw spec text status.ReadFault tt is)
    finished_means status.WriteFault text is done = absurd (no_end held task raw spec text status.WriteFault tt is)
    finished_means status.Usage text is done = no_end held task raw spec text status.Usage tt is
    finished_means status.OutOfMemory text is done = absurd (no_end held task raw spec text status.OutOfMemory tt is)

    part : AppendsPartOf (MayWriteOn held task raw spec) old new → AppendsPartOf (MayWriteFor held task bytes) old new
    part p = part_of (MayWriteOn held task raw spec) (MayWriteFor held task bytes) old new
        (λ t b. on_spec raw spec accepted b) p

    -- one that stopped before its end
    pub stopped_means : (stop : Stop) (result : Status) →
        FinishesReading old new writes writes' reads reads' (IsEnd held task raw spec)
        (MayWriteOn held task raw spec) (Err stop) → result ≡ status_of_stop stop →
        MeansFor held task bytes reads reads' old new writes writes' result
    stopped_means stop result s e = subst (MeansFor held task bytes reads reads' old new writes writes') (sym e)
        (by stop s)
      where
        by : (stop : Stop) → FinishesReading old new writes writes' reads reads' (IsEnd held task raw spec)
            (MayWriteOn held task raw spec) (Err stop) →
            MeansFor held task bytes reads reads' old new writes writes' (status_of_stop stop)
        by ReadFault s = s
        by WriteFault s = (s.0, part s.1)
        by OutOfMemory s = part s

module _ (words : List (List ℕ)) (held : List ℕ → Option (List ℕ)) (reads reads' : ℕ)
    (old new : Option (List ℕ)) (writes writes' : ℕ) where
  pub line_means : (s result : Status) (line : List ℕ) → MayWrite words held line →
      (Appended old new line → Means words held reads reads' old new writes writes' s) →
      (wrote : Result Unit WriteError) → OnOk wrote (Appended old new line) →
      OnErr wrote (AppendedPrefix old new line) → (wrote ≡ Err write.Failed → Rose writes writes') →
      result ≡ status_ended s wrote → Means words held reads reads' old new writes writes' result
  line_means s result line may done wrote ok err failed e = line_ends
      (Means words held reads reads' old new writes writes') (MayWrite words held) old new writes writes'
      (λ r p. (r, p)) (λ p. p) s result line may done wrote ok err failed e

  -- what was done on the bytes of the file that the words name
  module _ (task : Task) (file bytes : List ℕ) (asks : Asks words file task)
      (read : AreTextOf (held file) bytes) (middle : ℕ) (before : reads ≤ middle) where
    with_file : (Holds : Task → List ℕ → Type 0) → Holds task bytes → ReadsFile words held Holds
    with_file Holds h = record { file = file; task = task; asked = asks; bytes = bytes; read = read; holds = h }

    file_part : AppendsPartOf (MayWriteFor held task bytes) old new → AppendsPartOf (MayWrite words held) old new
    file_part p = part_of (MayWriteFor held task bytes) (MayWrite words held) old new
        (λ t m. for_file (with_file (λ k b. MayWriteFor held k b t) m)) p

    pub file_means : (s : Status) → MeansFor held task bytes middle reads' old new writes writes' s →
        Means words held reads reads' old new writes writes' s
    file_means status.Done h = inl (with_file (λ k b. Ended held k b old new status.Done) h)
    file_means status.Refuted h = with_file (λ k b. Ended held k b old new status.Refuted) h
    file_means status.Open h = with_file (λ k b. Ended held k b old new status.Open) h
    file_means status.Refused h = inr (with_file (λ k b. RefusedBytes held k b old new) h)
    file_means status.No h = with_file (λ k b. Ended held k b old new status.No) h
    file_means status.ReadFault h = ((file, task, asks), Rose-after reads middle reads' before h.0, h.1)
    file_means status.WriteFault h = (h.0, file_part h.1)
    file_means status.Usage h = absurd h
    file_means status.OutOfMemory h = file_part h

  -- generated goals, of which the lines were written, or a part of them
  pub load_means :
      (goals : ℕ) → AsksToLoad words goals → (result : Result Status Stop) →
      Finishes old new writes writes' (λ text s. IsLoad goals text × (s ≡ status.Done))
      (IsLoad goals) result →
      (s : Status) → s ≡ status_of result →
      Means words held reads reads' old new writes writes' s
  load_means goals asks result h s is =
      subst (Means words held reads reads' old new writes writes') (sym is) (by result h)
    where
      part :
          AppendsPartOf (IsLoad goals) old new → AppendsPartOf (MayWrite words held) old new
      part p =
          part_of (IsLoad goals) (MayWrite words held) old new (λ t m. for_load goals asks m) p

      by :
          (result : Result Status Stop) →
          Finishes old new writes writes' (λ text s. IsLoad goals text × (s ≡ status.Done))
          (IsLoad goals) result →
          Means words held reads reads' old new writes writes' (status_of result)
      by (Ok s) h =
          subst (Means words held reads reads' old new writes writes') (sym h.1.1)
          (inr (goals, asks, h.0, h.1.0, h.2))
      by (Err ReadFault) h = absurd h
      by (Err WriteFault) h = (h.0, part h.1)
      by (Err OutOfMemory) h = part h
