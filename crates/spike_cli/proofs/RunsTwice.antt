-- A finished report is answered by yes in a later call of the program.
use Rattle.std.proofs.Common.{◌≡◌, ◌≤◌, ℕ, List, ◌++◌, Option, Some, inl, inr, sym, subst}
use Rattle.std.proofs.Common.{length}
use Rattle.std.proofs.lemmas.List.{append_cancel_left}
use Rattle.io_core.specs.Count.{Rose}
use Rattle.io_core.specs.Piece.{Appended}
use Rattle.spec_core.specs.declared.records.Spec.{Spec}
use Rattle.spec_core.specs.WellSorted.{IsWellSorted}
use Rattle.spec_grammar.specs.Limits.{file_limit}
use Rattle.spec_grammar.specs.declared.raw.RawSpec.{RawSpec}
use Rattle.clause_core.specs.declared.reports.Claim.{Claim}
use Rattle.command_line.specs.Laws.{OneRequest}
use Rattle.command_line.specs.Tasks.{Task, checking, refuting, proving, evaluating, replaying, upgrading}
use Rattle.command_line.specs.Tasks.{trimming, carrying_out, Asks}
use Rattle.proof_script.specs.Claims.{report_text}
use Rattle.reply_lines.specs.Lines.{yes_line}
use Rattle.session_core.specs.Sound.{report_of}
use Rattle.accepted_spec.specs.Meanings.{IsAcceptedAs}
use Rattle.file_replies.specs.declared.statuses.Status.{Status}
use Rattle.file_replies.specs.declared.statuses.Status.TheVariants.{Done, Refuted, Open, Refused, No}
use Rattle.file_replies.specs.declared.statuses.Status.TheVariants.{ReadFault, WriteFault, Usage, OutOfMemory}
use Rattle.file_replies.specs.Replies.{accepted as accepted_report, no_report, refused as refused_report}
use Rattle.file_replies.specs.Replies.{replied, too_long_report}
use Rattle.spike_cli.specs.Reports.{search_alone}
use Rattle.spike_cli.specs.Trims.{IsFileTrim}
use Rattle.spike_cli.specs.Sessions.{IsFileSession, carried_out, faulty, for_bytes, too_long_commands}
use Rattle.spike_cli.specs.FinishedReports.{FinishedReportsAreAccepted, IsAnsweredByYes}
use Rattle.spike_cli.specs.Outcomes.{OneEnding}
use Rattle.spike_cli.specs.Runs.{IsEnd, Ended, Means}
use Rattle.spike_cli.specs.RunsTwice.{IsFinished, IsByHand, IsReplayed, WritesReport, FinishedRun}
use Rattle.spike_cli.specs.RunsTwice.{FinishedRunsAreReplayed}
use Rattle.file_replies.proofs.Reported.{well_sorted_meaning}
use Rattle.spike_cli.proofs.ReplayRuns.{of_file, replay_ends, replay_told}

-- this is so of a text on the specification that the bytes stand for
record TextOf (IsSo : Spec → List ℕ → Type 0) (bytes text : List ℕ) : Type 0 where
  raw : RawSpec
  spec : Spec
  accepted : IsAcceptedAs bytes raw spec
  so : IsSo spec text

-- the text ends with a report that is answered by yes
abbrev EndsAnswered : Spec → List ℕ → Type 0
EndsAnswered spec text =
    (lines : List ℕ) × (report : List ℕ) × (text ≡ lines ++ report) × IsAnsweredByYes spec report

same_some : (x y : List ℕ) → Some x ≡ Some y → x ≡ y
same_some x y e = let q : Some x ≡ Some y = e in cc

module _ (ending : OneEnding) (request : OneRequest) (finished : FinishedReportsAreAccepted) where
  module _
      (words : List (List ℕ)) (held : List ℕ → Option (List ℕ)) (file : List ℕ) (task : Task)
      (asks : Asks words file task) (bytes : List ℕ) (told : held file ≡ Some bytes) where
    ended :
        (reads reads' writes writes' : ℕ) (old new : Option (List ℕ)) (status : Status) →
        IsFinished status → Means words held reads reads' old new writes writes' status →
        (length bytes ≤ file_limit bytes) × Ended held task bytes old new status
    ended reads reads' writes writes' old new Done f (inl h) =
        of_file request words held file task asks bytes told (λ k b. Ended held k b old new Done) h
    ended reads reads' writes writes' old new Done f (inr l) =
        absurd (request.not_both words file task l.0 asks l.1)
    ended reads reads' writes writes' old new Refuted f h =
        of_file request words held file task asks bytes told (λ k b. Ended held k b old new Refuted) h
    ended reads reads' writes writes' old new Open f h =
        of_file request words held file task asks bytes told (λ k b. Ended held k b old new Open) h
    ended reads reads' writes writes' old new Refused f h = absurd f
    ended reads reads' writes writes' old new No f h = absurd f
    ended reads reads' writes writes' old new ReadFault f h = absurd f
    ended reads reads' writes writes' old new WriteFault f h = absurd f
    ended reads reads' writes writes' old new Usage f h = absurd f
    ended reads reads' writes writes' old new OutOfMemory f h = absurd f

  module _ (spec : Spec) (fine : IsWellSorted spec) where
    -- a reply of `trim` that finished is a trimmed report
    trimmed_answered :
        (told : Option (List ℕ)) (text : List ℕ) (status : Status) → IsFinished status →
        IsFileTrim spec told text status → IsAnsweredByYes spec text
    trimmed_answered told text status f (replied bytes are (accepted_report report is ok true said)) =
        finished.trimmed spec report text fine said
    trimmed_answered told text status f (replied bytes are (no_report line fault)) = absurd f
    trimmed_answered told text status f (replied bytes are (refused_report report line why is first)) = absurd f
    trimmed_answered told text status f (too_long_report long) = absurd f

    end_answered :
        (held : List ℕ → Option (List ℕ)) (task : Task) (raw : RawSpec) (text : List ℕ)
        (status : Status) → WritesReport task → IsFinished status →
        IsEnd held task raw spec text status → IsAnsweredByYes spec text
    end_answered held (checking print) raw text status w f e = absurd w
    end_answered held (refuting search) raw text status w f e =
        finished.made (search_alone search) spec text status fine e
    end_answered held (proving bounds) raw text status w f e =
        finished.made bounds spec text status fine e
    end_answered held (evaluating term steps) raw text status w f e = absurd w
    end_answered held (replaying report) raw text status w f e = absurd w
    end_answered held upgrading raw text status w f e = absurd w
    end_answered held (trimming report) raw text status w f e =
        trimmed_answered (held report) text status f e
    end_answered held (carrying_out path) raw text status w f e = absurd w

    -- a session that finished ends with its report
    session_answered :
        (told : Option (List ℕ)) (text : List ℕ) (status : Status) → IsFinished status →
        IsFileSession spec told text status → EndsAnswered spec text
    session_answered told text status f (for_bytes bytes read (carried_out commands are said right)) =
        let report = report_of 1000 said.state in
        (said.lines, report_text spec.sig report, said.is, finished.by_hand spec report fine right)
    session_answered told text status f (for_bytes bytes read (faulty line is)) = absurd f
    session_answered told text status f (too_long_commands long) = absurd f

    hand_answered :
        (held : List ℕ → Option (List ℕ)) (task : Task) (raw : RawSpec) (text : List ℕ)
        (status : Status) → IsByHand task → IsFinished status →
        IsEnd held task raw spec text status → EndsAnswered spec text
    hand_answered held (checking print) raw text status w f e = absurd w
    hand_answered held (refuting search) raw text status w f e = absurd w
    hand_answered held (proving bounds) raw text status w f e = absurd w
    hand_answered held (evaluating term steps) raw text status w f e = absurd w
    hand_answered held (replaying report) raw text status w f e = absurd w
    hand_answered held upgrading raw text status w f e = absurd w
    hand_answered held (trimming report) raw text status w f e = absurd w
    hand_answered held (carrying_out path) raw text status w f e =
        session_answered (held path) text status f e

  module _
      (IsOfKind : Task → Type 0) (IsSo : Spec → List ℕ → Type 0)
      (so : (spec : Spec) → IsWellSorted spec → (held : List ℕ → Option (List ℕ)) (task : Task)
      (raw : RawSpec) (text : List ℕ) (status : Status) → IsOfKind task → IsFinished status →
      IsEnd held task raw spec text status → IsSo spec text)
    where
      written :
          (bytes text : List ℕ) → FinishedRun IsOfKind bytes text →
          (length bytes ≤ file_limit bytes) × TextOf IsSo bytes text
      written bytes text run =
          let e =
          ended run.words run.held run.file run.task run.asks bytes run.told run.reads run.reads'
          run.writes run.writes' (Some run.before) (Some (run.before ++ text)) run.status
          run.finished run.means in
          let end = e.1 in
          let same : text ≡ end.text =
          append_cancel_left run.before text end.text
          (same_some (run.before ++ text) (run.before ++ end.text) end.appended) in
          let fine =
          well_sorted_meaning bytes end.spec (end.raw, end.accepted.derived, end.accepted.stands) in
          let is_so =
          so end.spec fine run.held run.task end.raw end.text run.status run.is_of_kind run.finished
          end.is_end in (
            e.0,
            record {
              raw = end.raw;
              spec = end.spec;
              accepted = end.accepted;
              so = subst (λ t. IsSo end.spec t) (sym same) is_so;
            },
          )

  module _
      (bytes report : List ℕ) (short : length bytes ≤ file_limit bytes)
      (r : TextOf IsAnsweredByYes bytes report)
      (words : List (List ℕ)) (held : List ℕ → Option (List ℕ)) (file name : List ℕ)
      (asks : Asks words file (replaying name)) (told : held file ≡ Some bytes)
      (told_report : held name ≡ Some report) (old new : Option (List ℕ)) where
    -- a call that ended with yes
    abbrev SaysYes : Status → Type 0
    SaysYes s = (s ≡ Done) × ((claims : List Claim) × Appended old new (yes_line claims))

    says_yes :
        (reads reads' writes writes' : ℕ) (s : Status) →
        Means words held reads reads' old new writes writes' s → (Rose reads reads' → ⊥) →
        (Rose writes writes' → ⊥) → (s ≡ OutOfMemory → ⊥) → SaysYes s
    says_yes reads reads' writes writes' s means a b c =
        let e =
        replay_ends ending request bytes r.raw r.spec r.accepted short words held file name asks told
        old new reads reads' writes writes' s means a b c in
        let now =
        replay_told ending request bytes r.raw r.spec r.accepted short words held file name asks told
        old new report told_report s e in
        let is = r.so.only e.text s now in
        (is.1, (r.so.claims, subst (λ t. Appended old new t) is.0 e.appended))

  yes_replayed :
      (bytes report : List ℕ) → length bytes ≤ file_limit bytes → TextOf IsAnsweredByYes bytes report →
      IsReplayed bytes report
  yes_replayed bytes report short r words held file name reads reads' writes writes' old new status
      asks told told_report means a b c =
      says_yes bytes report short r words held file name asks told told_report old new reads reads'
      writes writes' status means a b c

  pub runs_replayed : FinishedRunsAreReplayed
  runs_replayed = record {
    whole = λ bytes report run. (
        let w = written WritesReport IsAnsweredByYes end_answered bytes report run in
        yes_replayed bytes report w.0 w.1
        );
    by_hand = λ bytes text run. (
        let w = written IsByHand EndsAnswered hand_answered bytes text run in
        let ends = w.1.so in
        let r : TextOf IsAnsweredByYes bytes ends.1 =
        record { raw = w.1.raw; spec = w.1.spec; accepted = w.1.accepted; so = ends.3 } in
        (ends.0, ends.1, ends.2, yes_replayed bytes ends.1 w.0 r)
        );
  }
