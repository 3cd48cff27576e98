-- A report gets one reply on a file and on its upgraded form: both stand for one specification.
use Rattle.std.proofs.Common.{◌≡◌, ◌≤◌, ℕ, List, ◌++◌, Some, Bool, true, false, cond, refl, sym, subst, arith, length}
use Rattle.std.specs.Prelude.{codes, take}
use Rattle.std.specs.Fmt.{digits}
use Rattle.std.specs.Str.{bytes_eq}
use Rattle.std.proofs.lemmas.List.{append_cancel_left}
use Rattle.spec_core.specs.declared.records.Spec.{Spec}
use Rattle.spec_core.specs.WellSorted.{IsWellSorted}
use Rattle.spec_grammar.specs.Limits.{file_limit}
use Rattle.spec_grammar.specs.declared.raw.RawSpec.{RawSpec}
use Rattle.spec_printing.specs.Printed.{printed}
use Rattle.spec_printing.specs.Upgraded.{upgraded}
use Rattle.command_line.specs.Laws.{OneRequest}
use Rattle.accepted_spec.specs.Meanings.{IsAcceptedAs}
use Rattle.file_replies.specs.declared.statuses.Status.{Status}
use Rattle.file_replies.specs.Reads.{most_report_bytes, AreBytesOf, IsLonger}
use Rattle.spike_cli.specs.Outcomes.{OneEnding, OneReplay}
use Rattle.spike_cli.specs.Replays.{IsReplay, IsFileReplay}
use Rattle.file_replies.specs.Replies.{replied, too_long_report}
use Rattle.spike_cli.specs.UpgradedRuns.{ReplayRun, UpgradedRunsAnswerTheSame}
use Rattle.spike_cli.specs.Upgrades.{UpgradesKeepMeaning}
use Rattle.file_replies.proofs.Reported.{well_sorted_meaning}
use Rattle.spike_cli.proofs.ReplayRuns.{replay_ends, replay_told}

-- the limits of both formats
least : (b : Bool) → 1048576 ≤ cond b 4194304 1048576
least true = omega arith
least false = omega arith

least_limit : (bytes : List ℕ) → 1048576 ≤ file_limit bytes
least_limit bytes = least (bytes_eq (take 7 bytes) (codes "spike 2"))

upgraded_limit : (raw : RawSpec) → file_limit (printed (upgraded raw)) ≡ 4194304
unfolding digits
upgraded_limit raw = refl

same_some : (x y : List ℕ) → Some x ≡ Some y → x ≡ y
same_some x y e = let q : Some x ≡ Some y = e in cc

-- the bytes of a report have one reply
module _ (replay : OneReplay) (spec : Spec) (fine : IsWellSorted spec) (report : List ℕ) where
  not_longer : (bytes : List ℕ) → AreBytesOf (Some report) most_report_bytes bytes →
      IsLonger (Some report) most_report_bytes → ⊥
  not_longer bytes are long =
      let within : length report ≤ most_report_bytes =
      subst (λ b. length b ≤ most_report_bytes) are.told are.within in
      omega (arith, within, long)

  one_reply : (text other : List ℕ) (s again : Status) → IsFileReplay spec (Some report) text s →
      IsFileReplay spec (Some report) other again → (text ≡ other) × (s ≡ again)
  one_reply text other s again (replied bytes are is) (replied read told it) =
      let here : IsReplay spec report text s = subst (λ b. IsReplay spec b text s) are.told is in
      let there : IsReplay spec report other again = subst (λ b. IsReplay spec b other again) told.told it in
      replay.one spec report text other s again fine here there
  one_reply text other s again (replied bytes are is) (too_long_report long) = absurd (not_longer bytes are long)
  one_reply text other s again (too_long_report long) (replied read told it) = absurd (not_longer read told long)
  one_reply text other s again (too_long_report long) (too_long_report far) = (refl, refl)

module _ (ending : OneEnding) (request : OneRequest) (replay : OneReplay) where
  -- what a call wrote is the reply to the report
  reply_of :
      (bytes report : List ℕ) (raw : RawSpec) (spec : Spec) → IsAcceptedAs bytes raw spec →
      length bytes ≤ file_limit bytes → (text : List ℕ) (s : Status) → ReplayRun bytes report text s →
      IsFileReplay spec (Some report) text s
  reply_of bytes report raw spec accepted short text s r =
      let old = Some r.before in
      let new = Some (r.before ++ text) in
      let e = replay_ends ending request bytes raw spec accepted short r.words r.held r.file r.name
      r.asks r.told old new r.reads r.reads' r.writes r.writes' s r.means r.all_read
      r.all_written r.enough_memory in
      let now = replay_told ending request bytes raw spec accepted short r.words r.held r.file r.name
      r.asks r.told old new report r.told_report s e in
      let same : text ≡ e.text = append_cancel_left r.before text e.text
      (same_some (r.before ++ text) (r.before ++ e.text) e.appended) in
      subst (λ t. IsFileReplay spec (Some report) t s) (sym same) now

  pub answer_the_same : UpgradesKeepMeaning → UpgradedRunsAnswerTheSame
  answer_the_same keeps bytes report raw spec accepted few text other s again r q =
      let kept = keeps bytes raw spec accepted in
      let made = printed (upgraded raw) in
      let fine = well_sorted_meaning bytes spec (raw, accepted.derived, accepted.stands) in
      let short : length bytes ≤ file_limit bytes = omega (arith, few, least_limit bytes) in
      let made_short : length made ≤ file_limit made = omega (arith, few, kept.short, upgraded_limit raw) in
      let first = reply_of bytes report raw spec accepted short text s r in
      let second = reply_of made report kept.raw spec kept.accepted made_short other again q in
      one_reply replay spec fine report text other s again first second
