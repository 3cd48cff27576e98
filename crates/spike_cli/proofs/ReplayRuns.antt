-- A call on an accepted file that isn't too long ends on it, if nothing fails.
use Rattle.std.proofs.Common.{◌≡◌, ◌∙◌, ◌<◌, ◌≤◌, ℕ, List, Option, Some, inl, inr, refl, ap, subst, arith, length}
use Rattle.std.specs.Prelude.{IfSome}
use Rattle.io_core.specs.Count.{Rose}
use Rattle.spec_core.specs.declared.records.Spec.{Spec}
use Rattle.spec_grammar.specs.Limits.{file_limit}
use Rattle.spec_grammar.specs.declared.raw.RawSpec.{RawSpec}
use Rattle.command_line.specs.Laws.{OneRequest}
use Rattle.command_line.specs.Tasks.{Task, replaying, Asks}
use Rattle.accepted_spec.specs.Meanings.{IsAcceptedAs}
use Rattle.file_replies.specs.Reads.{AreTextOf, PassesItsLimit}
use Rattle.file_replies.specs.declared.statuses.Status.{Status}
use Rattle.file_replies.specs.declared.statuses.Status.TheVariants.{Done, Refuted, Open, Refused, No, ReadFault}
use Rattle.file_replies.specs.declared.statuses.Status.TheVariants.{WriteFault, Usage, OutOfMemory}
use Rattle.spike_cli.specs.Outcomes.{OneEnding}
use Rattle.spike_cli.specs.Replays.{IsFileReplay}
use Rattle.spike_cli.specs.Runs.{Ended, RefusedBytes, ReadsFile, Means}

read_told :
    (held : Option (List ℕ)) (bytes told : List ℕ) → held ≡ Some told → AreTextOf held bytes →
    bytes ≡ told
read_told held bytes told e are =
    subst (λ (o : Option (List ℕ)). IfSome o (λ whole. bytes ≡ whole)) e are.told

not_longer :
    (held : Option (List ℕ)) (bytes : List ℕ) → held ≡ Some bytes → length bytes ≤ file_limit bytes →
    PassesItsLimit held → ⊥
not_longer held bytes e short long =
    let far : file_limit bytes < length bytes = subst PassesItsLimit e long in
    omega (arith, far, short)

-- what is so of the task and the bytes that a call read
pub of_file :
    (request : OneRequest) (words : List (List ℕ)) (held : List ℕ → Option (List ℕ)) (file : List ℕ)
    (task : Task) → Asks words file task → (bytes : List ℕ) → held file ≡ Some bytes →
    (Holds : Task → List ℕ → Type 0) → ReadsFile words held Holds →
    (length bytes ≤ file_limit bytes) × Holds task bytes
of_file request words held file task asks bytes told Holds r =
    let same = request.one_task words r.file file r.task task r.asked asks in
    let here : held r.file ≡ Some bytes = ap held same.0 ∙ told in
    let is : r.bytes ≡ bytes = read_told (held r.file) r.bytes bytes here r.read in
    let h : Holds task r.bytes = subst (λ (k : Task). Holds k r.bytes) same.1 r.holds in
    (subst (λ b. length b ≤ file_limit b) is r.read.within, subst (λ b. Holds task b) is h)

module _
    (ending : OneEnding) (request : OneRequest) (bytes : List ℕ) (raw : RawSpec) (spec : Spec)
    (accepted : IsAcceptedAs bytes raw spec) (short : length bytes ≤ file_limit bytes)
    (words : List (List ℕ)) (held : List ℕ → Option (List ℕ)) (file name : List ℕ)
    (asks : Asks words file (replaying name)) (told : held file ≡ Some bytes)
    (old new : Option (List ℕ)) where
  by_file :
      (s : Status) → ReadsFile words held (λ k y. Ended held k y old new s) →
      Ended held (replaying name) bytes old new s
  by_file s h =
      (of_file request words held file (replaying name) asks bytes told (λ k y. Ended held k y old new s) h).1

  pub replay_ends :
      (reads reads' writes writes' : ℕ) (s : Status) →
      Means words held reads reads' old new writes writes' s → (Rose reads reads' → ⊥) →
      (Rose writes writes' → ⊥) → (s ≡ OutOfMemory → ⊥) → Ended held (replaying name) bytes old new s
  replay_ends reads reads' writes writes' Done (inl h) a b c = by_file Done h
  replay_ends reads reads' writes writes' Done (inr l) a b c =
      absurd (request.not_both words file (replaying name) l.0 asks l.1)
  replay_ends reads reads' writes writes' Refuted h a b c = by_file Refuted h
  replay_ends reads reads' writes writes' Open h a b c = by_file Open h
  replay_ends reads reads' writes writes' Refused (inl t) a b c =
      let long = t.0 in
      let same = request.one_task words long.0 file long.1 (replaying name) long.2 asks in
      absurd (not_longer (held long.0) bytes (ap held same.0 ∙ told) short long.3)
  replay_ends reads reads' writes writes' Refused (inr h) a b c =
      let here = of_file request words held file (replaying name) asks bytes told
      (λ k y. RefusedBytes held k y old new) h in
      elim here.1 [
        | inl l ↦ absurd (ending.no_refusal bytes l.0 raw spec accepted l.1)
        | inr e ↦ e
      ]
  replay_ends reads reads' writes writes' No h a b c = by_file No h
  replay_ends reads reads' writes writes' ReadFault h a b c = absurd (a h.1)
  replay_ends reads reads' writes writes' WriteFault h a b c = absurd (b h.0)
  replay_ends reads reads' writes writes' Usage h a b c =
      absurd (request.no_task words file (replaying name) h.0 asks)
  replay_ends reads reads' writes writes' OutOfMemory h a b c = absurd (c refl)

  -- what a call that ended wrote is written for the bytes of its report
  pub replay_told :
      (report : List ℕ) → held name ≡ Some report → (s : Status)
      (e : Ended held (replaying name) bytes old new s) → IsFileReplay spec (Some report) e.text s
  replay_told report told_report s e =
      let same = ending.one_specification bytes e.raw raw e.spec spec e.accepted accepted in
      let here : IsFileReplay spec (held name) e.text s =
      subst (λ (x : Spec). IsFileReplay x (held name) e.text s) same.1 e.is_end in
      subst (λ (o : Option (List ℕ)). IsFileReplay spec o e.text s) told_report here
