-- What a text leads to is one thing.
use Rattle.std.specs.Prelude.{◌≡◌, ℕ, List}
use Rattle.term_core.specs.Tree.{Tree}
use Rattle.spec_core.specs.declared.records.Spec.{Spec}
use Rattle.spec_core.specs.Sig.{Sig}
use Rattle.spec_core.specs.Declarations.{IsDeclared}
use Rattle.spec_grammar.specs.declared.raw.RawSpec.{RawSpec}
use Rattle.spec_core.specs.WellSorted.{IsWellSorted}
use Rattle.spec_order.specs.Orders.{above_of}
use Rattle.clause_core.specs.declared.reports.Report.{Report}
use Rattle.proof_script.specs.Texts.{IsReportText}
use Rattle.acceptance.specs.Accepting.{IsAccepted}
use Rattle.file_replies.specs.declared.statuses.Status.{Status}
use Rattle.file_replies.specs.declared.statuses.Status.TheVariants.{Done}
use Rattle.accepted_spec.specs.Meanings.{IsAcceptedAs, TermTextStandsFor}
use Rattle.accepted_spec.specs.Refusals.{IsRefusalOf, IsTermRefusal}
use Rattle.file_replies.specs.Replies.{IsReply}
use Rattle.spike_cli.specs.Replays.{IsYesLine}
use Rattle.spike_cli.specs.Trims.{IsTrimmedText}
use Rattle.spike_cli.specs.Sessions.{IsSession}

-- over a declared signature a term's text stands for one term at most, and none if it has a line
-- of refusal; it has one such line at most
pub record OneTermEnding : Type 0 where
  pub one_term : (sig : Sig) (bytes : List ℕ) (t other : Tree) → IsDeclared sig
      → TermTextStandsFor sig bytes t → TermTextStandsFor sig bytes other → t ≡ other
  pub no_refusal : (sig : Sig) (bytes line : List ℕ) (t : Tree)
      → TermTextStandsFor sig bytes t → IsTermRefusal sig bytes line → ⊥
  pub one_refusal : (sig : Sig) (bytes line other : List ℕ)
      → IsTermRefusal sig bytes line → IsTermRefusal sig bytes other → line ≡ other

-- a text is accepted as one specification at most, and as none if it has a line of refusal; it has
-- one such line at most
pub record OneEnding : Type 0 where
  pub one_specification : (bytes : List ℕ) (raw again : RawSpec) (spec other : Spec)
      → IsAcceptedAs bytes raw spec → IsAcceptedAs bytes again other
      → (raw ≡ again) × (spec ≡ other)
  pub no_refusal : (bytes line : List ℕ) (raw : RawSpec) (spec : Spec)
      → IsAcceptedAs bytes raw spec → IsRefusalOf bytes line → ⊥
  pub one_refusal : (bytes line other : List ℕ)
      → IsRefusalOf bytes line → IsRefusalOf bytes other → line ≡ other
  pub terms : OneTermEnding

-- on a well sorted specification the bytes of a report get one text and one status at most, and Done
-- if they are a report that is accepted
pub record OneReply (IsYes : Spec → Report → List ℕ → Type 0) : Type 0 where
  pub one : (spec : Spec) (bytes text other : List ℕ) (status again : Status) → IsWellSorted spec
      → IsReply IsYes spec bytes text status → IsReply IsYes spec bytes other again
      → (text ≡ other) × (status ≡ again)
  pub done : (spec : Spec) (bytes text : List ℕ) (status : Status) (report : Report)
      → IsWellSorted spec → IsReportText spec.sig bytes report → IsAccepted (above_of spec) spec report
      → IsReply IsYes spec bytes text status → status ≡ Done

-- so it is of `replay`, and of `trim`
abbrev pub OneReplay : Type 0
OneReplay = OneReply IsYesLine

abbrev pub OneTrim : Type 0
OneTrim = OneReply IsTrimmedText

-- and the bytes of commands get one text and one status from `session`
pub record OneSession : Type 0 where
  pub one : (spec : Spec) (bytes text other : List ℕ) (status again : Status) → IsWellSorted spec
      → IsSession spec bytes text status → IsSession spec bytes other again
      → (text ≡ other) × (status ≡ again)
