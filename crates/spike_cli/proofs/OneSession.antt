-- What the bytes of commands lead to is one thing.
use Rattle.std.proofs.Common.{◌≡◌, ℕ, List, ap, refl, subst}
use Rattle.std.specs.Prelude.{Bool}
use Rattle.spec_core.specs.declared.records.Spec.{Spec}
use Rattle.spec_core.specs.WellSorted.{IsWellSorted}
use Rattle.spec_order.specs.Orders.{above_of}
use Rattle.session_core.specs.declared.commands.Command.{Command}
use Rattle.clause_core.proofs.OneRelation.{one_relation}
use Rattle.session_core.specs.Laws.{OneReading}
use Rattle.session_core.specs.SessionText.{IsSessionText}
use Rattle.session_core.proofs.OneText.{text_one}
use Rattle.file_replies.specs.declared.statuses.Status.{Status}
use Rattle.spike_cli.specs.Outcomes.{OneSession}
use Rattle.spike_cli.specs.Sessions.{IsSession, carried_out, faulty, faulty_command_line, status_at_end}

module _ (reading : OneReading) where
  same :
      (spec : Spec) (bytes text other : List ℕ) (status again : Status) → IsWellSorted spec →
      IsSession spec bytes text status → IsSession spec bytes other again →
      (text ≡ other) × (status ≡ again)
  same spec bytes text other status again fine (carried_out commands {is_open = is_open} are said right)
      (carried_out others {is_open = open_too} are_too said_too right_too) =
      let list = reading.one_list spec.sig bytes others commands fine.signature are_too are in
      let moved =
      subst (λ (cs : List Command). IsSessionText (above_of spec) spec cs other open_too) list said_too in
      let one =
      text_one (above_of spec) spec (one_relation (above_of spec)) fine commands text other is_open open_too
      said moved in
      (one.0, ap status_at_end one.1)
  same spec bytes text other status again fine (carried_out commands are said right) (faulty line is) =
      absurd (reading.no_fault spec.sig bytes commands line are is)
  same spec bytes text other status again fine (faulty line is) (carried_out commands are said right) =
      absurd (reading.no_fault spec.sig bytes commands line are is)
  same spec bytes text other status again fine (faulty line is) (faulty place is_too) =
      (ap faulty_command_line (reading.one_fault spec.sig bytes line place is is_too), refl)

  pub one_session : OneSession
  one_session = record { one = same }
