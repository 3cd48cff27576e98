use Rattle.std.proofs.Common.{◌≡◌, ℕ, List, subst, sym}
use Rattle.std.specs.Prelude.{Bool}
use Rattle.term_core.proofs.Items.{if_ok_map}
use Rattle.spec_core.specs.declared.records.Spec.{Spec}
use Rattle.spec_order.specs.Orders.{above_by, above_of}
use Rattle.spec_order.proofs.OwnOrders.{by_own_order}
use Rattle.session_core.specs.declared.commands.Command.{Command}
use Rattle.session_core.specs.declared.errors.CommandError.{CommandError}
use Rattle.session_core.specs.declared.errors.CommandError.TheVariants.{Line}
use Rattle.session_core.specs.CommandText.{AreCommands, TellsFault}
use Rattle.session_core.specs.SessionText.{IsSessionText}
use Rattle.soundness.specs.AcceptedAreTrue.{AcceptedAreTrue}
use Rattle.file_replies.specs.declared.statuses.Ending.{Ending}
use Rattle.file_replies.specs.declared.statuses.Status.{Status}
use Rattle.file_replies.specs.declared.statuses.Status.TheVariants as ends
use Rattle.spike_cli.specs.Sessions.{faulty_command_line, IsSession, carried_out, faulty}
use Rattle.spike_cli.proofs.RightReports.{right_report}
use Rattle.spike_cli.proofs.sessions.session_of.Goals as goal

-- a line that is at fault is reported
fault_told :
    (spec : Spec) (bytes : List ℕ) (error : CommandError) → TellsFault spec.sig bytes error →
    (made : Ending) (line : ℕ) → error ≡ Line line → made.text.items ≡ faulty_command_line line →
    made.status ≡ ends.Refused → IsSession spec bytes made.text.items made.status
fault_told spec bytes error told made line is text ends_so =
    let fault = subst (λ (e : CommandError). TellsFault spec.sig bytes e) is told in
    subst (λ s. IsSession spec bytes made.text.items s) (sym ends_so)
    (subst (λ t. IsSession spec bytes t ends.Refused) (sym text) (faulty line fault))

pub returns-in-Err : goal.returns-in-Err
returns-in-Err c =
    let spec = c.args.admitted.now.spec in
    let bytes = c.args.bytes.now in
    let told = subst (λ a. TellsFault a.spec.sig bytes c.in-Err.error) c.admitted.view_is c.in-Err.ensures in
    if_ok_map c.faulty_line.result _
    (λ (made : Ending). IsSession spec bytes made.text.items made.status)
    (λ made h. fault_told spec bytes c.in-Err.error told made h.0 h.1 h.2 h.3)
    c.faulty_line.ensures

pub returns : goal.returns
returns c =
    let spec = c.args.admitted.now.spec in
    let own = c.requires.ordered in
    let bytes = c.args.bytes.now in
    let commands = c.in-Ok.commands.items in
    let session = c.in_ok-session.session in
    let are : AreCommands spec.sig bytes commands =
    subst (λ a. AreCommands a.spec.sig bytes commands) c.admitted.view_is c.in-Ok.ensures in
    let said : IsSessionText (above_of spec) spec commands session.text.items session.is_open =
    subst (λ (cs : List Command). IsSessionText (above_of spec) spec cs session.text.items session.is_open)
    c.deref.ensures.value
    (by_own_order (λ above. IsSessionText above spec c.deref.result.now session.text.items session.is_open)
    spec own c.in_ok-session.ensures) in
    let true_if =
    by_own_order AcceptedAreTrue spec own
    (subst (λ a. AcceptedAreTrue (above_by a.order)) c.admitted.view_is c.accepted_are_true.ensures) in
    subst (λ (s : Status). IsSession spec bytes session.text.items s) (sym c.status_at_end.ensures)
    (carried_out commands are said (right_report spec c.requires.reported true_if bytes commands
    session.text.items session.is_open are said))
