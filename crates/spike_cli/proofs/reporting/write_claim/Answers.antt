use Rattle.std.proofs.Common.{◌≡◌, ◌∙◌, List, ℕ, sym, subst}
use Rattle.io_core.specs.Piece.{Appended}
use Rattle.term_core.proofs.Items.{all_at}
use Rattle.clause_core.specs.declared.reports.Claim.{Claim}
use Rattle.spec_order.specs.Orders.{order_of}
use Rattle.spec_order.proofs.OwnOrders.{by_own_order}
use Rattle.plain_search.specs.StandingBlocks.{PlainBlocksStand}
use Rattle.routine_proof.specs.Standing.{RoutineBlocksStand}
use Rattle.search_claims.specs.Names.{GoalNamesStand}
use Rattle.spike_cli.specs.Claims.{IsClaimOn}
use Rattle.proof_script.specs.Claims.{claim_text}
use Rattle.spike_cli.specs.Stops.{WritesClaim}
use Rattle.file_replies.specs.Stops.{stop_of}
use Rattle.spike_cli.proofs.ReportedClaims.{claim_in_range}
use Rattle.file_replies.proofs.Pieces.{piece_stopped, at_error}
use Rattle.spike_cli.proofs.reporting.write_claim.Goals as goal

pub print_claim-requires : goal.print_claim-requires
print_claim-requires g c =
    let spec = c.admitted.inside.spec in
    let own =
    subst (λ a. a.order ≡ order_of a.spec) (sym c.admitted.view_is) c.requires.ordered in
    let plain = by_own_order PlainBlocksStand spec own c.plain_blocks_stand.ensures in
    let routine = by_own_order RoutineBlocksStand spec own c.routine_blocks_stand.ensures in
    let reported = rw (← c.admitted.view_is) at c.requires.reported in
    let listed = rw (← c.admitted.view_is) at c.requires.listed in
    let made = rw (← c.admitted.view_is) at c.in_ok-claim.ensures in
    let one = c.args.goal.goal.now in
    let number = c.args.goal.number in
    let sorted = reported.fine.goals number one listed in
    let names = all_at GoalNamesStand spec.goals reported.names.goals number one listed in
    claim_in_range spec plain routine c.args.bounds reported c.requires.within c.args.lemmas.now one
    c.in_ok-claim.claim sorted names made

pub returns-in_err-write_all-clause-claim : goal.returns-in_err-write_all-clause-claim
returns-in_err-write_all-clause-claim g c =
    let spec = c.admitted.inside.spec in
    let one = c.args.goal.goal.now in
    let made = rw (← c.admitted.view_is) at c.in_ok-claim.ensures in
    let IsText =
    λ (text : List ℕ). (claim : Claim) × IsClaimOn c.args.bounds spec c.args.lemmas.now one claim
    × (text ≡ claim_text spec.sig claim) in
    let e = c.in_err-write_all.ensures in
    rw (← c.admitted.view_is)
    (at_error (WritesClaim (g.S.Sink.written c.args.out.now) (g.S.Sink.written c.write_all.new.out)
    (g.S.Sink.faults c.args.out.now) (g.S.Sink.faults c.write_all.new.out) c.args.bounds spec
    c.args.lemmas.now one) c.from_residual-in_err-write_all.result
    (stop_of c.in_err-write_all.field-0.0) c.from_residual-in_err-write_all.ensures.1
    (piece_stopped IsText (g.S.Sink.written c.args.out.now)
    (g.S.Sink.written c.write_all.new.out) (g.S.Sink.faults c.args.out.now)
    (g.S.Sink.faults c.write_all.new.out) c.deref.result.now c.in_err-write_all.field-0.0
    (c.in_ok-claim.claim, made, c.deref.ensures.value ∙ c.in_ok-text.ensures) e.prefix e.failed))

pub returns-clause-claim : goal.returns-clause-claim
returns-clause-claim g c =
    let claim = c.in_ok-claim.claim in
    let old = g.S.Sink.written c.args.out.now in
    let new = g.S.Sink.written c.write_all.new.out in
    let appended : Appended old new (claim_text c.admitted.inside.spec.sig claim) =
    subst (λ (t : List ℕ). Appended old new t) (c.deref.ensures.value ∙ c.in_ok-text.ensures)
    c.in_ok-write_all.ensures.appended in (
      c.in_ok-claim.ensures,
      subst (λ a. Appended old new (claim_text a.spec.sig claim)) c.admitted.view_is appended,
    )
