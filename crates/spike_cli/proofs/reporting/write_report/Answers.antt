use Rattle.std.proofs.Common.{◌≡◌, ◌≤◌, ◌<◌, ◌+◌, ◌∙◌, ℕ, List, [], ◌∷◌, ◌++◌, Some, inr, sym, ap, subst, refl, arith}
use Rattle.std.proofs.Common.{length, get_or, take}
use Rattle.std.specs.Prelude.{slice_get, codes}
use Rattle.std.proofs.lemmas.List.{append-nil, length-take, take_all}
use Rattle.std.proofs.lemmas.Option.{slice_get_read}
use Rattle.io_core.specs.Piece.{Appended}
use Rattle.spec_core.specs.declared.records.Goal.{Goal}
use Rattle.clause_core.specs.declared.reports.Claim.{Claim}
use Rattle.spec_order.specs.Orders.{order_of}
use Rattle.spec_order.proofs.OwnOrders.{by_own_order}
use Rattle.plain_search.specs.StandingBlocks.{PlainBlocksStand}
use Rattle.routine_proof.specs.Standing.{RoutineBlocksStand}
use Rattle.routine_proof.specs.Laws.{ProvesBehindClaims}
use Rattle.soundness.specs.AcceptedAreTrue.{AcceptedAreTrue}
use Rattle.search_claims.specs.Claims.{AreClaims, report_of}
use Rattle.spike_cli.specs.Claims.{IsClaimOn, IsNextClaim, IsStatusOfClaims, number_proved, proved_goals}
use Rattle.spike_cli.specs.Lemmas.{AreLemmas}
use Rattle.proof_script.specs.Words.{lines_text}
use Rattle.proof_script.specs.Claims.{claim_text, header_lines}
use Rattle.spike_cli.specs.Reports.{BeginsReport, IsReport, begun, begun_text, whole}
use Rattle.file_replies.specs.Stops.{Finishes, stop_of}
use Rattle.file_replies.specs.declared.stops.Stop.TheVariants.{OutOfMemory}
use Rattle.search_claims.proofs.FirstClaims.{claims_more, first_claims}
use Rattle.spike_cli.proofs.AcceptedClaims.{lemmas_of_next, report_accepted}
use Rattle.spike_cli.proofs.ClaimLemmas.{status_more, status_of_goals}
use Rattle.spike_cli.proofs.NextClaims.{listed, proved_next}
use Rattle.spike_cli.proofs.ReportedClaims.{report_stands, report_short}
use Rattle.file_replies.specs.Reads.{most_report_bytes}
use Rattle.proof_script.specs.Texts.{IsReportText}
use Rattle.spike_cli.proofs.BegunTexts.{begun_text-more, begun_text-whole}
use Rattle.file_replies.proofs.Pieces.{stopped_more, stopped_same, piece_stopped, at_error, whole_prefix}
use Rattle.spike_cli.proofs.reporting.write_report.Goals as goal
use Rattle.io_core.proofs.Pieces.{Appended-append}

pub returns-in_err-write_header-clause-finishes : goal.returns-in_err-write_header-clause-finishes
returns-in_err-write_header-clause-finishes g c =
    let spec = c.admitted.inside.spec in
    let header = lines_text spec.sig (header_lines c.args.bounds.search.steps) in
    let start : BeginsReport c.args.bounds spec header =
    subst (λ t. BeginsReport c.args.bounds spec t) (append-nil header) (begun [] tt) in
    rw (← c.admitted.view_is)
    (at_error (Finishes (g.S.Sink.written c.args.out.now) (g.S.Sink.written c.write_header.new.out)
    (g.S.Sink.faults c.args.out.now) (g.S.Sink.faults c.write_header.new.out)
    (IsReport c.args.bounds spec) (BeginsReport c.args.bounds spec)) c.from_residual.result
    c.in_err-write_header.field-0.0 c.from_residual.ensures.1
    (stopped_same (λ t. t ≡ header) (BeginsReport c.args.bounds spec) _ _ _ _
    c.in_err-write_header.field-0.0 (λ t e. subst (λ t. BeginsReport c.args.bounds spec t)
    (sym e) start) c.in_err-write_header.ensures.header))

pub loop-number-init : goal.loop-number-init
loop-number-init g c = rw (← c.admitted.view_is) (
  [],
  tt,
  subst (λ t. Appended (g.S.Sink.written c.args.out.now) (g.S.Sink.written c.write_header.new.out)
      t) (sym (append-nil (lines_text c.admitted.inside.spec.sig
      (header_lines c.args.bounds.search.steps)))) c.in_ok-write_header.ensures.header,
  (λ x. x, λ x. x),
  c.in_ok-write_header.ensures.writes,
  c.new-proved.ensures.items,
)

pub write_claim-requires-clause-listed : goal.write_claim-requires-clause-listed
write_claim-requires-clause-listed g c =
    rw (← c.admitted.view_is)
    (listed c.admitted.inside.spec.goals c.as_slice-goal-items.result.now c.loop-number.number
    c.goal-item.result c.as_slice-goal-items.ensures c.loop-number-test.true c.goal-item.is)

pub write_claim-requires-clause-lemmas : goal.write_claim-requires-clause-lemmas
write_claim-requires-clause-lemmas g c =
    let spec = c.admitted.inside.spec in
    let i = rw (← c.admitted.view_is) at c.loop-number.invariant in
    let at =
    listed spec.goals c.as_slice-goal-items.result.now c.loop-number.number c.goal-item.result
    c.as_slice-goal-items.ensures c.loop-number-test.true c.goal-item.is in
    let own =
    subst (λ a. a.order ≡ order_of a.spec) (sym c.admitted.view_is) c.requires.ordered in
    let behind = by_own_order ProvesBehindClaims spec own c.proves_behind_claims.ensures in
    let known =
    lemmas_of_next spec behind c.args.bounds c.admitted.invariant.0 c.loop-number.number
    c.goal-item.result i.0 at i.1 in
    rw (← c.admitted.view_is)
    (subst (λ ns. AreLemmas c.args.bounds.search.steps spec c.goal-item.result ns)
    (sym (c.deref.ensures.value ∙ i.5)) known)

pub returns-in_err-claim-clause-finishes : goal.returns-in_err-claim-clause-finishes
returns-in_err-claim-clause-finishes g c =
    let spec = c.admitted.inside.spec in
    let bounds = c.args.bounds in
    let i = rw (← c.admitted.view_is) at c.loop-number.invariant in
    let number = c.loop-number.number in
    let at =
    listed spec.goals c.as_slice-goal-items.result.now number c.goal-item.result
    c.as_slice-goal-items.ensures c.loop-number-test.true c.goal-item.is in
    let IsText =
    λ (text : List ℕ). (claim : Claim) × IsClaimOn bounds spec c.deref.result.now
    c.goal-item.result claim × (text ≡ claim_text spec.sig claim) in
    let start : BeginsReport bounds spec (begun_text bounds.search.steps spec.sig i.0) =
    begun i.0 (first_claims (IsNextClaim bounds spec) spec.goals number [] i.0 i.1) in
    let with_claim = λ (t : List ℕ) (x : IsText t).
    let next : IsNextClaim bounds spec i.0 c.goal-item.result x.0 =
    subst (λ ns. IsClaimOn bounds spec ns c.goal-item.result x.0) (c.deref.ensures.value ∙ i.5)
    x.1 in
    let more =
    claims_more (IsNextClaim bounds spec) spec.goals number c.goal-item.result [] i.0 x.0 at
    next i.1 in
    subst (λ u. BeginsReport bounds spec u)
    (begun_text-more bounds.search.steps spec.sig i.0 x.0
    ∙ ap (λ u. begun_text bounds.search.steps spec.sig i.0 ++ u) (sym x.2))
    (begun (i.0 ++ x.0 ∷ []) (first_claims (IsNextClaim bounds spec) spec.goals (number + 1) []
    (i.0 ++ x.0 ∷ []) more)) in
    let stopped = rw (← c.admitted.view_is) at c.in_err-claim.ensures.claim in
    rw (← c.admitted.view_is)
    (at_error (Finishes (g.S.Sink.written c.args.out.now) (g.S.Sink.written c.write_claim.new.out)
    (g.S.Sink.faults c.args.out.now) (g.S.Sink.faults c.write_claim.new.out)
    (IsReport bounds spec) (BeginsReport bounds spec)) c.from_residual-in_err-claim.result
    c.in_err-claim.field-0.0 c.from_residual-in_err-claim.ensures.1
    (stopped_more IsText (BeginsReport bounds spec) _ _ _
    (begun_text bounds.search.steps spec.sig i.0) _ _ _ c.in_err-claim.field-0.0 i.4 i.2 start
    with_claim stopped))

pub returns-in_err-add_proved-clause-finishes : goal.returns-in_err-add_proved-clause-finishes
returns-in_err-add_proved-clause-finishes g c =
    let spec = c.admitted.inside.spec in
    let bounds = c.args.bounds in
    let i = rw (← c.admitted.view_is) at c.loop-number.invariant in
    let number = c.loop-number.number in
    let claim = c.in_ok-claim.claim in
    let made = c.in_ok-claim.ensures.claim in
    let is_claim = rw (← c.admitted.view_is) at made.0 in
    let with_claim = subst (λ a. Appended (g.S.Sink.written c.loop-number.out)
    (g.S.Sink.written c.write_claim.new.out) (claim_text a.spec.sig claim))
    (sym c.admitted.view_is) made.1 in
    let at =
    listed spec.goals c.as_slice-goal-items.result.now number c.goal-item.result
    c.as_slice-goal-items.ensures c.loop-number-test.true c.goal-item.is in
    let next : IsNextClaim bounds spec i.0 c.goal-item.result claim =
    subst (λ ns. IsClaimOn bounds spec ns c.goal-item.result claim)
    (c.deref.ensures.value ∙ i.5) is_claim in
    let more =
    claims_more (IsNextClaim bounds spec) spec.goals number c.goal-item.result [] i.0 claim at
    next i.1 in
    let text = begun_text bounds.search.steps spec.sig (i.0 ++ claim ∷ []) in
    let appended : Appended (g.S.Sink.written c.args.out.now)
    (g.S.Sink.written c.write_claim.new.out) text =
    subst (λ t. Appended (g.S.Sink.written c.args.out.now)
    (g.S.Sink.written c.write_claim.new.out) t)
    (sym (begun_text-more bounds.search.steps spec.sig i.0 claim))
    (Appended-append _ _ _ (begun_text bounds.search.steps spec.sig i.0)
    (claim_text spec.sig claim) i.2 with_claim) in
    let start : BeginsReport bounds spec text =
    begun (i.0 ++ claim ∷ []) (first_claims (IsNextClaim bounds spec) spec.goals (number + 1) []
    (i.0 ++ claim ∷ []) more) in
    rw (← c.admitted.view_is)
    (at_error (Finishes (g.S.Sink.written c.args.out.now) (g.S.Sink.written c.write_claim.new.out)
    (g.S.Sink.faults c.args.out.now) (g.S.Sink.faults c.write_claim.new.out)
    (IsReport bounds spec) (BeginsReport bounds spec)) c.from_residual-in_err-add_proved.result
    OutOfMemory c.from_residual-in_err-add_proved.ensures.1
    (inr (text, start, whole_prefix _ _ text appended)))

pub loop-number-preserved : goal.loop-number-preserved
loop-number-preserved g c =
    let spec = c.admitted.inside.spec in
    let bounds = c.args.bounds in
    let i = rw (← c.admitted.view_is) at c.loop-number.invariant in
    let number = c.loop-number.number in
    let claim = c.in_ok-claim.claim in
    let made = c.in_ok-claim.ensures.claim in
    let is_claim = rw (← c.admitted.view_is) at made.0 in
    let with_claim = subst (λ a. Appended (g.S.Sink.written c.loop-number.out)
    (g.S.Sink.written c.write_claim.new.out) (claim_text a.spec.sig claim))
    (sym c.admitted.view_is) made.1 in
    let at =
    listed spec.goals c.as_slice-goal-items.result.now number c.goal-item.result
    c.as_slice-goal-items.ensures c.loop-number-test.true c.goal-item.is in
    let next : IsNextClaim bounds spec i.0 c.goal-item.result claim =
    subst (λ ns. IsClaimOn bounds spec ns c.goal-item.result claim)
    (c.deref.ensures.value ∙ i.5) is_claim in
    let lt : number < length spec.goals =
    subst (λ gs. number < length gs) c.as_slice-goal-items.ensures c.loop-number-test.true in
    let kept = proved_next (IsNextClaim bounds spec) spec.goals number i.0 claim lt i.1 in
    rw (← c.admitted.view_is) (
      i.0 ++ claim ∷ [],
      claims_more (IsNextClaim bounds spec) spec.goals number c.goal-item.result [] i.0 claim at
          next i.1,
      subst (λ t. Appended (g.S.Sink.written c.args.out.now)
          (g.S.Sink.written c.write_claim.new.out) t)
          (sym (begun_text-more bounds.search.steps spec.sig i.0 claim))
          (Appended-append _ _ _ (begun_text bounds.search.steps spec.sig i.0)
          (claim_text spec.sig claim) i.2 with_claim),
      subst (λ s. IsStatusOfClaims (i.0 ++ claim ∷ []) s) (sym c.with_claim-status.ensures)
          (status_more i.0 claim c.loop-number.status i.3),
      omega (arith, i.4, c.in_ok-claim.ensures.writes),
      c.in_ok-add_proved.ensures ∙ (ap (λ ns. ns ++ number_proved number claim.outcome) i.5 ∙ kept),
    )

pub returns-in_err-write_all-clause-finishes : goal.returns-in_err-write_all-clause-finishes
returns-in_err-write_all-clause-finishes g c =
    let spec = c.admitted.inside.spec in
    let bounds = c.args.bounds in
    let i = rw (← c.admitted.view_is) at c.loop-number.invariant in
    let e = c.in_err-write_all.ensures in
    let end : length spec.goals ≤ c.loop-number.number =
    subst (λ gs. length gs ≤ c.loop-number.number) c.as_slice-goal-items.ensures
    c.loop-number-test.false in
    let all : AreClaims (IsNextClaim bounds spec) [] spec.goals i.0 =
    subst (λ gs. AreClaims (IsNextClaim bounds spec) [] gs i.0)
    (take_all c.loop-number.number spec.goals end) i.1 in
    let start : BeginsReport bounds spec (begun_text bounds.search.steps spec.sig i.0) =
    begun i.0 (first_claims (IsNextClaim bounds spec) spec.goals c.loop-number.number [] i.0
    i.1) in
    rw (← c.admitted.view_is)
    (at_error (Finishes (g.S.Sink.written c.args.out.now) (g.S.Sink.written c.write_all.new.out)
    (g.S.Sink.faults c.args.out.now) (g.S.Sink.faults c.write_all.new.out)
    (IsReport bounds spec) (BeginsReport bounds spec)) c.from_residual-in_err-write_all.result
    (stop_of c.in_err-write_all.field-0.0) c.from_residual-in_err-write_all.ensures.1
    (stopped_more (λ t. t ≡ codes "done\n") (BeginsReport bounds spec) _ _ _
    (begun_text bounds.search.steps spec.sig i.0) _ _ _ (stop_of c.in_err-write_all.field-0.0)
    i.4 i.2 start (λ t x. subst (λ u. BeginsReport bounds spec u)
    (sym (ap (λ u. begun_text bounds.search.steps spec.sig i.0 ++ u) x ∙ begun_text-whole
    bounds.search.steps spec.sig i.0)) (whole i.0 all))
    (piece_stopped (λ t. t ≡ codes "done\n") _ _ _ _ (codes "done\n")
    c.in_err-write_all.field-0.0 refl e.prefix e.failed)))

pub returns-clause-finishes : goal.returns-clause-finishes
returns-clause-finishes g c =
    let spec = c.admitted.inside.spec in
    let bounds = c.args.bounds in
    let i = rw (← c.admitted.view_is) at c.loop-number.invariant in
    let end : length spec.goals ≤ c.loop-number.number =
    subst (λ gs. length gs ≤ c.loop-number.number) c.as_slice-goal-items.ensures
    c.loop-number-test.false in
    let all : AreClaims (IsNextClaim bounds spec) [] spec.goals i.0 =
    subst (λ gs. AreClaims (IsNextClaim bounds spec) [] gs i.0)
    (take_all c.loop-number.number spec.goals end) i.1 in
    let report = report_of bounds.search.steps i.0 in
    let text = begun_text-whole bounds.search.steps spec.sig i.0 in
    let reported = rw (← c.admitted.view_is) at c.requires.reported in
    let own =
    subst (λ a. a.order ≡ order_of a.spec) (sym c.admitted.view_is) c.requires.ordered in
    let plain = by_own_order PlainBlocksStand spec own c.plain_blocks_stand.ensures in
    let routine = by_own_order RoutineBlocksStand spec own c.routine_blocks_stand.ensures in
    let behind = by_own_order ProvesBehindClaims spec own c.proves_behind_claims.ensures in
    let sound = by_own_order AcceptedAreTrue spec own c.accepted_are_true.ensures in
    let accepted = report_accepted spec behind bounds reported.fine i.0 all in
    rw (← c.admitted.view_is) (
      begun_text bounds.search.steps spec.sig i.0 ++ codes "done\n",
      record {
        claims = i.0;
        are_claims = all;
        is_text = text;
        stands =
            subst (λ t. IsReportText spec.sig t report) (sym text)
            (report_stands spec plain routine bounds reported c.requires.within i.0 all);
        short =
            subst (λ t. length t ≤ most_report_bytes) (sym text)
            (report_short spec plain routine bounds reported c.requires.within i.0 all);
        accepted = accepted;
        true = sound spec report reported.fine reported.admitted accepted;
        answers = i.3;
        exact = status_of_goals bounds spec i.0 c.loop-number.status all i.3;
      },
      Appended-append _ _ _ (begun_text bounds.search.steps spec.sig i.0) (codes "done\n") i.2
          c.in_ok-write_all.ensures.appended,
    )
