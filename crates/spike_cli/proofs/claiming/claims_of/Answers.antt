use Rattle.std.proofs.Common.{◌≡◌, ◌≤◌, ◌<◌, ◌+◌, ◌∙◌, ℕ, [], ◌∷◌, ◌++◌, sym, ap, subst}
use Rattle.std.proofs.Common.{length, take}
use Rattle.std.proofs.lemmas.List.{take_all}
use Rattle.spec_order.specs.Orders.{order_of}
use Rattle.spec_order.proofs.OwnOrders.{by_own_order}
use Rattle.routine_proof.specs.Laws.{ProvesBehindClaims}
use Rattle.search_claims.specs.Claims.{AreClaims}
use Rattle.search_claims.proofs.FirstClaims.{claims_more}
use Rattle.spike_cli.specs.Claims.{IsClaimOn, IsNextClaim, number_proved, proved_goals}
use Rattle.spike_cli.specs.Lemmas.{AreLemmas}
use Rattle.spike_cli.proofs.AcceptedClaims.{lemmas_of_next}
use Rattle.spike_cli.proofs.NextClaims.{listed, proved_next}
use Rattle.spike_cli.proofs.claiming.claims_of.Goals as goal

pub claim_on-requires-clause-listed : goal.claim_on-requires-clause-listed
claim_on-requires-clause-listed c =
    rw (← c.admitted.view_is)
    (listed c.admitted.inside.spec.goals c.as_slice-goal-items.result.now c.loop-number.number
    c.goal-item.result c.as_slice-goal-items.ensures c.loop-number-test.true c.goal-item.is)

pub claim_on-requires-clause-lemmas : goal.claim_on-requires-clause-lemmas
claim_on-requires-clause-lemmas c =
    let spec = c.admitted.inside.spec in
    let i = rw (← c.admitted.view_is) at c.loop-number.invariant in
    let at =
    listed spec.goals c.as_slice-goal-items.result.now c.loop-number.number c.goal-item.result
    c.as_slice-goal-items.ensures c.loop-number-test.true c.goal-item.is in
    let own =
    subst (λ a. a.order ≡ order_of a.spec) (sym c.admitted.view_is) c.requires.ordered in
    let behind = by_own_order ProvesBehindClaims spec own c.proves_behind_claims.ensures in
    let known =
    lemmas_of_next spec behind c.args.bounds c.admitted.invariant.0 c.loop-number.number
    c.goal-item.result c.loop-number.made.items at i.claims in
    rw (← c.admitted.view_is)
    (subst (λ ns. AreLemmas c.args.bounds.search.steps spec c.goal-item.result ns)
    (sym (c.deref.ensures.value ∙ i.proved)) known)

pub loop-number-init : goal.loop-number-init
loop-number-init c =
    record {
      claims =
          subst (λ claims. AreClaims (IsNextClaim c.args.bounds c.args.admitted.now.spec) [] [] claims)
          (sym c.new-made.ensures.items) tt;
      proved = c.new-proved.ensures.items ∙ ap (λ claims. proved_goals claims) (sym c.new-made.ensures.items);
    }

pub loop-number-preserved : goal.loop-number-preserved
loop-number-preserved c =
    let spec = c.admitted.inside.spec in
    let bounds = c.args.bounds in
    let i = rw (← c.admitted.view_is) at c.loop-number.invariant in
    let number = c.loop-number.number in
    let made = c.loop-number.made.items in
    let claim = c.in_ok-claim.claim in
    let is_claim = rw (← c.admitted.view_is) at c.in_ok-claim.ensures in
    let at =
    listed spec.goals c.as_slice-goal-items.result.now number c.goal-item.result
    c.as_slice-goal-items.ensures c.loop-number-test.true c.goal-item.is in
    let next : IsNextClaim bounds spec made c.goal-item.result claim =
    subst (λ ns. IsClaimOn bounds spec ns c.goal-item.result claim)
    (c.deref.ensures.value ∙ i.proved) is_claim in
    let lt : number < length spec.goals =
    subst (λ gs. number < length gs) c.as_slice-goal-items.ensures c.loop-number-test.true in
    rw (← c.admitted.view_is) (record {
      claims =
          subst (λ claims. AreClaims (IsNextClaim bounds spec) [] (take (number + 1) spec.goals) claims)
          (sym c.in_ok-push.ensures.items)
          (claims_more (IsNextClaim bounds spec) spec.goals number c.goal-item.result [] made claim at
          next i.claims);
      proved =
          c.in_ok-add_proved.ensures ∙ (ap (λ ns. ns ++ number_proved number claim.outcome) i.proved
          ∙ (proved_next (IsNextClaim bounds spec) spec.goals number made claim lt i.claims
          ∙ ap (λ claims. proved_goals claims) (sym c.in_ok-push.ensures.items)));
    })

pub returns : goal.returns
returns c =
    let spec = c.admitted.inside.spec in
    let i = rw (← c.admitted.view_is) at c.loop-number.invariant in
    let end : length spec.goals ≤ c.loop-number.number =
    subst (λ gs. length gs ≤ c.loop-number.number) c.as_slice-goal-items.ensures
    c.loop-number-test.false in
    rw (← c.admitted.view_is)
    (subst (λ gs. AreClaims (IsNextClaim c.args.bounds spec) [] gs c.loop-number.made.items)
    (take_all c.loop-number.number spec.goals end) i.claims)
