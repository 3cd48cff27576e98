use Rattle.std.proofs.Common.{◌≡◌, ◌++◌, ◌∷◌, [], List, ap, arith, length, map, sym, subst}
use Rattle.session_core.specs.declared.kept_goals.KeptGoal.{KeptGoal}
use Rattle.session_core.specs.Value.{kept_of}
use Rattle.session_core.proofs.ReportedClaims.{AreLeft, all_left, all_made, begins, one_made, within_rest}
use Rattle.session_core.proofs.reporting.claims_of.Goals as goal

pub loop-goal-init : goal.loop-goal-init
loop-goal-init c = λ b. subst (λ cs. AreLeft b cs (map kept_of c.args.goals.now) c.args.commands.now)
    (sym c.in_ok-claims.ensures.items) (all_left b)

pub claim_of-requires : goal.claim_of-requires
claim_of-requires c =
    let b = c.requires in
    let a : AreLeft b c.loop-goal.claims.items (kept_of c.in-Some.goal.now ∷ map kept_of c.in-Some.others.now)
    c.loop-goal.rest.now = subst (λ gs. AreLeft b c.loop-goal.claims.items (map kept_of gs) c.loop-goal.rest.now)
    c.in-Some.ensures (c.loop-goal.invariant b) in
    begins b c.loop-goal.claims.items (kept_of c.in-Some.goal.now) (map kept_of c.in-Some.others.now)
    c.loop-goal.rest.now a c.len-count.result (omega (arith, c.len-count.ensures))

pub after-rest-requires : goal.after-rest-requires
after-rest-requires c =
    let b = c.requires in
    let a : AreLeft b c.loop-goal.claims.items (kept_of c.in-Some.goal.now ∷ map kept_of c.in-Some.others.now)
    c.loop-goal.rest.now = subst (λ gs. AreLeft b c.loop-goal.claims.items (map kept_of gs) c.loop-goal.rest.now)
    c.in-Some.ensures (c.loop-goal.invariant b) in
    omega (
      arith,
      c.len-count.ensures,
      within_rest b c.loop-goal.claims.items (kept_of c.in-Some.goal.now)
          (map kept_of c.in-Some.others.now) c.loop-goal.rest.now a,
    )

pub loop-goal-preserved : goal.loop-goal-preserved
loop-goal-preserved c = λ b.
    let made = c.loop-goal.claims.items in
    let kept = kept_of c.in-Some.goal.now in
    let left = map kept_of c.in-Some.others.now in
    let rest = c.loop-goal.rest.now in
    let a : AreLeft b made (kept ∷ left) rest = subst (λ gs. AreLeft b made (map kept_of gs) rest) c.in-Some.ensures
    (c.loop-goal.invariant b) in
    let n : c.len-count.result ≡ length c.in-Some.goal.now.taken.links.items = omega (arith, c.len-count.ensures) in
    let claim = c.in_ok-claim_of.ensures (begins b made kept left rest a c.len-count.result n) in
    let next = one_made b made kept left rest a c.len-count.result n c.in_ok-claim_of.field-0 claim in
    subst (λ cs. AreLeft b cs left c.after-rest.result.now) (sym c.in_ok-push.ensures.items) (subst (λ cs. AreLeft b
    (made ++ c.in_ok-claim_of.field-0 ∷ []) left cs) (sym c.after-rest.ensures) next)

pub loop-goal-smaller : goal.loop-goal-smaller
loop-goal-smaller c = omega (arith, ap (λ (gs : List KeptGoal). length gs) c.in-Some.ensures)

pub returns : goal.returns
returns c = λ b. all_made b c.loop-goal.claims.items (map kept_of c.loop-goal.left.now) c.loop-goal.rest.now
    (c.loop-goal.invariant b) (ap (map kept_of) c.in_default.ensures)
