use Rattle.std.proofs.Common.{◌++◌, [], ◌∷◌, refl, sym, subst}
use Rattle.clause_core.specs.declared.reports.Claim.{Claim}
use Rattle.acceptance.specs.Claims.{SaysProved}
use Rattle.claimed_goals.specs.Tracking.{AreProved}
use Rattle.claimed_goals.proofs.Tracking.{numbers_more, numbers_stay, proves_not, tracks_more}
use Rattle.claimed_goals.proofs.goals.ClaimedGoals.add.Goals as goal

pub returns-in_ok-push : goal.returns-in_ok-push
returns-in_ok-push c = λ spec before name fine t is.
    let claim : Claim = record { goal = name; outcome = c.args.outcome.now } in
    tracks_more spec fine before claim c.args.number is c.args.self.now _ t c.requires.within refl
    (subst (λ ns. AreProved spec (before ++ claim ∷ []) ns) (sym c.in_ok-push.ensures.items)
    (numbers_more spec fine before claim c.args.number is c.args.self.now.proved.items
    (subst SaysProved (sym c.in-Proved.is) tt) t.proved))

pub returns-in_default : goal.returns-in_default
returns-in_default c = λ spec before name fine t is.
    let claim : Claim = record { goal = name; outcome = c.args.outcome.now } in
    tracks_more spec fine before claim c.args.number is c.args.self.now _ t c.requires.within refl
    (numbers_stay spec fine before claim c.args.number is c.args.self.now.proved.items
    (proves_not c.args.outcome.now c.in_default.not-Proved) t.proved)
