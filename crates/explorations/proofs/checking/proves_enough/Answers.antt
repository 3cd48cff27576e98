use Rattle.std.proofs.Common.{List, subst, sym}
use Rattle.spec_core.specs.declared.records.Goal.{Goal}
use Rattle.clause_core.specs.declared.reports.Claim.{Claim}
use Rattle.explorations.specs.Proved.{FurtherAreProved, StayProved}
use Rattle.explorations.proofs.checking.proves_enough.Goals as goal

pub returns-then-further_are_proved : goal.returns-then-further_are_proved
returns-then-further_are_proved c =
    let claims = c.args.report.now.claims in (
      λ yes. record {
        further = subst (λ (cs : List Claim). FurtherAreProved c.args.old.now.goals c.args.new.now.goals cs)
            c.as_slice-claims.ensures
            (subst (λ (gs : List Goal). FurtherAreProved c.args.old.now.goals gs c.as_slice-claims.result.now)
            c.as_slice-2.ensures
            (subst (λ (gs : List Goal). FurtherAreProved gs c.as_slice-2.result.now c.as_slice-claims.result.now)
            c.as_slice.ensures (c.further_are_proved.ensures.0 c.if-further_are_proved.true)));
        kept = subst (λ (cs : List Claim). StayProved c.args.base.now.claims cs) c.as_slice-claims.ensures
            (subst (λ (cs : List Claim). StayProved cs c.as_slice-claims.result.now)
            c.as_slice-then-further_are_proved.ensures (c.stay_proved.ensures.0 yes));
      },
      λ enough. c.stay_proved.ensures.1
          (subst (λ (cs : List Claim). StayProved c.as_slice-then-further_are_proved.result.now cs)
          (sym c.as_slice-claims.ensures)
          (subst (λ (cs : List Claim). StayProved cs claims) (sym c.as_slice-then-further_are_proved.ensures)
          enough.kept)),
    )
