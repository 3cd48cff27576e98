use Rattle.std.proofs.Common.{[], sym, subst}
use Rattle.term_core.specs.Tree.{app, none}
use Rattle.bank_machine.specs.Runs.{StandAt}
use Rattle.ground_eval.proofs.PartSorts.{stand_more}
use Rattle.ground_eval.proofs.parts.add_symbol.Goals as goal

pub returns-clause-stand : goal.returns-clause-stand
returns-clause-stand c terms h =
    stand_more c.args.bank.now c.add.new.self c.in_ok-ids.ids.items c.push.new.self.items terms _
    (app c.args.symbol none) c.in_ok-place.ensures.adds
    (subst (λ ids. StandAt c.args.bank.now ids terms) (sym c.in_ok-ids.ensures.items) h) (
      [],
      c.in_ok-place.ensures.found,
      tt,
    ) c.in_ok-push.ensures.items
