use Rattle.sort_check.proofs.Elaborates.{ground_answers}
use Rattle.sort_check.proofs.elaborating.ground_term.Goals as goal

pub returns : goal.returns
returns c = ground_answers c.args.sig.now c.args.raw.now c.new.result.items c.term.new.entries.items
    c.term.result c.new.ensures.items c.term.ensures.answer
