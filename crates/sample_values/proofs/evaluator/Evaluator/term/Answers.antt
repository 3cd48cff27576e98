use Rattle.std.proofs.Common.{sym, subst}
use Rattle.value_bank.specs.Cells.{IsTerm}
use Rattle.value_bank.proofs.Placed.{term_within}
use Rattle.sample_values.specs.Evaluators.{Evaluated}
use Rattle.sample_values.proofs.evaluator.Evaluator.term.Goals as goal

pub term-requires : goal.term-requires
term-requires c = term_within c.self.inside.bank c.args.place c.requires.0
    (subst (λ (e : Evaluated). IsTerm e.cells c.args.place c.requires.0) (sym c.self.view_is) c.requires.1)
