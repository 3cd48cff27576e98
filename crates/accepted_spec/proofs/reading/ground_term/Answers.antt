use Rattle.std.proofs.Common.{ap}
use Rattle.std.specs.Prelude.{Err}
use Rattle.spec_grammar.specs.Grammar.{IsTermText}
use Rattle.sort_check.specs.FirstFault.{TermHasFirstFault}
use Rattle.accepted_spec.specs.declared.refusals.Subject.TheVariants.{Term}
use Rattle.accepted_spec.proofs.Told.{syntax_told, sort_told}
use Rattle.accepted_spec.proofs.reading.ground_term.Goals as goal

pub returns-in-Err-clause-refused : goal.returns-in-Err-clause-refused
returns-in-Err-clause-refused c = syntax_told Term IsTermText (TermHasFirstFault c.args.sig.now)
    c.args.bytes.now c.in-Err.fault c.in-Err.ensures.fault c.syntax_refusal.result c.syntax_refusal.ensures

pub returns-clause-refused : goal.returns-clause-refused
returns-clause-refused c = sort_told Term IsTermText (TermHasFirstFault c.args.sig.now) c.args.bytes.now
    c.in-Ok.raw c.in-Ok.ensures.derived c.in-Err-elaborate_term.fault
    (λ at kind e. c.in-Err-elaborate_term.ensures.fault at kind (ap (λ f. Err f) e)) c.sort_refusal.result
    c.sort_refusal.ensures
