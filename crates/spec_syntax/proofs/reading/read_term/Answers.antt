use Rattle.spec_grammar.specs.Grammar.{IsTermText}
use Rattle.spec_grammar.specs.Symbols.{term_symbols}
use Rattle.spec_grammar.proofs.Agrees.{term_text_agrees}
use Rattle.spec_grammar.proofs.Means.{term_means}
use Rattle.spec_grammar.proofs.Unique.{one_term_text}
use Rattle.spec_syntax.proofs.Few.{is_few_of_term}
use Rattle.spec_syntax.proofs.Settled.{is_derived, is_only, is_fault_told, is_exact}
use Rattle.spec_syntax.proofs.reading.read_term.Goals as goal

pub returns-clause-only : goal.returns-clause-only
returns-clause-only c = is_only term_symbols IsTermText term_text_agrees term_means one_term_text
    c.args.bytes.now c.read_one_term.result c.read_one_term.ensures

pub returns-clause-fault : goal.returns-clause-fault
returns-clause-fault c = is_fault_told term_symbols IsTermText term_text_agrees term_means one_term_text
    c.args.bytes.now c.read_one_term.result c.read_one_term.ensures

pub returns-clause-exact : goal.returns-clause-exact
returns-clause-exact c = is_exact term_symbols IsTermText term_text_agrees term_means one_term_text
    c.args.bytes.now c.read_one_term.result c.read_one_term.ensures

pub returns-clause-few_words : goal.returns-clause-few_words
returns-clause-few_words c = is_few_of_term c.args.bytes.now c.read_one_term.result
    (is_derived term_symbols IsTermText term_text_agrees term_means one_term_text c.args.bytes.now
    c.read_one_term.result c.read_one_term.ensures)
