use Rattle.spec_grammar.specs.Grammar.{IsSpecText}
use Rattle.spec_grammar.specs.Symbols.{spec_symbols}
use Rattle.spec_grammar.proofs.Agrees.{spec_agrees}
use Rattle.spec_grammar.proofs.Means.{spec_means}
use Rattle.spec_grammar.proofs.Unique.{one_spec}
use Rattle.spec_syntax.proofs.Few.{is_few}
use Rattle.spec_syntax.proofs.Settled.{is_derived, is_only, is_fault_told, is_exact}
use Rattle.spec_syntax.proofs.reading.read.Goals as goal

pub returns-clause-only : goal.returns-clause-only
returns-clause-only c = is_only spec_symbols IsSpecText spec_agrees spec_means one_spec c.args.bytes.now
    c.read_spec.result c.read_spec.ensures

pub returns-clause-fault : goal.returns-clause-fault
returns-clause-fault c = is_fault_told spec_symbols IsSpecText spec_agrees spec_means one_spec c.args.bytes.now
    c.read_spec.result c.read_spec.ensures

pub returns-clause-exact : goal.returns-clause-exact
returns-clause-exact c = is_exact spec_symbols IsSpecText spec_agrees spec_means one_spec c.args.bytes.now
    c.read_spec.result c.read_spec.ensures

pub returns-clause-few_words : goal.returns-clause-few_words
returns-clause-few_words c = is_few c.args.bytes.now c.read_spec.result
    (is_derived spec_symbols IsSpecText spec_agrees spec_means one_spec c.args.bytes.now c.read_spec.result
    c.read_spec.ensures)
