use Rattle.spec_grammar.specs.Grammar.{IsSpecText}
use Rattle.spec_grammar.specs.Symbols.{spec_symbols}
use Rattle.spec_grammar.proofs.Agrees.{spec_agrees}
use Rattle.spec_grammar.proofs.Means.{spec_means}
use Rattle.spec_grammar.proofs.Unique.{one_spec}
use Rattle.spec_syntax.proofs.OneFault.{no_fault, same_fault}
use Rattle.spec_syntax.proofs.laws.one_fault.Goals as goal

pub returns : goal.returns
returns c = record {
  none = λ bytes. no_fault spec_symbols IsSpecText spec_agrees spec_means one_spec bytes;
  one = λ bytes. same_fault spec_symbols IsSpecText spec_agrees spec_means one_spec bytes;
}
