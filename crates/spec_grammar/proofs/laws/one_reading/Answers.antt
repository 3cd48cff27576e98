use Rattle.spec_grammar.specs.Grammar.{IsSpecText, IsTermText}
use Rattle.spec_grammar.specs.Symbols.{spec_symbols, term_symbols}
use Rattle.spec_grammar.proofs.Agrees.{spec_agrees, term_text_agrees}
use Rattle.spec_grammar.proofs.Means.{spec_means, term_means}
use Rattle.spec_grammar.proofs.Unique.{one_spec, one_term_text}
use Rattle.spec_grammar.proofs.Readings.{one_derived, derived_or_fault, one_place}
use Rattle.spec_grammar.proofs.laws.one_reading.Goals as goal

pub returns : goal.returns
returns c = record {
  one_spec = λ bytes raw other a b. one_derived spec_symbols IsSpecText spec_agrees spec_means one_spec bytes
      raw other a b;
  one_term = λ bytes term other a b. one_derived term_symbols IsTermText term_text_agrees term_means
      one_term_text bytes term other a b;
  no_fault = λ bytes raw at why d h. derived_or_fault spec_symbols IsSpecText spec_agrees spec_means one_spec
      bytes raw at why d h;
  one_fault = λ bytes at place why what h k. one_place spec_symbols IsSpecText spec_agrees spec_means one_spec
      bytes at place why what h k;
}
