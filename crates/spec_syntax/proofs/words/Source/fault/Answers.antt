use Rattle.std.proofs.Common.{ℕ, ap, sym}
use Rattle.spec_grammar.proofs.ItemLemmas.{length-items_of}
use Rattle.spec_syntax.specs.declared.stop.Stop.TheVariants.{Fault}
use Rattle.spec_syntax.proofs.words.Source.fault.Goals as goal

pub returns : goal.returns
returns c = ap (λ (n : ℕ). Fault n c.args.why) (sym (length-items_of c.args.self.now.bytes.now c.args.tokens.now))
