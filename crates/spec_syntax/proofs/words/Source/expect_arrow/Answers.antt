use Rattle.std.proofs.Common.{ℕ, List, [], ◌∷◌, Result, Ok, Err, ◌∙◌}
use Rattle.spec_grammar.specs.declared.keys.Key.TheVariants.{Comma, Arrow}
use Rattle.spec_grammar.specs.Grammar.{sign}
use Rattle.spec_grammar.specs.Items.{Item, items_of}
use Rattle.spec_grammar.specs.Symbols.{key, commas, conclusions}
use Rattle.spec_syntax.specs.declared.stop.Stop.{Stop}
use Rattle.spec_syntax.specs.declared.stop.Stop.TheVariants.{Fault, OutOfMemory}
use Rattle.spec_syntax.specs.Reading.{Lacks, Reads, ReadsTo}
use Rattle.spec_syntax.proofs.ClauseSteps.{commas_run}
use Rattle.spec_syntax.proofs.words.Source.expect_arrow.Goals as goal

arrow_read : {X : Type 0} (rest : X → List Item) (n : ℕ) (items : List Item) (r : Result X Stop) →
    Lacks Comma items → Reads (λ x v. sign Arrow ∷ v) rest (key Arrow ∷ []) items r →
    ReadsTo (λ x v. sign Arrow ∷ v) rest (commas n ∷ []) (λ x. conclusions ∷ []) items r
arrow_read rest n items (Ok x) l h = (h.0, λ st. commas_run n items st l ∙ h.1 (conclusions ∷ st), h.2)
arrow_read rest n items (Err OutOfMemory) l h = tt
arrow_read rest n items (Err (Fault left why)) l h = λ st. commas_run n items st l ∙ h (conclusions ∷ st)

pub returns : goal.returns
returns c = arrow_read (λ x. items_of c.args.self.now.bytes.now x.now) c.args.n
    (items_of c.args.self.now.bytes.now c.args.tokens.now) c.expect.result c.requires c.expect.ensures
