use Rattle.std.proofs.Common.{◌≡◌, ◌+◌, [], ◌∷◌, ◌++◌, length, refl, ap, ◌∙◌}
use Rattle.std.proofs.lemmas.List.{length_push}
use Rattle.spec_grammar.specs.declared.keys.Key.TheVariants.{Bar}
use Rattle.spec_grammar.specs.Grammar.{sign, sides_text}
use Rattle.spec_grammar.specs.Items.{items_of}
use Rattle.spec_grammar.specs.Limits.{conclusion_mark}
use Rattle.spec_grammar.specs.Symbols.{bars}
use Rattle.spec_syntax.proofs.ClauseSteps.{begins_more, bars_more}
use Rattle.spec_syntax.proofs.Steps.{at_start, at_next}
use Rattle.spec_syntax.proofs.words.Source.more_conclusions.Goals as goal

pub loop-made-init : goal.loop-made-init
loop-made-init c =
    let made : c.push.new.self ≡ c.args.first ∷ [] = c.in_ok-push.ensures.pushed
    ∙ ap (λ xs. xs ++ c.args.first ∷ []) c.new-made.ensures in
    rw made (record { begins = refl; reads = at_start (bars 1) (items_of c.args.self.now.bytes.now c.args.tokens.now) })

pub loop-made-preserved : goal.loop-made-preserved
loop-made-preserved c =
    let xs = c.loop-made.made in
    let n = length xs in
    let x = c.in-Some.conclusion in
    let i = c.loop-made.invariant in
    let made : c.push-in-Some.new.self ≡ xs ++ x ∷ [] = c.in_ok-push-2.ensures.pushed in
    let o = rw c.in-Some.is at c.in_ok-conclusion.ensures in
    let h = rw c.len.ensures at o in
    rw (made, length_push) (record {
      begins = begins_more c.args.first xs x i.begins;
      reads = at_next (bars n) (bars (n + 1)) [] (λ v. sign Bar ∷ sides_text (conclusion_mark n) x.left x.right
          v) _ i.reads h.0 h.1 h.2 (λ v. bars_more c.args.first xs x v i.begins);
    })
