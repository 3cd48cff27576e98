use Rattle.std.proofs.Common.{◌≡◌, ◌+◌, [], ◌∷◌, ◌++◌, None, length}
use Rattle.std.proofs.lemmas.List.{length_push}
use Rattle.spec_grammar.specs.declared.keys.Key.TheVariants.{Rule}
use Rattle.spec_grammar.specs.Grammar.{sides_text, guards_text}
use Rattle.spec_grammar.specs.Items.{Sign}
use Rattle.spec_grammar.specs.Limits.{rule_mark}
use Rattle.spec_grammar.specs.Symbols.{rules}
use Rattle.spec_syntax.proofs.Grow.{first_rules_grow}
use Rattle.spec_syntax.proofs.Steps.{at_next}
use Rattle.spec_syntax.proofs.words.Source.rules.Goals as goal

pub loop-made-preserved : goal.loop-made-preserved
loop-made-preserved c =
    let version = c.args.version in
    let xs = c.loop-made.made in
    let n = length xs in
    let x = c.in-Some.rule in
    let made : c.push.new.self ≡ xs ++ x ∷ [] = c.in_ok-push.ensures.pushed in
    let o = rw c.in-Some.is at c.in_ok-rule.ensures in
    let h = rw c.len.ensures at o in
    rw (made, length_push)
    (at_next (rules version n) (rules version (n + 1)) []
    (λ v. (Sign Rule, rule_mark version n) ∷ sides_text None x.left x.right (guards_text 0 x.guards v)) _
    c.loop-made.invariant h.0 h.1 h.2 (λ v. first_rules_grow version xs x v))
