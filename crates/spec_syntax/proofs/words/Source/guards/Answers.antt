use Rattle.std.proofs.Common.{◌≡◌, ◌+◌, [], ◌∷◌, ◌++◌, None, length}
use Rattle.std.proofs.lemmas.List.{length_push}
use Rattle.spec_grammar.specs.Grammar.{term_text, guard_key}
use Rattle.spec_grammar.specs.Items.{Sign}
use Rattle.spec_grammar.specs.Limits.{guard_mark}
use Rattle.spec_grammar.specs.Symbols.{guards}
use Rattle.spec_syntax.proofs.Grow.{first_guards_grow}
use Rattle.spec_syntax.proofs.Steps.{at_next}
use Rattle.spec_syntax.proofs.words.Source.guards.Goals as goal

pub loop-made-preserved : goal.loop-made-preserved
loop-made-preserved c =
    let xs = c.loop-made.made in
    let n = length xs in
    let x = c.in-Some.guard in
    let made : c.push.new.self ≡ xs ++ x ∷ [] = c.in_ok-push.ensures.pushed in
    let o = rw c.in-Some.is at c.in_ok-guard.ensures in
    let h = rw c.len.ensures at o in
    rw (made, length_push)
    (at_next (guards n) (guards (n + 1)) [] (λ v. (Sign (guard_key x.wanted), guard_mark n) ∷ term_text 0
    None x.test v) _ c.loop-made.invariant h.0 h.1 h.2 (λ v. first_guards_grow xs x v))
