use Rattle.std.proofs.Common.{◌≡◌, ◌+◌, [], ◌∷◌, ◌++◌, None, length}
use Rattle.std.proofs.lemmas.List.{length_push}
use Rattle.spec_grammar.specs.declared.keys.Key.TheVariants.{Colon, Fun}
use Rattle.spec_grammar.specs.Grammar.{sign, name_text, con_text}
use Rattle.spec_grammar.specs.Items.{Sign}
use Rattle.spec_grammar.specs.Limits.{fun_mark}
use Rattle.spec_grammar.specs.Symbols.{funs}
use Rattle.spec_syntax.proofs.Grow.{first_funs_grow}
use Rattle.spec_syntax.proofs.Steps.{at_next}
use Rattle.spec_syntax.proofs.words.Source.functions.Goals as goal

pub loop-made-preserved : goal.loop-made-preserved
loop-made-preserved c =
    let version = c.args.version in
    let xs = c.loop-made.made in
    let n = length xs in
    let x = c.in-Some.function in
    let made : c.push.new.self ≡ xs ++ x ∷ [] = c.in_ok-push.ensures.pushed in
    let o = rw c.in-Some.is at c.in_ok-function.ensures in
    let h = rw c.len.ensures at o in
    rw (made, length_push)
    (at_next (funs version n) (funs version (n + 1)) []
    (λ v. (Sign Fun, fun_mark version n) ∷ con_text None x.head (sign Colon ∷ name_text None x.result v)) _
    c.loop-made.invariant h.0 h.1 h.2 (λ v. first_funs_grow version xs x v))
