use Rattle.std.proofs.Common.{◌≡◌, ◌+◌, [], ◌∷◌, ◌++◌, None, length, refl, ap, ◌∙◌, arith}
use Rattle.std.proofs.lemmas.Result.{err_from_is_err_and}
use Rattle.std.proofs.lemmas.List.{length_push}
use Rattle.spec_grammar.specs.declared.keys.Key.TheVariants.{LeftPar, RightPar, Comma}
use Rattle.spec_grammar.specs.Grammar.{sign, term_text}
use Rattle.spec_grammar.specs.Items.{Sign, items_of}
use Rattle.spec_grammar.specs.Limits.{term_mark}
use Rattle.spec_grammar.specs.Symbols.{args, more, key, term_then}
use Rattle.spec_syntax.proofs.Grow.{opened_grows}
use Rattle.spec_syntax.proofs.Steps.{stop_then, at_then, at_take, at_next}
use Rattle.spec_syntax.proofs.words.Source.+term.Goals as goal

pub args-returns-in_err-first : goal.args-returns-in_err-first
args-returns-in_err-first t c =
    let d = c.args.depth in
    let bytes = c.args.self.now.bytes.now in
    let p = err_from_is_err_and c.from_residual.result c.from_residual.ensures.1 in
    let opens = at_take (args d) (Sign LeftPar) (items_of bytes c.args.tokens.now)
    (items_of bytes c.in-Some.opened.now) None _ c.in-Some.ensures refl refl in
    rw (p.1, p.2) (stop_then (term_then (d + 1) (term_mark (d + 1) 0) []) (more (d + 1) 1 ∷ key RightPar ∷ [])
    c.in_err-first.field-0.0 opens (rw c.argument_over.ensures at c.in_err-first.ensures))

pub args-loop-made-init : goal.args-loop-made-init
args-loop-made-init t c =
    let d = c.args.depth in
    let bytes = c.args.self.now.bytes.now in
    let first = c.in_ok-first.first in
    let made : c.push.new.self ≡ first ∷ [] = c.in_ok-push.ensures.pushed
    ∙ ap (λ ts. ts ++ first ∷ []) c.new-made.ensures in
    let h = rw c.argument_over.ensures at c.in_ok-first.ensures in
    let opens = at_take (args d) (Sign LeftPar) (items_of bytes c.args.tokens.now)
    (items_of bytes c.in-Some.opened.now) None _ c.in-Some.ensures refl refl in
    rw made (record {
      some = omega arith;
      left = omega (arith, ap length c.in-Some.ensures, h.2);
      reads = at_then {left = []} (term_then (d + 1) (term_mark (d + 1) 0) [])
          (more (d + 1) 1 ∷ key RightPar ∷ []) opens (record { same = h.1; text = h.0; less = h.2 });
    })

pub args-loop-made-preserved : goal.args-loop-made-preserved
args-loop-made-preserved t c =
    let d = c.args.depth in
    let ts = c.loop-made.made in
    let n = length ts in
    let u = c.in-Some-2.argument in
    let i = c.loop-made.invariant in
    let made : c.push-in-Some-2.new.self ≡ ts ++ u ∷ [] = c.in_ok-push-2.ensures.pushed in
    let o = rw c.in-Some-2.is at c.in_ok-argument.ensures in
    let h = rw c.len.ensures at o in
    rw (made, length_push) (record {
      some = omega arith;
      left = omega (arith, i.left, h.2);
      reads = at_next (more (d + 1) n) (more (d + 1) (n + 1)) (key RightPar ∷ [])
          (λ v. sign Comma ∷ term_text (d + 1) (term_mark (d + 1) n) u v) _ i.reads h.0 h.1 h.2
          (λ v. opened_grows d ts u v i.some);
    })
