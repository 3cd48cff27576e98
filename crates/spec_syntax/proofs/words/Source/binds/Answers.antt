use Rattle.std.proofs.Common.{◌≡◌, ◌+◌, [], ◌∷◌, ◌++◌, None, length, refl, ap, ◌∙◌, arith}
use Rattle.std.proofs.lemmas.Result.{err_from_is_err_and}
use Rattle.std.proofs.lemmas.List.{length_push}
use Rattle.spec_grammar.specs.declared.keys.Key.TheVariants.{LeftPar, RightPar, Comma}
use Rattle.spec_grammar.specs.Grammar.{sign, bind_text}
use Rattle.spec_grammar.specs.Items.{Sign, items_of}
use Rattle.spec_grammar.specs.Limits.{variable_mark}
use Rattle.spec_grammar.specs.Symbols.{binds, more_binds, key, bind_then}
use Rattle.spec_syntax.proofs.Grow.{opened_binds_grow}
use Rattle.spec_syntax.proofs.Steps.{stop_then, at_then, at_take, at_next}
use Rattle.spec_syntax.proofs.words.Source.binds.Goals as goal

pub returns-in_err-first : goal.returns-in_err-first
returns-in_err-first c =
    let bytes = c.args.self.now.bytes.now in
    let p = err_from_is_err_and c.from_residual.result c.from_residual.ensures.1 in
    let opens = at_take binds (Sign LeftPar) (items_of bytes c.args.tokens.now)
    (items_of bytes c.in-Some.opened.now) None _ c.in-Some.ensures refl refl in
    rw (p.1, p.2) (stop_then (bind_then (variable_mark 0) []) (more_binds 1 ∷ key RightPar ∷ [])
    c.in_err-first.field-0.0 opens (rw c.over.ensures at c.in_err-first.ensures))

pub loop-made-init : goal.loop-made-init
loop-made-init c =
    let bytes = c.args.self.now.bytes.now in
    let first = c.in_ok-first.first in
    let made : c.push.new.self ≡ first ∷ [] = c.in_ok-push.ensures.pushed
    ∙ ap (λ xs. xs ++ first ∷ []) c.new-made.ensures in
    let h = rw c.over.ensures at c.in_ok-first.ensures in
    let opens = at_take binds (Sign LeftPar) (items_of bytes c.args.tokens.now)
    (items_of bytes c.in-Some.opened.now) None _ c.in-Some.ensures refl refl in
    rw made (record {
      some = omega arith;
      reads = at_then {left = []} (bind_then (variable_mark 0) []) (more_binds 1 ∷ key RightPar ∷ []) opens
          (record { same = h.1; text = h.0; less = h.2 });
    })

pub loop-made-preserved : goal.loop-made-preserved
loop-made-preserved c =
    let xs = c.loop-made.made in
    let n = length xs in
    let x = c.in-Some-2.bind in
    let i = c.loop-made.invariant in
    let made : c.push-in-Some-2.new.self ≡ xs ++ x ∷ [] = c.in_ok-push-2.ensures.pushed in
    let o = rw c.in-Some-2.is at c.in_ok-bind.ensures in
    let h = rw c.len.ensures at o in
    rw (made, length_push) (record {
      some = omega arith;
      reads = at_next (more_binds n) (more_binds (n + 1)) (key RightPar ∷ [])
          (λ v. sign Comma ∷ bind_text (variable_mark n) x v) _ i.reads h.0 h.1 h.2
          (λ v. opened_binds_grow xs x v i.some);
    })
