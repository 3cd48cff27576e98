use Rattle.std.proofs.Common.{◌∙◌, ◌∷◌, ◌++◌, [], List, ap, codes, subst, sym}
use Rattle.term_core.specs.Tree.{Tree}
use Rattle.term_core.proofs.Items.{all_append}
use Rattle.proof_script.specs.Reading.{IsListAt, IsReadable}
use Rattle.proof_script.proofs.SameTerms.{names_differ}
use Rattle.proof_script.proofs.ListsAt.{before, AreItems, goes_on_first, no_item, no_sign, goes_on_next, read_next}
use Rattle.proof_script.proofs.ListsAt.{list_found}
use Rattle.proof_script.proofs.term_lists.read_list.Goals as goal

pub loop-made-init : goal.loop-made-init
loop-made-init c =
    let a = c.args in
    record {
      read = c.in-Some.ensures
          ∙ ap (λ (ts : List Tree). codes "[" ++ (before a.sig.now a.variables ts ++ c.in-Some.rest.now))
          (sym c.new-made.ensures);
      items = subst (AreItems a.sig.now a.variables) (sym c.new-made.ensures) tt;
      goes_on = goes_on_first a.sig.now a.variables a.bytes.now c.in-Some.rest.now c.in-Some.ensures
          c.in_default-after.ensures;
    }

pub loop-made-preserved : goal.loop-made-preserved
loop-made-preserved c =
    let a = c.args in
    let got = rw c.in-Some-2.is at c.in_ok-term.ensures in
    let v = a.variables in
    let rest = c.loop-made.rest.now in
    let term = c.in-Some-2.term in
    let behind = c.in-Some-2.behind.bytes.now in
    let next = c.in-Some-after-3.next.now in
    let pushed = c.in_ok-push.ensures.pushed in
    record {
      read = read_next a.sig.now v a.bytes.now rest c.loop-made.made term behind next c.loop-made.invariant.read
          got.0.is c.in-Some-after-3.ensures
          ∙ ap (λ (ts : List Tree). codes "[" ++ (before a.sig.now v ts ++ next)) (sym pushed);
      items = subst (AreItems a.sig.now v) (sym pushed)
          (all_append (IsReadable a.sig.now v 100 0) c.loop-made.made (term ∷ []) c.loop-made.invariant.items
          (got.0.readable, tt));
      goes_on = goes_on_next a.sig.now v (names_differ a.sig.now c.requires) a.bytes.now rest term behind next
          c.loop-made.invariant.goes_on got.0 c.in-Some-after-3.ensures;
    }

pub returns-in_default-2 : goal.returns-in_default-2
returns-in_default-2 c =
    let a = c.args in
    no_item a.sig.now a.variables a.bytes.now c.loop-made.rest.now c.loop-made.invariant.goes_on
    (rw c.in_default-2.is at c.in_ok-term.ensures)

pub returns-in-Some-after-2 : goal.returns-in-Some-after-2
returns-in-Some-after-2 c =
    let a = c.args in
    let got = rw c.in-Some-2.is at c.in_ok-term.ensures in
    let v = a.variables in
    let term = c.in-Some-2.term in
    let last = c.in-Some-after-2.last.now in
    let whole = list_found a.sig.now v a.bytes.now c.loop-made.rest.now c.loop-made.made term
    c.in-Some-2.behind.bytes.now last c.loop-made.invariant.read got.0.is c.in-Some-after-2.ensures in
    subst (λ (ts : List Tree). IsListAt a.sig.now v a.bytes.now ts last) (sym c.in_ok-push.ensures.pushed)
    (record {
      items = all_append (IsReadable a.sig.now v 100 0) c.loop-made.made (term ∷ [])
          c.loop-made.invariant.items (got.0.readable, tt);
      is = whole;
    })

pub returns-in_default-after-3 : goal.returns-in_default-after-3
returns-in_default-after-3 c =
    let a = c.args in
    let got = rw c.in-Some-2.is at c.in_ok-term.ensures in
    no_sign a.sig.now a.variables (names_differ a.sig.now c.requires) a.bytes.now c.loop-made.rest.now
    c.in-Some-2.term c.in-Some-2.behind.bytes.now c.loop-made.invariant.goes_on got.0
    c.in_default-after-2.ensures c.in_default-after-3.ensures
