use Rattle.std.proofs.Common.{◌≡◌, ◌+◌, ◌-◌, ◌∷◌, take, drop, length, ap, refl, sym, ◌∙◌, arith}
use Rattle.std.specs.Prelude.{Some}
use Rattle.term_core.specs.Tree.{var, app, trees_of}
use Rattle.term_core.specs.View.{tree_of}
use Rattle.term_core.proofs.Items.{if_ok_map}
use Rattle.term_core.proofs.Trees.{slice_front}
use Rattle.clause_places.specs.Spots.{paths, argument_paths}
use Rattle.clause_places.specs.Walk.{Passes}
use Rattle.clause_places.proofs.WalkedPlaces.{passes_variable, passes_call, found_in_call, found_in_argument}
use Rattle.clause_places.proofs.WalkedPlaces.{passes_arguments, narrow_arguments, lighter_arguments}
use Rattle.clause_places.proofs.walk.+pass.Goals as goal

pub pass_term-pass_arguments-requires : goal.pass_term-pass_arguments-requires
pass_term-pass_arguments-requires t c =
    let f = c.in-App.field-0.0 in
    let args = c.in-App.args in
    let is : app f (trees_of args) ≡ c.args.term.now =
    ap tree_of (sym c.in-App.is) ∙ c.term.view_is in
    let lighter =
    lighter_arguments c.args.term.now f args c.as_slice.result.now is c.as_slice.ensures in
    let narrow =
    narrow_arguments c.args.term.now f args c.as_slice.result.now c.requires is
    c.as_slice.ensures in
    (omega (arith, c.decreases, lighter), (omega (arith, narrow.0), narrow.1))

pub pass_term-returns-in-Var : goal.pass_term-returns-in-Var
pass_term-returns-in-Var t c =
    let is : var c.in-Var.field-0.0 ≡ c.args.term.now =
    ap tree_of (sym c.in-Var.is) ∙ c.term.view_is in
    passes_variable c.args.term.now c.in-Var.field-0.0 c.args.index c.args.path.now.items
    c.checked_sub.result is c.checked_sub.ensures

pub pass_term-returns-in-Some : goal.pass_term-returns-in-Some
pass_term-returns-in-Some t c =
    let is : app c.in-App.field-0.0 (trees_of c.in-App.args) ≡ c.args.term.now =
    ap tree_of (sym c.in-App.is) ∙ c.term.view_is in
    passes_call c.args.term.now c.in-App.field-0.0 c.in-App.args c.as_slice.result.now is
    c.as_slice.ensures c.args.index c.args.path.now.items c.pass_arguments.new.path.items
    c.in-Some.left c.checked_sub-in-Some.result
    (rw c.in-Some.is at c.in_ok-left-in-App.ensures) c.checked_sub-in-Some.ensures

pub pass_term-returns-in-None : goal.pass_term-returns-in-None
pass_term-returns-in-None t c =
    let is : app c.in-App.field-0.0 (trees_of c.in-App.args) ≡ c.args.term.now =
    ap tree_of (sym c.in-App.is) ∙ c.term.view_is in
    found_in_call c.args.term.now c.in-App.field-0.0 c.in-App.args c.as_slice.result.now is
    c.as_slice.ensures c.args.index c.args.path.now.items c.pass_arguments.new.path.items
    (rw c.in-None.is at c.in_ok-left-in-App.ensures)

pub pass_arguments-returns-in_ok-push-in-None : goal.pass_arguments-returns-in_ok-push-in-None
pass_arguments-returns-in_ok-push-in-None t c =
    let ts = c.args.terms.now in
    let first : ts ≡ c.first-item.result ∷ take (length ts - 1) (drop 1 ts) =
    slice_front ts c.first-item.result c.in-len1-up.len_at_least c.first-item.is in
    found_in_argument c.args.number c.first-item.result ts (take (length ts - 1) (drop 1 ts)) first
    c.args.index c.args.path.now.items c.pass_term.new.path.items c.push.new.self.items
    c.in_ok-push-in-None.ensures.items (rw c.in-None.is at c.in_ok-pass_term-in-len1-up.ensures)

pub pass_arguments-returns-in-Some-2 : goal.pass_arguments-returns-in-Some-2
pass_arguments-returns-in-Some-2 t c =
    let ts = c.args.terms.now in
    let u = c.first-item.result in
    let others = take (length ts - 1) (drop 1 ts) in
    let k = c.args.index in
    let n = c.args.number in
    let old = c.args.path.now.items in
    let base = c.pass_term.new.path.items in
    let new = c.pass_arguments-in-Some-2.new.path.items in
    let first : ts ≡ u ∷ others =
    slice_front ts u c.in-len1-up.len_at_least c.first-item.is in
    let passed : Passes (paths u) k old base (Some c.in-Some-2.left) =
    rw c.in-Some-2.is at c.in_ok-pass_term-in-len1-up.ensures in
    if_ok_map c.pass_arguments-in-Some-2.result
    (Passes (argument_paths (n + 1) (trees_of others)) c.in-Some-2.left base new)
    (Passes (argument_paths n (trees_of ts)) k old new)
    (λ r h.
    passes_arguments n u ts others first k old base new c.in-Some-2.left r passed.0 passed.1 h)
    c.pass_arguments-in-Some-2.ensures

-- a first argument whose size tells that the index is after it
pub pass_arguments-returns-in-Some : goal.pass_arguments-returns-in-Some
pass_arguments-returns-in-Some t c =
    let ts = c.args.terms.now in
    let u = c.first-item.result in
    let others = take (length ts - 1) (drop 1 ts) in
    let k = c.args.index in
    let n = c.args.number in
    let old = c.args.path.now.items in
    let new = c.pass_arguments.new.path.items in
    let left = c.in-Some.left in
    let first : ts ≡ u ∷ others =
    slice_front ts u c.in-len1-up.len_at_least c.first-item.is in
    if_ok_map c.pass_arguments.result
    (Passes (argument_paths (n + 1) (trees_of others)) left old new)
    (Passes (argument_paths n (trees_of ts)) k old new)
    (λ r h. passes_arguments n u ts others first k old old new left r c.in-Some.ensures refl h)
    c.pass_arguments.ensures
