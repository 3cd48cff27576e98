use Rattle.std.proofs.Common.{ℕ, ap, sym, ◌∙◌, arith, ◌∷◌, [], List, map, eqb}
use Rattle.std.specs.List.{list_any}
use Rattle.std.proofs.lemmas.List.{map-append}
use Rattle.term_core.specs.View.{tree_of}
use Rattle.term_core.specs.Variables.{occurrences}
use Rattle.term_core.specs.Gathered.{gathered}
use Rattle.term_core.specs.declared.ids.VarId.{VarId}
use Rattle.term_core.proofs.Trees.{weight-member}
use Rattle.term_core.proofs.Firsts.{any_number, met_old, met_new, gathered-take_more}
use Rattle.term_core.proofs.variables.+gather.Goals as goal

pub gather-returns-in_ok-push-in-Var : goal.gather-returns-in_ok-push-in-Var
gather-returns-in_ok-push-in-Var t c =
    let numbers : List VarId → List ℕ = λ vars. map (λ (v : VarId). v.0) vars in
    let found = c.args.found.now in
    let variable = ap tree_of (sym c.in-Var.is) ∙ c.term.view_is in
    let new = sym (any_number c.in-Var.var.0 found)
    ∙ ap (λ vars. list_any (λ (v : VarId). eqb v.0 c.in-Var.var.0) vars) (sym c.as_slice.ensures)
    ∙ sym c.if-not-contains.ensures.value in
    ap numbers c.in_ok-push-in-Var.ensures.pushed
    ∙ map-append (λ (v : VarId). v.0) found (c.in-Var.var ∷ [])
    ∙ sym (met_new (numbers found) c.in-Var.var.0 new)
    ∙ ap (λ u. gathered (numbers found) (occurrences u)) variable

pub gather-returns-else-not-contains : goal.gather-returns-else-not-contains
gather-returns-else-not-contains t c =
    let numbers : List VarId → List ℕ = λ vars. map (λ (v : VarId). v.0) vars in
    let found = c.args.found.now in
    let variable = ap tree_of (sym c.in-Var.is) ∙ c.term.view_is in
    let old = sym (any_number c.in-Var.var.0 found)
    ∙ ap (λ vars. list_any (λ (v : VarId). eqb v.0 c.in-Var.var.0) vars) (sym c.as_slice.ensures)
    ∙ sym c.if-not-contains.ensures.value in
    sym (met_old (numbers found) c.in-Var.var.0 old) ∙ ap (λ u. gathered (numbers found) (occurrences u)) variable

pub gather_all-gather-requires : goal.gather_all-gather-requires
gather_all-gather-requires t
    c = (
      omega (
        arith,
        weight-member c.args.terms.now c.loop-term.term-index c.term-item.result
            c.loop-term-test.true c.term-item.is,
      ),
      tt,
    )

pub gather_all-loop-term-preserved : goal.gather_all-loop-term-preserved
gather_all-loop-term-preserved t c =
    c.in_ok-gather.ensures
    ∙ ap (λ found. gathered found (occurrences c.term-item.result)) c.loop-term.invariant
    ∙ sym (gathered-take_more _ c.args.terms.now c.loop-term.term-index c.term-item.result c.loop-term-test.true
    c.term-item.is)
