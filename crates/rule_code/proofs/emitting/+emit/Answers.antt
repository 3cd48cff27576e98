use Rattle.std.proofs.Common.{rules, ◌≡◌, ◌+◌, ◌<◌, [], ◌∷◌, ◌++◌, inl, inr, refl, ap, subst, sym, ◌∙◌, length, arith}
use Rattle.std.proofs.lemmas.Option.{slice_get-get_or}
use Rattle.term_core.specs.Tree.{var, app, trees_of}
use Rattle.term_core.specs.View.{tree_of}
use Rattle.term_core.specs.Measure.{weight, weights, list_weight, list_weight_is}
use Rattle.term_core.specs.Variables.{Occurs, OccursAny}
use Rattle.spec_core.specs.TermText.{SymbolsAreInRange, AllSymbolsAreInRange}
use Rattle.term_core.proofs.Items.{if_ok_map}
use Rattle.rule_code.specs.Emitting.{AreEmitted}
use Rattle.rule_code.specs.Instructions.{instruction}
use Rattle.rule_code.specs.declared.instructions.Kind.{Kind}
use Rattle.rule_code.specs.declared.instructions.Kind.TheVariants.{Build, Call}
use Rattle.rule_code.proofs.Emitted.{emitted_var, emitted_none, constructor_emitted, function_emitted, emitted_more}
use Rattle.rule_code.proofs.Emitted.{not_is}
use Rattle.rule_code.proofs.emitting.+emit.Goals as goal
use Rattle.rule_code.proofs.emitting.+emit.Goals.{emit-then-is_constructor, emit-else-is_constructor}

pub emit-bounds-homes-var : goal.emit-bounds-homes-var
emit-bounds-homes-var t c =
    let e : var c.in-Var.var.0 ≡ c.args.term.now = ap tree_of (sym c.in-Var.is) ∙ c.term.view_is in
    c.requires.variables c.in-Var.var.0 (subst (λ z. Occurs c.in-Var.var.0 z) e refl)

pub emit-emit_all-requires : goal.emit-emit_all-requires
emit-emit_all-requires t c =
    let e : app c.in-App.sym.0 (trees_of c.in-App.args) ≡ c.args.term.now = ap tree_of (sym c.in-App.is)
    ∙ c.term.view_is in
    let w : weight c.args.term.now ≡ weights (trees_of c.in-App.args) + 1 = ap weight (sym e) in
    let l : list_weight c.as_slice.result.now ≡ weights (trees_of c.in-App.args) = ap list_weight
    c.as_slice.ensures ∙ list_weight_is c.in-App.args in
    let g : SymbolsAreInRange c.args.sig.now (app c.in-App.sym.0 (trees_of c.in-App.args)) = subst
    (λ z. SymbolsAreInRange c.args.sig.now z) (sym e) c.requires.symbols in (
      omega (arith, w, l),
      (
        subst (λ z. AllSymbolsAreInRange c.args.sig.now (trees_of z)) (sym c.as_slice.ensures) g.1,
        λ n o. c.requires.variables n
            (subst (λ z. Occurs n z) e (subst (λ z. OccursAny n (trees_of z)) c.as_slice.ensures o)),
      ),
    )

pub emit-returns-in-Var : goal.emit-returns-in-Var
emit-returns-in-Var t c =
    let e : var c.in-Var.var.0 ≡ c.args.term.now = ap tree_of (sym c.in-Var.is) ∙ c.term.view_is in
    let lt : c.in-Var.var.0 < length c.args.homes.now = c.requires.variables c.in-Var.var.0
    (subst (λ z. Occurs c.in-Var.var.0 z) e refl) in
    emitted_var c.args.sig.now c.args.homes.now c.args.term.now c.in-Var.var.0 _ c.args.next c.args.code.now e
    (slice_get-get_or c.args.homes.now c.in-Var.var.0 0 lt)

pub emit_all-emit-requires : goal.emit_all-emit-requires
emit_all-emit-requires t c =
    let e : c.args.terms.now ≡ c.in-Some.term.now ∷ c.in-Some.rest.now = search rules in
    let d : list_weight c.args.terms.now ≡ weight c.in-Some.term.now + list_weight c.in-Some.rest.now + 1 = ap
    list_weight e in
    let g : AllSymbolsAreInRange c.args.sig.now (trees_of (c.in-Some.term.now ∷ c.in-Some.rest.now)) = subst
    (λ z. AllSymbolsAreInRange c.args.sig.now (trees_of z)) e c.requires.symbols in
    (omega arith, (g.0, λ n o. c.requires.variables n (subst (λ z. OccursAny n (trees_of z)) (sym e) (inl o))))

pub emit_all-emit_all-requires : goal.emit_all-emit_all-requires
emit_all-emit_all-requires t c =
    let e : c.args.terms.now ≡ c.in-Some.term.now ∷ c.in-Some.rest.now = search rules in
    let d : list_weight c.args.terms.now ≡ weight c.in-Some.term.now + list_weight c.in-Some.rest.now + 1 = ap
    list_weight e in
    let g : AllSymbolsAreInRange c.args.sig.now (trees_of (c.in-Some.term.now ∷ c.in-Some.rest.now)) = subst
    (λ z. AllSymbolsAreInRange c.args.sig.now (trees_of z)) e c.requires.symbols in
    (omega arith, (g.1, λ n o. c.requires.variables n (subst (λ z. OccursAny n (trees_of z)) (sym e) (inr o))))

pub emit_all-returns-in-None : goal.emit_all-returns-in-None
emit_all-returns-in-None t c = emitted_none c.args.sig.now c.args.homes.now c.args.terms.now c.args.next
    c.args.code.now c.args.slots.now.items c.in-None.ensures

pub emit-returns-in_ok-push-in-App : goal.emit-returns-in_ok-push-in-App
emit-returns-in_ok-push-in-App t c =
    let sig = c.args.sig.now in
    let f = c.in-App.sym.0 in
    let e : app f (trees_of c.in-App.args) ≡ c.args.term.now = ap tree_of (sym c.in-App.is) ∙ c.term.view_is in
    let before = c.in_ok-slots-in-App.slots.items in
    let after = c.emit_all.new.slots.items in
    let args : AreEmitted sig c.args.homes.now (trees_of c.in-App.args) c.args.next c.args.code.now
    c.emit_all.new.code before after c.in_ok-slot-in-App.slot = subst
    (λ z. AreEmitted sig c.args.homes.now (trees_of z) c.args.next c.args.code.now c.emit_all.new.code
    before after c.in_ok-slot-in-App.slot) c.as_slice.ensures c.in_ok-slot-in-App.ensures in
    let push : (kind : Kind) → c.if-is_constructor.kind ≡ kind → c.push.new.self ≡ c.emit_all.new.code
    ++ instruction kind after ∷ [] = λ kind k. c.in_ok-push-in-App.ensures.added
    ∙ ap (λ z. c.emit_all.new.code ++ instruction z c.deref.result.now ∷ []) k
    ∙ ap (λ z. c.emit_all.new.code ++ instruction kind z ∷ []) c.deref.ensures.value in
    elim c.if-is_constructor.branch [
      | emit-then-is_constructor w ↦ constructor_emitted sig c.args.homes.now c.args.term.now f
          (trees_of c.in-App.args) c.args.next c.in_ok-slot-in-App.slot c.args.code.now c.emit_all.new.code
          c.push.new.self before after e (c.is_constructor.ensures.0 w.if-is_constructor.true)
          c.in_ok-slots-in-App.ensures.items args (push (Build f) w.kind-is)
      | emit-else-is_constructor w ↦ function_emitted sig c.args.homes.now c.args.term.now f
          (trees_of c.in-App.args) c.args.next c.in_ok-slot-in-App.slot c.args.code.now c.emit_all.new.code
          c.push.new.self before after e (not_is c.is_constructor.result _ w.if-is_constructor.false
          c.is_constructor.ensures) c.in_ok-slots-in-App.ensures.items args (push (Call f) w.kind-is)
    ]

pub emit_all-returns-in_ok-push-in-Some : goal.emit_all-returns-in_ok-push-in-Some
emit_all-returns-in_ok-push-in-Some t c =
    let e : c.args.terms.now ≡ c.in-Some.term.now ∷ c.in-Some.rest.now = search rules in
    if_ok_map c.emit_all.result _ _ (λ end h. emitted_more c.args.sig.now c.args.homes.now c.args.terms.now
    c.in-Some.rest.now c.in-Some.term.now c.args.next c.in_ok-slot-in-Some.slot c.in_ok-slot-in-Some.next
    end c.args.code.now c.emit.new.code c.emit_all.new.code c.args.slots.now.items c.push.new.self.items
    c.emit_all.new.slots.items e c.in_ok-slot-in-Some.ensures c.in_ok-push-in-Some.ensures.items h)
    c.emit_all.ensures
