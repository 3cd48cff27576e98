use Rattle.std.proofs.Common.{◌≡◌, ℕ, ◌<◌, ◌+◌, ◌-◌, ◌*◌, ◌++◌, ◌∷◌, [], length, map, drop, Option, Some, None, List}
use Rattle.std.proofs.Common.{refl, sym, ap, ◌∙◌, arith, subst, get_or}
use Rattle.std.specs.Prelude.{slice_get}
use Rattle.std.specs.Vec.{vec_len}
use Rattle.std.proofs.lemmas.Option.{slice_get_within, slice_get_read}
use Rattle.std.proofs.lemmas.List.{length-map, length-set}
use Rattle.term_core.specs.Tree.{Tree, app, var, trees_of}
use Rattle.term_core.specs.View.{tree_of}
use Rattle.term_core.specs.Measure.{weight}
use Rattle.term_core.proofs.Items.{all_at, drop_here, drop_past}
use Rattle.term_core.proofs.Trees.{weight-member}
use Rattle.spec_core.specs.declared.records.Rule.{Rule}
use Rattle.substitutions.specs.Substitution.{apply}
use Rattle.normalization.specs.Found.{IsFound}
use Rattle.normalization.specs.Narrow.{IsNarrow}
use Rattle.normalization.specs.NormalForms.{IsNormal}
use Rattle.normalization.specs.Room.{room}
use Rattle.normalization.specs.Walks.{Normalized, Exceeds, IsWalk}
use Rattle.normalization.specs.Openings.{Opened, IsOpening, Advanced, IsWalkOfAll}
use Rattle.normalization.proofs.NormalTerms.{variable_normal}
use Rattle.normalization.proofs.Fine.{sorted_narrow, match_fine, parts, args_of_instance, same_symbol, image_done}
use Rattle.normalization.proofs.Falls.{less_left, use_falls, right_below_room}
use Rattle.normalization.proofs.Rests.{rest_set, rest_first, instance_at}
use Rattle.normalization.proofs.Steps.{exceeds_after, root_exceeds, opened_again, exceeds_again, opened_normal}
use Rattle.normalization.proofs.Steps.{opened_copy, advance_none, advance, advance_exceeds, all_advanced, same_item}
use Rattle.normalization.proofs.Steps.{one_more, grows, popped, if_some, added_at, one_deeper}
use Rattle.normalization.proofs.rewriter.Rewriter.+walk.Goals as goal
use Rattle.normalization.proofs.rewriter.Rewriter.+walk.Goals.{walk-In-Some-2}

-- the rule that is used at the root
found_rule : {t : ℕ} (c : walk-In-Some-2 t) → IsFound c.args.self.now c.loop-term.term (Some c.in-Some-2.index)
found_rule c = subst (λ (p : Option ℕ). IsFound c.args.self.now c.loop-term.term p) c.in-Some-2.is c.in_ok-index.ensures

pub open-walk_all-requires : goal.open-walk_all-requires
open-walk_all-requires t c =
    let spec = c.args.self.now in
    let place = c.args.trace.now.place.items in
    let old = c.args.trace.now.uses.items in
    let e : app c.in-App.sym.0 (trees_of c.in-App.patterns) ≡ c.args.pattern.now = ap tree_of (sym c.in-App.is)
    ∙ c.pattern.view_is in
    let d : app c.in-App-node.field-0.0 (trees_of c.in-App-node.args) ≡ c.args.term = ap tree_of
    (sym c.in-App-node.is) ∙ c.term.view_is in
    let items = c.in_ok-args-in-App-node.args.items in
    let j : items ≡ c.in-App-node.args = c.in_ok-args-in-App-node.ensures ∙ c.in-App-node.args-is in
    let s = c.requires.instance.0 in
    let all = args_of_instance s c.in-App.sym.0 c.in-App-node.field-0.0 c.in-App.patterns c.as_slice.result.now
    c.in-App-node.args items c.args.pattern.now c.args.term e c.as_slice.ensures d j c.requires.instance.2 in
    let same : c.in-App-node.field-0.0 ≡ c.in-App.sym.0 = same_symbol s c.in-App.sym.0 c.in-App-node.field-0.0
    c.in-App.patterns c.in-App-node.args c.args.pattern.now c.args.term e d c.requires.instance.2 in
    let whole : app c.in-App.sym.0 (trees_of items) ≡ c.args.term = ap (λ xs. app c.in-App.sym.0 (trees_of xs))
    j ∙ ap (λ f. app f (trees_of c.in-App-node.args)) (sym same) ∙ d in
    let p = parts c.in-App.sym.0 c.in-App.patterns c.as_slice.result.now c.args.pattern.now e c.as_slice.ensures
    c.requires.narrow in (
      omega (arith, p.weighs),
      (c.requires.fine, ((s, c.requires.instance.1, all), (p.narrow, (p.few, c.requires.room)))),
    )

pub open-returns-in_default-clause-opened : goal.open-returns-in_default-clause-opened
open-returns-in_default-clause-opened t c =
    let spec = c.args.self.now in
    let e : var c.in_default.field-0.0 ≡ c.args.pattern.now = ap tree_of (sym c.in_default.is) ∙ c.pattern.view_is in
    let i : apply c.requires.instance.0 (var c.in_default.field-0.0) ≡ c.args.term = ap
    (λ x. apply c.requires.instance.0 x) e ∙ c.requires.instance.2 in
    let d = image_done spec c.requires.fine c.requires.instance.0 c.requires.instance.1 c.in_default.field-0.0 in
    opened_copy spec c.args.trace.now.place.items c.args.budget c.args.term c.args.term
    c.args.trace.now.uses.items refl (subst (λ x. IsNormal spec x) i d.0) (subst (λ x. IsNarrow x) i d.1)
    c.requires.room

pub open-returns-in-Var-clause-opened : goal.open-returns-in-Var-clause-opened
open-returns-in-Var-clause-opened t c =
    let spec = c.args.self.now in
    let e : var c.in-Var.var.0 ≡ c.args.term = ap tree_of (sym c.in-Var.is) ∙ c.term.view_is in
    opened_copy spec c.args.trace.now.place.items c.args.budget c.args.term c.var.result
    c.args.trace.now.uses.items (c.var.ensures ∙ e)
    (subst (λ x. IsNormal spec x) (sym c.var.ensures) (variable_normal spec c.requires.fine c.in-Var.var.0))
    (subst (λ x. IsNarrow x) (sym c.var.ensures) tt) c.requires.room

pub open-returns-in-Some-clause-opened : goal.open-returns-in-Some-clause-opened
open-returns-in-Some-clause-opened t c =
    let spec = c.args.self.now in
    let place = c.args.trace.now.place.items in
    let old = c.args.trace.now.uses.items in
    let e : app c.in-App.sym.0 (trees_of c.in-App.patterns) ≡ c.args.pattern.now = ap tree_of (sym c.in-App.is)
    ∙ c.pattern.view_is in
    let d : app c.in-App-node.field-0.0 (trees_of c.in-App-node.args) ≡ c.args.term = ap tree_of
    (sym c.in-App-node.is) ∙ c.term.view_is in
    let items = c.in_ok-args-in-App-node.args.items in
    let j : items ≡ c.in-App-node.args = c.in_ok-args-in-App-node.ensures ∙ c.in-App-node.args-is in
    let s = c.requires.instance.0 in
    let all = args_of_instance s c.in-App.sym.0 c.in-App-node.field-0.0 c.in-App.patterns c.as_slice.result.now
    c.in-App-node.args items c.args.pattern.now c.args.term e c.as_slice.ensures d j c.requires.instance.2 in
    let same : c.in-App-node.field-0.0 ≡ c.in-App.sym.0 = same_symbol s c.in-App.sym.0 c.in-App-node.field-0.0
    c.in-App.patterns c.in-App-node.args c.args.pattern.now c.args.term e d c.requires.instance.2 in
    let whole : app c.in-App.sym.0 (trees_of items) ≡ c.args.term = ap (λ xs. app c.in-App.sym.0 (trees_of xs))
    j ∙ ap (λ f. app f (trees_of c.in-App-node.args)) (sym same) ∙ d in
    let p = parts c.in-App.sym.0 c.in-App.patterns c.as_slice.result.now c.args.pattern.now e c.as_slice.ensures
    c.requires.narrow in
    let new = c.walk_all.new.trace.uses.items in
    let w : IsWalkOfAll spec place c.args.budget items old new (Some c.in-Some.normal) = subst
    (λ o. IsWalkOfAll spec place c.args.budget items old new o) c.in-Some.is
    c.in_ok-normal-in-App-node.ensures.walked in
    let n : length items ≡ length c.as_slice.result.now = ap (λ xs. length xs) (sym all)
    ∙ length-map c.as_slice.result.now (apply s) in
    all_advanced spec place c.args.budget c.in-App.sym.0 items old new c.in-Some.normal c.args.term c.app.result
    w (omega (arith, n, p.few)) whole c.app.ensures

pub open-returns-in-None-clause-opened : goal.open-returns-in-None-clause-opened
open-returns-in-None-clause-opened t c =
    let spec = c.args.self.now in
    let place = c.args.trace.now.place.items in
    let old = c.args.trace.now.uses.items in
    let e : app c.in-App.sym.0 (trees_of c.in-App.patterns) ≡ c.args.pattern.now = ap tree_of (sym c.in-App.is)
    ∙ c.pattern.view_is in
    let d : app c.in-App-node.field-0.0 (trees_of c.in-App-node.args) ≡ c.args.term = ap tree_of
    (sym c.in-App-node.is) ∙ c.term.view_is in
    let items = c.in_ok-args-in-App-node.args.items in
    let j : items ≡ c.in-App-node.args = c.in_ok-args-in-App-node.ensures ∙ c.in-App-node.args-is in
    let s = c.requires.instance.0 in
    let all = args_of_instance s c.in-App.sym.0 c.in-App-node.field-0.0 c.in-App.patterns c.as_slice.result.now
    c.in-App-node.args items c.args.pattern.now c.args.term e c.as_slice.ensures d j c.requires.instance.2 in
    let same : c.in-App-node.field-0.0 ≡ c.in-App.sym.0 = same_symbol s c.in-App.sym.0 c.in-App-node.field-0.0
    c.in-App.patterns c.in-App-node.args c.args.pattern.now c.args.term e d c.requires.instance.2 in
    let whole : app c.in-App.sym.0 (trees_of items) ≡ c.args.term = ap (λ xs. app c.in-App.sym.0 (trees_of xs))
    j ∙ ap (λ f. app f (trees_of c.in-App-node.args)) (sym same) ∙ d in
    let p = parts c.in-App.sym.0 c.in-App.patterns c.as_slice.result.now c.args.pattern.now e c.as_slice.ensures
    c.requires.narrow in
    let new = c.walk_all.new.trace.uses.items in
    let w : IsWalkOfAll spec place c.args.budget items old new None = subst
    (λ o. IsWalkOfAll spec place c.args.budget items old new o) c.in-None.is
    c.in_ok-normal-in-App-node.ensures.walked in
    subst (λ x. Exceeds spec c.args.budget x old) whole (w c.in-App.sym.0)

pub walk-loop-term-init : goal.walk-loop-term-init
walk-loop-term-init t c =
    let spec = c.args.self.now in
    let u = c.args.term in
    record {
      opened = subst (λ o. IsOpening spec c.args.trace.now.place.items c.args.budget u
          c.args.trace.now.uses.items c.open.new.trace.uses.items o) c.in-Some.is c.in_ok-term.ensures.opened;
      stays = if_some _ _ _ c.in-Some.is c.in_ok-term.ensures.stays;
    }

pub walk-returns-then-len-budget-clause-walked : goal.walk-returns-then-len-budget-clause-walked
walk-returns-then-len-budget-clause-walked t c =
    let spec = c.args.self.now in
    let u = c.loop-term.term in
    let here = c.loop-term.trace.uses.items in
    let o = c.loop-term.invariant.opened in
    let s = (found_rule (goal.at.walk-returns-then-len-budget-clause-walked t c).In-Some-2).0 in
    let found = (found_rule (goal.at.walk-returns-then-len-budget-clause-walked t c).In-Some-2).1 in
    let n : length here ≡ c.args.budget = omega (arith, c.if-len-budget.true, c.len.ensures, o.within) in
    exceeds_after spec c.args.trace.now.place.items c.args.budget c.args.term u o.uses
    c.args.trace.now.uses.items here o.runs o.added (root_exceeds spec c.args.budget u c.in-Some-2.index s
    here o.normal found n)

pub walk-overflow_cast-index : goal.walk-overflow_cast-index
walk-overflow_cast-index t c =
    let spec = c.args.self.now in
    let s = (found_rule (goal.at.walk-overflow_cast-index t c).In-Some-2).0 in
    let found = (found_rule (goal.at.walk-overflow_cast-index t c).In-Some-2).1 in
    omega (arith, slice_get_within spec.rules c.in-Some-2.index found.rule found.listed, c.requires.fine.few_rules)

pub walk-overflow_add-index : goal.walk-overflow_add-index
walk-overflow_add-index t c =
    let spec = c.args.self.now in
    let s = (found_rule (goal.at.walk-overflow_add-index t c).In-Some-2).0 in
    let found = (found_rule (goal.at.walk-overflow_add-index t c).In-Some-2).1 in
    omega (arith, slice_get_within spec.rules c.in-Some-2.index found.rule found.listed, c.requires.fine.few_rules)

pub walk-offset_bounds-rules-index : goal.walk-offset_bounds-rules-index
walk-offset_bounds-rules-index t c =
    let spec = c.args.self.now in
    let s = (found_rule (goal.at.walk-offset_bounds-rules-index t c).In-Some-2).0 in
    let found = (found_rule (goal.at.walk-offset_bounds-rules-index t c).In-Some-2).1 in
    omega (arith, slice_get_within spec.rules c.in-Some-2.index found.rule found.listed, c.requires.fine.few_rules)

pub walk-bounds-rules-index : goal.walk-bounds-rules-index
walk-bounds-rules-index t c =
    let spec = c.args.self.now in
    let s = (found_rule (goal.at.walk-bounds-rules-index t c).In-Some-2).0 in
    let found = (found_rule (goal.at.walk-bounds-rules-index t c).In-Some-2).1 in
    subst (λ rs. c.in-Some-2.index < length rs) (sym c.rules.ensures)
    (slice_get_within spec.rules c.in-Some-2.index found.rule found.listed)

pub walk-rewrite-requires : goal.walk-rewrite-requires
walk-rewrite-requires t c =
    let spec = c.args.self.now in
    let s = (found_rule (goal.at.walk-rewrite-requires t c).In-Some-2).0 in
    let found = (found_rule (goal.at.walk-rewrite-requires t c).In-Some-2).1 in
    let rule = c.index-rules-index.result in
    let same : rule ≡ found.rule = same_item spec.rules c.rules.result.now c.in-Some-2.index rule found.rule
    c.rules.ensures found.listed c.index-rules-index.is in
    let at : slice_get spec.rules c.in-Some-2.index ≡ Some rule = found.listed ∙ ap (λ (r : Rule). Some r) (sym same) in
    let matched = subst (λ (r : Rule). apply s r.left ≡ c.loop-term.term) (sym same) found.matched.0 in
    record {
      sorted = (spec.sig, c.requires.fine.rules c.in-Some-2.index rule at);
      fits = (s, matched);
    }

pub walk-open-requires-in-Some-2 : goal.walk-open-requires-in-Some-2
walk-open-requires-in-Some-2 t c =
    let spec = c.args.self.now in
    let b = c.args.budget in
    let u = c.loop-term.term in
    let old = c.args.trace.now.uses.items in
    let here = c.loop-term.trace.uses.items in
    let o = c.loop-term.invariant.opened in
    let s = (found_rule (goal.at.walk-open-requires-in-Some-2 t c).In-Some-2).0 in
    let found = (found_rule (goal.at.walk-open-requires-in-Some-2 t c).In-Some-2).1 in
    let rule = c.index-rules-index.result in
    let same : rule ≡ found.rule = same_item spec.rules c.rules.result.now c.in-Some-2.index rule found.rule
    c.rules.ensures found.listed c.index-rules-index.is in
    let m : c.in_ok-made.made ≡ apply s rule.right = c.in_ok-made.ensures s
    (subst (λ (r : Rule). apply s r.left ≡ u) (sym same) found.matched.0) in
    let at : slice_get spec.rules c.in-Some-2.index ≡ Some rule = found.listed ∙ ap (λ (r : Rule). Some r) (sym same) in
    let sorted = c.requires.fine.rules c.in-Some-2.index rule at in
    let n : length c.add.new.self.uses.items ≡ length here + 1 = one_more here c.add.new.self.uses.items _
    c.in_ok-add.ensures.added in
    let some : length here < b = omega (arith, c.if-len-budget.false, c.len.ensures) in
    let small = right_below_room spec.rules c.in-Some-2.index rule at in
    let f = use_falls b (length here) (room spec.rules) (2 * weight rule.right) some (omega (arith, small)) in
    let g : (b - length c.add.new.self.uses.items) * room spec.rules ≡ (b - (length here + 1)) * room
    spec.rules = ap (λ m. (b - m) * room spec.rules) n in
    let h = less_left b (length old) (length here) (room spec.rules)
    (grows c.args.trace.now.place.items old here o.uses o.added) in (
      omega (arith, f, g, h),
      (
        c.requires.fine,
        (
          (
            s,
            match_fine spec found.rule.left u s
                (c.requires.fine.rules c.in-Some-2.index found.rule found.listed).left o.normal found.matched,
            sym m,
          ),
          (
            sorted_narrow spec.sig _ rule.right sorted.sides.0 c.requires.fine.arities sorted.sides.2,
            omega (arith, n, some),
          ),
        ),
      ),
    )

pub walk-returns-in_default-3-clause-walked : goal.walk-returns-in_default-3-clause-walked
walk-returns-in_default-3-clause-walked t c =
    let spec = c.args.self.now in
    let b = c.args.budget in
    let u = c.loop-term.term in
    let place = c.args.trace.now.place.items in
    let here = c.loop-term.trace.uses.items in
    let middle = c.add.new.self.uses.items in
    let s = (found_rule (goal.at.walk-returns-in_default-3-clause-walked t c).In-Some-2).0 in
    let found = (found_rule (goal.at.walk-returns-in_default-3-clause-walked t c).In-Some-2).1 in
    let rule = c.index-rules-index.result in
    let same : rule ≡ found.rule = same_item spec.rules c.rules.result.now c.in-Some-2.index rule found.rule
    c.rules.ensures found.listed c.index-rules-index.is in
    let m : c.in_ok-made.made ≡ apply s rule.right = c.in_ok-made.ensures s
    (subst (λ (r : Rule). apply s r.left ≡ u) (sym same) found.matched.0) in
    let e = added_at here middle c.loop-term.trace.place.items place (c.in-Some-2.index + 1)
    c.in_ok-add.ensures.added c.loop-term.invariant.stays in
    let w : Exceeds spec b c.in_ok-made.made middle = subst
    (λ o. IsOpening spec c.add.new.self.place.items b c.in_ok-made.made middle
    c.open-in-Some-2.new.trace.uses.items o) c.in_default-3.is c.in_ok-next.ensures.opened in
    exceeds_again spec place b c.args.term u c.in-Some-2.index s c.args.trace.now.uses.items here middle
    c.loop-term.invariant.opened found e (subst (λ (r : Rule). Exceeds spec b (apply s r.right) middle) same
    (subst (λ x. Exceeds spec b x middle) m w))

pub walk-loop-term-preserved : goal.walk-loop-term-preserved
walk-loop-term-preserved t c =
    let spec = c.args.self.now in
    let b = c.args.budget in
    let u = c.loop-term.term in
    let place = c.args.trace.now.place.items in
    let here = c.loop-term.trace.uses.items in
    let middle = c.add.new.self.uses.items in
    let new = c.open-in-Some-2.new.trace.uses.items in
    let s = (found_rule (goal.at.walk-loop-term-preserved t c).In-Some-2).0 in
    let found = (found_rule (goal.at.walk-loop-term-preserved t c).In-Some-2).1 in
    let rule = c.index-rules-index.result in
    let same : rule ≡ found.rule = same_item spec.rules c.rules.result.now c.in-Some-2.index rule found.rule
    c.rules.ensures found.listed c.index-rules-index.is in
    let m : c.in_ok-made.made ≡ apply s rule.right = c.in_ok-made.ensures s
    (subst (λ (r : Rule). apply s r.left ≡ u) (sym same) found.matched.0) in
    let e = added_at here middle c.loop-term.trace.place.items place (c.in-Some-2.index + 1)
    c.in_ok-add.ensures.added c.loop-term.invariant.stays in
    let stays : c.add.new.self.place.items ≡ place = subst (λ p. c.add.new.self.place.items ≡ p)
    c.loop-term.invariant.stays c.in_ok-add.ensures.stays in
    let w : Opened spec c.add.new.self.place.items b c.in_ok-made.made middle new c.in-Some-3.next = subst
    (λ o. IsOpening spec c.add.new.self.place.items b c.in_ok-made.made middle new o) c.in-Some-3.is
    c.in_ok-next.ensures.opened in
    let v : Opened spec place b (apply s found.rule.right) middle new c.in-Some-3.next = subst
    (λ (r : Rule). Opened spec place b (apply s r.right) middle new c.in-Some-3.next) same
    (subst (λ x. Opened spec place b x middle new c.in-Some-3.next) m
    (subst (λ p. Opened spec p b c.in_ok-made.made middle new c.in-Some-3.next) stays w)) in
    record {
      opened = opened_again spec place b c.args.term u c.in-Some-2.index s c.args.trace.now.uses.items here
          middle c.loop-term.invariant.opened found e new c.in-Some-3.next v;
      stays = subst (λ p. c.open-in-Some-2.new.trace.place.items ≡ p) stays
          (if_some _ _ _ c.in-Some-3.is c.in_ok-next.ensures.stays);
    }

pub walk-loop-term-smaller : goal.walk-loop-term-smaller
walk-loop-term-smaller t c =
    let spec = c.args.self.now in
    let here = c.loop-term.trace.uses.items in
    let middle = c.add.new.self.uses.items in
    let new = c.open-in-Some-2.new.trace.uses.items in
    let rule = c.index-rules-index.result in
    let w : Opened spec c.add.new.self.place.items c.args.budget c.in_ok-made.made middle new
    c.in-Some-3.next = subst (λ o. IsOpening spec c.add.new.self.place.items c.args.budget c.in_ok-made.made
    middle new o) c.in-Some-3.is c.in_ok-next.ensures.opened in
    let n : length middle ≡ length here + 1 = one_more here middle _ c.in_ok-add.ensures.added in
    let g = grows c.add.new.self.place.items middle new w.uses w.added in
    let some : length here < c.args.budget = omega (arith, c.if-len-budget.false, c.len.ensures) in
    omega (arith, n, g, some)

pub walk-returns-clause-walked : goal.walk-returns-clause-walked
walk-returns-clause-walked t c =
    opened_normal c.args.self.now c.args.trace.now.place.items c.args.budget c.args.term
    c.args.trace.now.uses.items c.loop-term.trace.uses.items c.loop-term.term c.loop-term.invariant.opened
    (subst (λ (p : Option ℕ). IsFound c.args.self.now c.loop-term.term p) c.in_default-2.is c.in_ok-index.ensures)

pub walk-returns-clause-stays : goal.walk-returns-clause-stays
walk-returns-clause-stays t c = c.loop-term.invariant.stays

within_args : (ts args ps : List Tree) (i : ℕ) (s : List (Option Tree)) → map (apply s) ps ≡ ts →
    length args ≡ length ts → i < length ps → i < length args
within_args ts args ps i s e n lt =
    let k : length (map (apply s) ps) ≡ length ts = ap (λ xs. length xs) e in
    omega (arith, k, length-map ps (apply s))

pub walk_all-index_mut-requires : goal.walk_all-index_mut-requires
walk_all-index_mut-requires t c =
    let h : c.loop-index.index < length c.loop-index.args.items = within_args c.args.args.items
    c.loop-index.args.items c.args.patterns.now c.loop-index.index c.requires.instances.0
    c.requires.instances.2 c.loop-index.invariant.size c.loop-index-test.true in
    omega arith

pub walk_all-loop-index-init : goal.walk_all-loop-index-init
walk_all-loop-index-init t c =
    let none : c.in_ok-made.made ≡ [] = c.in_ok-made.ensures in
    record {
      advanced = advance_none c.args.self.now c.args.trace.now.place.items c.args.budget c.args.args.items
          c.in_ok-made.made c.args.args.items c.args.trace.now.uses.items none refl c.requires.room;
      rest = refl;
      size = refl;
      count = ap (λ xs. length xs) none;
      stays = refl;
    }

pub walk_all-walk-requires : goal.walk_all-walk-requires
walk_all-walk-requires t c =
    let spec = c.args.self.now in
    let b = c.args.budget in
    let place = c.args.trace.now.place.items in
    let old = c.args.trace.now.uses.items in
    let here = c.loop-index.trace.uses.items in
    let made = c.loop-index.made in
    let ps = c.args.patterns.now in
    let ts = c.args.args.items in
    let i = c.loop-index.index in
    let p = c.index-patterns-index.result in
    let v = c.replace-arg.result in
    let lt : i < length c.loop-index.args.items = within_args ts c.loop-index.args.items ps i
    c.requires.instances.0 c.requires.instances.2 c.loop-index.invariant.size c.loop-index-test.true in
    let read : v ≡ get_or c.loop-index.args.items i v = subst
    (λ (x : Tree). x ≡ get_or c.loop-index.args.items i x) (sym c.replace-arg.ensures.value)
    c.index_mut.ensures.value in
    let there = rest_first c.loop-index.args.items ts i v c.loop-index.invariant.rest lt read
    c.loop-index.invariant.size in
    let within : i < length ts = omega (arith, lt, c.loop-index.invariant.size) in
    let at : slice_get ts i ≡ Some v = slice_get_read ts (length ts) i v refl within there in
    let a : Advanced spec place b ts old here made (v ∷ drop (i + 1) ts) = subst
    (λ rest. Advanced spec place b ts old here made rest) (drop_here ts i v at) c.loop-index.invariant.advanced in
    let atp : slice_get ps i ≡ Some p = slice_get_read ps (length ps) i p refl c.loop-index-test.true
    c.index-patterns-index.is in
    let w = weight-member ps i p c.loop-index-test.true c.index-patterns-index.is in
    let l = less_left b (length old) (length here) (room spec.rules)
    (grows place old here c.loop-index.invariant.advanced.uses c.loop-index.invariant.advanced.added) in (
      omega (arith, w, l),
      (
        c.requires.fine,
        (
          (
            c.requires.instances.0,
            c.requires.instances.1,
            instance_at c.requires.instances.0 ps ts i p v c.requires.instances.2 c.loop-index-test.true
                c.index-patterns-index.is there,
          ),
          (all_at IsNarrow ps c.requires.narrow i p atp, c.loop-index.invariant.advanced.within),
        ),
      ),
    )

pub walk_all-returns-in_default-clause-walked : goal.walk_all-returns-in_default-clause-walked
walk_all-returns-in_default-clause-walked t c =
    λ f.
    let spec = c.args.self.now in
    let b = c.args.budget in
    let place = c.args.trace.now.place.items in
    let old = c.args.trace.now.uses.items in
    let here = c.loop-index.trace.uses.items in
    let made = c.loop-index.made in
    let ps = c.args.patterns.now in
    let ts = c.args.args.items in
    let i = c.loop-index.index in
    let p = c.index-patterns-index.result in
    let v = c.replace-arg.result in
    let lt : i < length c.loop-index.args.items = within_args ts c.loop-index.args.items ps i
    c.requires.instances.0 c.requires.instances.2 c.loop-index.invariant.size c.loop-index-test.true in
    let read : v ≡ get_or c.loop-index.args.items i v = subst
    (λ (x : Tree). x ≡ get_or c.loop-index.args.items i x) (sym c.replace-arg.ensures.value)
    c.index_mut.ensures.value in
    let there = rest_first c.loop-index.args.items ts i v c.loop-index.invariant.rest lt read
    c.loop-index.invariant.size in
    let within : i < length ts = omega (arith, lt, c.loop-index.invariant.size) in
    let at : slice_get ts i ≡ Some v = slice_get_read ts (length ts) i v refl within there in
    let a : Advanced spec place b ts old here made (v ∷ drop (i + 1) ts) = subst
    (λ rest. Advanced spec place b ts old here made rest) (drop_here ts i v at) c.loop-index.invariant.advanced in
    let w : Exceeds spec b v here = subst
    (λ o. IsWalk spec c.push.new.self.items b v here c.walk.new.trace.uses.items o) c.in_default.is
    c.in_ok-normal.ensures.walked in
    advance_exceeds spec place (place ++ (length made + 1) ∷ []) b ts made v (drop (i + 1) ts) old here a refl f w

pub walk_all-loop-index-preserved : goal.walk_all-loop-index-preserved
walk_all-loop-index-preserved t c =
    let spec = c.args.self.now in
    let b = c.args.budget in
    let place = c.args.trace.now.place.items in
    let old = c.args.trace.now.uses.items in
    let here = c.loop-index.trace.uses.items in
    let made = c.loop-index.made in
    let ps = c.args.patterns.now in
    let ts = c.args.args.items in
    let i = c.loop-index.index in
    let p = c.index-patterns-index.result in
    let v = c.replace-arg.result in
    let lt : i < length c.loop-index.args.items = within_args ts c.loop-index.args.items ps i
    c.requires.instances.0 c.requires.instances.2 c.loop-index.invariant.size c.loop-index-test.true in
    let read : v ≡ get_or c.loop-index.args.items i v = subst
    (λ (x : Tree). x ≡ get_or c.loop-index.args.items i x) (sym c.replace-arg.ensures.value)
    c.index_mut.ensures.value in
    let there = rest_first c.loop-index.args.items ts i v c.loop-index.invariant.rest lt read
    c.loop-index.invariant.size in
    let within : i < length ts = omega (arith, lt, c.loop-index.invariant.size) in
    let at : slice_get ts i ≡ Some v = slice_get_read ts (length ts) i v refl within there in
    let a : Advanced spec place b ts old here made (v ∷ drop (i + 1) ts) = subst
    (λ rest. Advanced spec place b ts old here made rest) (drop_here ts i v at) c.loop-index.invariant.advanced in
    let new = c.walk.new.trace.uses.items in
    let normal = c.in-Some.normal in
    let below = one_deeper place c.loop-index.trace.place.items c.push.new.self.items i (length made)
    c.in_ok-push.ensures.items c.loop-index.invariant.stays c.loop-index.invariant.count in
    let one : Normalized spec c.push.new.self.items b v here new normal = subst
    (λ o. IsWalk spec c.push.new.self.items b v here new o) c.in-Some.is c.in_ok-normal.ensures.walked in
    let stays : c.walk.new.trace.place.items ≡ c.push.new.self.items = if_some _ _ _ c.in-Some.is
    c.in_ok-normal.ensures.stays in
    let more : c.push-in-loop-index.new.self ≡ made ++ normal ∷ [] = c.in_ok-push-2.ensures.pushed in
    let n = one_more made c.push-in-loop-index.new.self normal more in
    record {
      advanced = advance spec place c.push.new.self.items b ts made v (drop (i + 1) ts) old here a below normal
          new c.push-in-loop-index.new.self more one;
      rest = rest_set c.loop-index.args.items ts i c.replace-arg.new.dest c.loop-index.invariant.rest;
      size = simp length-set c.loop-index.invariant.size;
      count = omega (arith, n, c.loop-index.invariant.count);
      stays = popped place c.walk.new.trace.place.items c.pop.new.self.items (length made + 1)
          (vec_len c.walk.new.trace.place) (stays ∙ below) c.pop.ensures.rest (omega arith);
    }

pub walk_all-returns-clause-walked : goal.walk_all-returns-clause-walked
walk_all-returns-clause-walked t c =
    let ts = c.args.args.items in
    let k : length (map (apply c.requires.instances.0) c.args.patterns.now) ≡ length ts = ap (λ xs. length xs)
    c.requires.instances.2 in
    let n : length ts ≡ length c.args.patterns.now = omega (
      arith,
      k,
      length-map c.args.patterns.now (apply c.requires.instances.0),
    ) in
    let none : drop c.loop-index.index ts ≡ [] = drop_past ts c.loop-index.index
    (omega (arith, n, c.loop-index-test.false)) in (
      subst (λ rest. Advanced c.args.self.now c.args.trace.now.place.items c.args.budget ts
          c.args.trace.now.uses.items c.loop-index.trace.uses.items c.loop-index.made rest) none
          c.loop-index.invariant.advanced,
      omega (
        arith,
        n,
        c.loop-index.invariant.count,
        c.loop-index-test.false,
        c.loop-index.auto.index-end,
      ),
    )

pub walk_all-returns-clause-stays : goal.walk_all-returns-clause-stays
walk_all-returns-clause-stays t c = c.loop-index.invariant.stays
