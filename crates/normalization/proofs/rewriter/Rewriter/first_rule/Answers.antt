use Rattle.std.proofs.Common.{◌≡◌, ◌<◌, true, false, [], length, get_or, ap, sym, ◌∙◌, subst, refl, arith}
use Rattle.std.proofs.lemmas.Option.{slice_get-get_or}
use Rattle.term_core.specs.Tree.{var, app, trees_of}
use Rattle.term_core.specs.View.{tree_of}
use Rattle.matching.specs.Matching.{IsMatch, HasNoMatch, Fits}
use Rattle.normalization.specs.Uses.{IsStuck}
use Rattle.normalization.specs.Found.{Found, NoneBefore}
use Rattle.normalization.proofs.NormalTerms.{variable_normal}
use Rattle.normalization.proofs.FirstRules.{place_within, found_at, stuck_after, none_next, rule_at}
use Rattle.normalization.proofs.rewriter.Rewriter.first_rule.Goals as goal

pub returns-in_default : goal.returns-in_default
returns-in_default c =
    let e : var c.in_default.field-0.0 ≡ c.args.term.now = ap tree_of (sym c.in_default.is) ∙ c.term.view_is in
    subst (λ x. IsStuck c.args.self.now x) e
    (variable_normal c.args.self.now c.requires.fine c.in_default.field-0.0 [] _ refl)

pub loop-place-init : goal.loop-place-init
loop-place-init c = λ j k rule less. absurd (omega arith)

pub bounds-rules-place : goal.bounds-rules-place
bounds-rules-place c =
    let places = c.rules_of-place-items.result.now in
    let w = place_within c.args.self.now.rules c.in-App.sym.0 places c.rules_of-place-items.ensures
    c.loop-place.place-index c.loop-place-test.true in
    subst (λ rs. get_or places c.loop-place.place-index 0 < length rs) (sym c.rules-rules.ensures) w

pub offset_bounds-rules-place : goal.offset_bounds-rules-place
offset_bounds-rules-place c =
    let w = place_within c.args.self.now.rules c.in-App.sym.0 c.rules_of-place-items.result.now
    c.rules_of-place-items.ensures c.loop-place.place-index c.loop-place-test.true in
    omega (arith, w, c.requires.fine.few_rules)

pub loop-place-preserved-then-not-is_empty : goal.loop-place-preserved-then-not-is_empty
loop-place-preserved-then-not-is_empty c =
    let spec = c.args.self.now in
    let places = c.rules_of-place-items.result.now in
    let i = c.loop-place.place-index in
    let rule = c.index-rules-place.result in
    let at = slice_get-get_or places i 0 c.loop-place-test.true in
    let listed = rule_at spec.rules c.in-App.sym.0 places c.rules_of-place-items.ensures
    c.rules-rules.result.now i rule c.rules-rules.ensures c.loop-place-test.true c.index-rules-place.is in
    none_next spec.rules places c.args.term.now i _ rule at listed
    (λ free. let q : false ≡ true = c.if-not-is_empty.ensures.1 free in cc) c.loop-place.invariant

pub returns-then-branch : goal.returns-then-branch
returns-then-branch c =
    let spec = c.args.self.now in
    let places = c.rules_of-place-items.result.now in
    let i = c.loop-place.place-index in
    let rule = c.index-rules-place.result in
    let at = slice_get-get_or places i 0 c.loop-place-test.true in
    let e : app c.in-App.sym.0 (trees_of c.in-App.field-1) ≡ c.args.term.now = ap tree_of (sym c.in-App.is)
    ∙ c.term.view_is in
    let listed = rule_at spec.rules c.in-App.sym.0 places c.rules_of-place-items.ensures
    c.rules-rules.result.now i rule c.rules-rules.ensures c.loop-place-test.true c.index-rules-place.is in
    let found : Fits rule.left c.args.term.now true = subst (λ b. Fits rule.left c.args.term.now b)
    c.if-branch.true c.in_ok-fits.ensures in (
      found.0,
      subst (λ x. Found spec x (get_or places i 0) found.0) e
          (found_at spec c.requires.fine c.in-App.sym.0 (trees_of c.in-App.field-1) places
          c.rules_of-place-items.ensures i _ rule found.0 at listed (c.if-not-is_empty.ensures.0 refl)
          (subst (λ x. IsMatch rule.left x found.0) (sym e) found.1)
          (subst (λ x. NoneBefore spec.rules places x i) (sym e) c.loop-place.invariant)),
    )

pub loop-place-preserved : goal.loop-place-preserved
loop-place-preserved c =
    let spec = c.args.self.now in
    let places = c.rules_of-place-items.result.now in
    let i = c.loop-place.place-index in
    let rule = c.index-rules-place.result in
    let at = slice_get-get_or places i 0 c.loop-place-test.true in
    let listed = rule_at spec.rules c.in-App.sym.0 places c.rules_of-place-items.ensures
    c.rules-rules.result.now i rule c.rules-rules.ensures c.loop-place-test.true c.index-rules-place.is in
    let none : HasNoMatch rule.left c.args.term.now = subst (λ b. Fits rule.left c.args.term.now b)
    c.if-branch.false c.in_ok-fits.ensures in
    none_next spec.rules places c.args.term.now i _ rule at listed (λ _. none) c.loop-place.invariant

pub returns : goal.returns
returns c =
    let spec = c.args.self.now in
    let places = c.rules_of-place-items.result.now in
    let e : app c.in-App.sym.0 (trees_of c.in-App.field-1) ≡ c.args.term.now = ap tree_of (sym c.in-App.is)
    ∙ c.term.view_is in
    subst (λ x. IsStuck spec x) e (stuck_after spec c.requires.fine c.in-App.sym.0 (trees_of c.in-App.field-1)
    places c.rules_of-place-items.ensures c.loop-place.place-index c.loop-place-test.false
    (subst (λ x. NoneBefore spec.rules places x c.loop-place.place-index) (sym e) c.loop-place.invariant))
