use Rattle.std.proofs.Common.{◌≡◌, List, [], ◌∷◌, Some, None, Option, true, false, inl, inr, refl, ap, sym, ◌∙◌, subst}
use Rattle.std.proofs.Common.{arith}
use Rattle.std.specs.Option.{MatchOption}
use Rattle.std.specs.Borrow.{Bor}
use Rattle.term_core.specs.Tree.{Tree, app, trees_of}
use Rattle.term_core.specs.Measure.{weight, list_weight_is}
use Rattle.term_core.proofs.Items.{if_ok_map}
use Rattle.plain_proof.specs.ClosingAnswers.{AreClosing}
use Rattle.plain_proof.proofs.Pairs.{closed_same, heads_closed, apart_instance, apart_open, all_none, all_more}
use Rattle.plain_proof.proofs.closing.+close.Goals as goal

pub close-returns-then-same : goal.close-returns-then-same
close-returns-then-same t c = closed_same c.args.sig.now c.args.ctx.now c.args.equation.now c.args.over.now
    c.args.a.now c.args.b.now (c.if-same.ensures.0 refl)

pub close-close_all-requires : goal.close-close_all-requires
close-close_all-requires t c =
    let h = c.in-Some.ensures in
    let w : weight c.args.a.now ≡ weight (app h.0 (trees_of c.in-Some.xs.now)) = ap (λ x. weight x) h.2 in
    (omega (arith, w, list_weight_is c.in-Some.xs.now), (c.requires.few, c.requires.extends))

pub close-returns-then-branch-2 : goal.close-returns-then-branch-2
close-returns-then-branch-2 t c =
    apart_instance c.args.sig.now c.args.ctx.now c.args.equation.now c.args.over.now c.args.a.now c.args.b.now
    (λ h. absurd (let q : false ≡ true = c.if-same.ensures.1 h in cc)) c.in-None.ensures
    (inl (c.in_ok-is_instance-in-None.ensures.0 c.if-branch-2.true))

pub close-returns-then-branch-3 : goal.close-returns-then-branch-3
close-returns-then-branch-3 t c =
    apart_instance c.args.sig.now c.args.ctx.now c.args.equation.now c.args.over.now c.args.a.now c.args.b.now
    (λ h. absurd (let q : false ≡ true = c.if-same.ensures.1 h in cc)) c.in-None.ensures
    (inr (c.in_ok-is_instance-in-None-2.ensures.0 c.if-branch-3.true))

pub close-returns-then-branch : goal.close-returns-then-branch
close-returns-then-branch t c =
    let h = c.in-Some.ensures in
    heads_closed c.args.sig.now c.args.ctx.now c.args.equation.now c.args.over.now c.args.a.now c.args.b.now h.0
    c.in-Some.xs.now c.in-Some.ys.now h.1 h.2 h.3
    (subst (λ r. AreClosing c.args.sig.now c.args.ctx.now c.args.equation.now c.args.over.now
    c.in-Some.xs.now c.in-Some.ys.now r) c.if-branch.true c.in_ok-close_all-in-Some.ensures)

pub close-returns-else-branch-3 : goal.close-returns-else-branch-3
close-returns-else-branch-3 t c =
    apart_open c.args.sig.now c.args.ctx.now c.args.equation.now c.args.over.now c.args.a.now c.args.b.now
    (λ h. absurd (let q : false ≡ true = c.if-same.ensures.1 h in cc)) c.in-None.ensures
    (λ i. absurd (let q : false ≡ true = sym c.if-branch-2.false ∙ c.in_ok-is_instance-in-None.ensures.1 i in cc))
    (λ i. absurd (let q : false ≡ true = sym c.if-branch-3.false ∙ c.in_ok-is_instance-in-None-2.ensures.1 i in cc))

-- what `front` found, by its answer
found : (xs : List Tree) (o q : Option (Bor Tree × Bor (List Tree))) → o ≡ q →
    MatchOption o (xs ≡ []) (λ p. xs ≡ p.0.now ∷ p.1.now) → MatchOption q (xs ≡ []) (λ p. xs ≡ p.0.now ∷ p.1.now)
found xs o q e m = subst (λ (z : Option (Bor Tree × Bor (List Tree))). MatchOption z (xs ≡ [])
    (λ p. xs ≡ p.0.now ∷ p.1.now)) e m

pub close_all-returns-in-None-None : goal.close_all-returns-in-None-None
close_all-returns-in-None-None t c =
    all_none c.args.sig.now c.args.ctx.now c.args.equation.now c.args.over.now c.args.xs.now c.args.ys.now
    (found c.args.xs.now c.front-first.result None c.in-None-None.is-0 c.front-first.ensures)
    (found c.args.ys.now c.front-other.result None c.in-None-None.is-1 c.front-other.ensures)

pub close_all-returns-in_default-2 : goal.close_all-returns-in_default-2
close_all-returns-in_default-2 t c =
    if_ok_map c.close_all.result _ _ (λ b w. all_more c.args.sig.now c.args.ctx.now c.args.equation.now
    c.args.over.now c.in-Some-Some.x.now c.in-Some-Some.y.now c.in-Some-Some.xs.now c.in-Some-Some.ys.now
    c.args.xs.now c.args.ys.now c.in_ok-close-in-Some-Some.field-0 b
    (found c.args.xs.now c.front-first.result (Some (c.in-Some-Some.x, c.in-Some-Some.xs)) c.in-Some-Some.is-0
    c.front-first.ensures)
    (found c.args.ys.now c.front-other.result (Some (c.in-Some-Some.y, c.in-Some-Some.ys)) c.in-Some-Some.is-1
    c.front-other.ensures)
    c.in_default-2.not-Open c.in_ok-close-in-Some-Some.ensures w) c.close_all.ensures
