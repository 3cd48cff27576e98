use Rattle.std.proofs.Common.{◌++◌, ◌∷◌, [], MatchBool, sym, subst, ◌∙◌, ap}
use Rattle.unifier.specs.Closure.{Joined, NotJoined}
use Rattle.unifier.proofs.Closing.{Closing, closing_starts, closing_goes_on, closing_clashes}
use Rattle.unifier.proofs.unification.closure.close.Goals as goal

pub loop-left-init : goal.loop-left-init
loop-left-init c =
    subst (λ ps. Closing c.args.graph.now c.args.first c.args.second c.in_ok-roots.roots.items ps)
    (sym (c.in_ok-push.ensures.items ∙ ap (λ ps. ps ++ (c.args.first, c.args.second) ∷ [])
    c.new-pending.ensures.items))
    (closing_starts c.args.graph.now c.args.first c.args.second c.in_ok-roots.roots.items c.in_ok-roots.ensures
    c.requires.first c.requires.second)

pub returns-then-not-branch-clause-clash : goal.returns-then-not-branch-clause-clash
returns-then-not-branch-clause-clash c =
    let before = subst (λ ps. Closing c.args.graph.now c.args.first c.args.second c.loop-left.roots.items ps)
    c.in-Some.ensures.items c.loop-left.invariant in
    let n = subst (λ b. MatchBool b (Joined c.args.graph.now c.loop-left.roots.items c.pop.new.self.items
    c.in-Some.left c.in-Some.right c.join.new.roots.items c.join.new.pending.items)
    (NotJoined c.args.graph.now c.loop-left.roots.items c.in-Some.left c.in-Some.right))
    c.if-not-branch.true c.in_ok-join.ensures in
    closing_clashes c.args.graph.now c.args.first c.args.second c.loop-left.roots.items c.pop.new.self.items
    c.in-Some.left c.in-Some.right before n

pub loop-left-preserved : goal.loop-left-preserved
loop-left-preserved c =
    let before = subst (λ ps. Closing c.args.graph.now c.args.first c.args.second c.loop-left.roots.items ps)
    c.in-Some.ensures.items c.loop-left.invariant in
    let j = subst (λ b. MatchBool b (Joined c.args.graph.now c.loop-left.roots.items c.pop.new.self.items
    c.in-Some.left c.in-Some.right c.join.new.roots.items c.join.new.pending.items)
    (NotJoined c.args.graph.now c.loop-left.roots.items c.in-Some.left c.in-Some.right))
    c.if-not-branch.false c.in_ok-join.ensures in
    closing_goes_on c.args.graph.now c.args.first c.args.second c.loop-left.roots.items c.join.new.roots.items
    c.pop.new.self.items c.join.new.pending.items c.in-Some.left c.in-Some.right before j
