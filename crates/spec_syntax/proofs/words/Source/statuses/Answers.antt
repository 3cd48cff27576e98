use Rattle.std.proofs.Common.{◌≡◌, [], ◌∷◌, ◌++◌, ◌∙◌, arith}
use Rattle.spec_grammar.specs.Derives.{clean}
use Rattle.spec_grammar.specs.Items.{items_of}
use Rattle.spec_syntax.proofs.OrderSteps.{statuses_join}
use Rattle.spec_syntax.proofs.words.Source.statuses.Goals as goal

pub loop-made-preserved : goal.loop-made-preserved
loop-made-preserved c =
    let bytes = c.args.self.now.bytes.now in
    let ss = c.loop-made.made in
    let s = c.in-Some.status in
    let i = c.loop-made.invariant in
    let made : c.push.new.self ≡ ss ++ s ∷ [] = c.in_ok-push.ensures.pushed in
    let h = rw c.in-Some.is at c.in_ok-status.ensures in
    let all = clean (items_of bytes c.args.tokens.now) in
    let rest = clean (items_of bytes c.loop-made.rest.now) in
    rw made (record {
      text = statuses_join ss (s ∷ []) all rest (clean (items_of bytes c.in-Some.after.now)) i.text h.0;
      same = λ st. i.same st ∙ h.1 st;
      less = omega (arith, i.less, h.2);
    })
