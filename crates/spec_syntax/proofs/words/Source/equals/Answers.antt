use Rattle.std.proofs.Common.{◌≡◌, [], ◌∷◌, ◌++◌, ◌∙◌, arith}
use Rattle.spec_grammar.specs.Derives.{clean}
use Rattle.spec_grammar.specs.Items.{items_of}
use Rattle.spec_syntax.proofs.OrderSteps.{equals_join}
use Rattle.spec_syntax.proofs.words.Source.equals.Goals as goal

pub loop-made-preserved : goal.loop-made-preserved
loop-made-preserved c =
    let bytes = c.args.self.now.bytes.now in
    let es = c.loop-made.made in
    let e = c.in-Some.equal in
    let i = c.loop-made.invariant in
    let made : c.push.new.self ≡ es ++ e ∷ [] = c.in_ok-push.ensures.pushed in
    let h = rw c.in-Some.is at c.in_ok-equal.ensures in
    let all = clean (items_of bytes c.args.tokens.now) in
    let rest = clean (items_of bytes c.loop-made.rest.now) in
    rw made (record {
      text = equals_join es (e ∷ []) all rest (clean (items_of bytes c.in-Some.after.now)) i.text h.0;
      same = λ st. i.same st ∙ h.1 st;
      less = omega (arith, i.less, h.2);
    })
