use Rattle.std.proofs.Common.{◌≡◌, [], ◌∷◌, ◌++◌, ℕ, length, subst, sym, ◌∙◌, arith, zero-add}
use Rattle.std.proofs.lemmas.List.{length_push}
use Rattle.spec_grammar.specs.Items.{items_of}
use Rattle.spec_grammar.specs.Derives.{clean}
use Rattle.spec_syntax.specs.Reading.{IsOneGoal}
use Rattle.spec_syntax.proofs.Grow.{goals_grow}
use Rattle.spec_syntax.proofs.words.Source.goals.Goals as goal

pub loop-made-preserved : goal.loop-made-preserved
loop-made-preserved c =
    let bytes = c.args.self.now.bytes.now in
    let gs = c.loop-made.made in
    let g = c.in-Some.goal in
    let i = c.loop-made.invariant in
    let made : c.push.new.self ≡ gs ++ g ∷ [] = c.in_ok-push.ensures.pushed in
    let o = rw c.in-Some.is at c.in_ok-goal.ensures in
    let h = rw c.len.ensures at o in
    let rest = clean (items_of bytes c.loop-made.rest.now) in
    let after = clean (items_of bytes c.in-Some.after.now) in
    rw (made, length_push) (record {
      text = goals_grow 0 gs g (clean (items_of bytes c.args.tokens.now)) rest after i.text
          (subst (λ (k : ℕ). IsOneGoal k g rest after) (sym (zero-add (length gs))) h.0);
      same = λ st. i.same st ∙ h.1 st;
      less = omega (arith, i.less, h.2);
    })
