use Rattle.std.proofs.Common.{◌≡◌, ◌+◌, [], ◌∷◌, None, length, refl, ap, ◌∙◌, arith}
use Rattle.spec_grammar.specs.declared.keys.Key.TheVariants.{Goal}
use Rattle.spec_grammar.specs.Derives.{clean}
use Rattle.spec_grammar.specs.Items.{Sign, items_of}
use Rattle.spec_grammar.specs.Limits.{goal_mark}
use Rattle.spec_grammar.specs.Symbols.{goals}
use Rattle.spec_syntax.specs.Reading.{goal_symbols}
use Rattle.spec_syntax.proofs.Steps.{at_take}
use Rattle.spec_syntax.proofs.words.Source.next_goal.Goals as goal

pub returns : goal.returns
returns c =
    let bytes = c.args.self.now.bytes.now in
    let n = c.args.n in
    let items = items_of bytes c.args.tokens.now in
    let next = items_of bytes c.in-Some.next.now in
    let h = c.in_ok-goal.ensures in
    let e = c.in-Some.ensures in
    let free : goal_mark n ≡ None = rw c.over.ensures at c.in_ok-within.ensures in
    let taken = at_take (goals n) (Sign Goal) items next (goal_mark n) (goal_symbols (goals (n + 1) ∷ [])) e
    refl free in (
      (clean next, taken.text, h.0),
      λ st. taken.same st ∙ h.1 (goals (n + 1) ∷ st),
      omega (arith, ap length e, h.2),
    )
