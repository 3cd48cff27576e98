use Rattle.std.proofs.Common.{List, [], ◌∷◌, ◌++◌, None, length, refl, ap, sym, subst, ◌∙◌, arith}
use Rattle.spec_grammar.specs.declared.keys.Key.TheVariants.{Equal}
use Rattle.spec_grammar.specs.Derives.{clean}
use Rattle.spec_grammar.specs.Grammar.{Marked, AreEquals}
use Rattle.spec_grammar.specs.Items.{Sign, items_of}
use Rattle.spec_grammar.specs.Symbols.{equals}
use Rattle.spec_syntax.specs.ReadingOrders.{equal_symbols}
use Rattle.spec_syntax.proofs.Steps.{at_take}
use Rattle.spec_syntax.proofs.words.Source.next_equal.Goals as goal

pub returns : goal.returns
returns c =
    let bytes = c.args.self.now.bytes.now in
    let items = items_of bytes c.args.tokens.now in
    let next = items_of bytes c.in-Some.next.now in
    let rest = items_of bytes c.in_ok-equal.rest.now in
    let h = c.in_ok-equal.ensures in
    let e = c.in-Some.ensures in
    let taken = at_take equals (Sign Equal) items next None (equal_symbols ++ equals ∷ []) e refl refl in (
      subst (λ (w : List Marked). AreEquals (c.in_ok-equal.equal ∷ []) w (clean rest)) (sym taken.text) h.0,
      λ st. taken.same st ∙ h.1 (equals ∷ st),
      omega (arith, ap length e, h.2),
    )
