use Rattle.std.proofs.Common.{List, [], ◌∷◌, ◌++◌, None, length, refl, ap, sym, subst, ◌∙◌, arith}
use Rattle.spec_grammar.specs.declared.keys.Key.TheVariants.{Status}
use Rattle.spec_grammar.specs.Derives.{clean}
use Rattle.spec_grammar.specs.Grammar.{Marked, AreStatuses}
use Rattle.spec_grammar.specs.Items.{Sign, items_of}
use Rattle.spec_grammar.specs.Symbols.{statuses}
use Rattle.spec_syntax.specs.ReadingOrders.{status_symbols}
use Rattle.spec_syntax.proofs.Steps.{at_take}
use Rattle.spec_syntax.proofs.words.Source.next_status.Goals as goal

pub returns : goal.returns
returns c =
    let bytes = c.args.self.now.bytes.now in
    let items = items_of bytes c.args.tokens.now in
    let next = items_of bytes c.in-Some.next.now in
    let rest = items_of bytes c.in_ok-status.rest.now in
    let h = c.in_ok-status.ensures in
    let e = c.in-Some.ensures in
    let taken = at_take statuses (Sign Status) items next None (status_symbols ++ statuses ∷ []) e refl refl in (
      subst (λ (w : List Marked). AreStatuses (c.in_ok-status.status ∷ []) w (clean rest)) (sym taken.text) h.0,
      λ st. taken.same st ∙ h.1 (statuses ∷ st),
      omega (arith, ap length e, h.2),
    )
