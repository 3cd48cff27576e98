use Rattle.std.proofs.Common.{◌≡◌, ◌∷◌, ℕ, List, ap, sym, subst}
use Rattle.spec_grammar.specs.Items.{item_as, item_of, items_of}
use Rattle.spec_syntax.specs.Reading.{LacksWord}
use Rattle.spec_syntax.proofs.Steps.{no_name}
use Rattle.spec_syntax.proofs.words.Source.name.Goals as goal

pub returns-then-not-is_name-clause-reads : goal.returns-then-not-is_name-clause-reads
returns-then-not-is_name-clause-reads c =
    let bytes = c.args.self.now.bytes.now in
    let token = c.in-Some.token.now in
    let rest = items_of bytes c.in-Some.rest.now in
    let items = items_of bytes c.args.tokens.now in
    let is : items ≡ item_of bytes token ∷ rest = ap (items_of bytes) c.in-Some.ensures in
    let lacks = c.if-not-is_name.ensures token.at rest in
    let here : LacksWord (item_of bytes token ∷ rest) =
    subst (λ (text : List ℕ). LacksWord (item_as token.kind text token.at ∷ rest)) c.text-text.ensures lacks in
    let none : LacksWord items = subst LacksWord (sym is) here in
    rw c.fault-then-not-is_name.ensures (λ st. no_name c.args.over items st none)
