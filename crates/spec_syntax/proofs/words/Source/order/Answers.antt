use Rattle.std.proofs.Common.{inr, refl, arith}
use Rattle.std.proofs.lemmas.Bool.{ne_eqb}
use Rattle.spec_grammar.specs.Derives.{clean}
use Rattle.spec_grammar.specs.Items.{items_of}
use Rattle.spec_syntax.proofs.words.Source.order.Goals as goal

pub returns-then-version-ne2 : goal.returns-then-version-ne2
returns-then-version-ne2 c =
    let all = clean (items_of c.args.self.now.bytes.now c.args.tokens.now) in
    let first = ne_eqb c.args.version 2 c.if-version-ne2.true in
    rw (c.new-equals.ensures, c.new-statuses.ensures, first) (
      ((all, all, refl, refl, refl), inr (refl, refl, refl)),
      λ st. refl,
      omega arith,
    )
