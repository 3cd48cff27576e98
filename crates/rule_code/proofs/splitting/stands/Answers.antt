use Rattle.std.proofs.Common.{◌≡◌, true, false, sym, ◌∙◌, subst, take, get_or}
use Rattle.std.proofs.lemmas.List.{take_more}
use Rattle.rule_code.specs.Growing.{NoneHas}
use Rattle.rule_code.proofs.Parts.{none_more}
use Rattle.rule_code.proofs.splitting.stands.Goals as goal

pub loop-number-preserved : goal.loop-number-preserved
loop-number-preserved c =
    let i = c.loop-number.number-index in
    let numbers = c.args.numbers.now in
    subst (λ ns. NoneHas c.args.rules.now ns c.args.path.now c.args.sym)
    (sym (take_more numbers i 0 c.loop-number-test.true))
    (none_more c.args.rules.now c.args.path.now (take i numbers) (get_or numbers i 0) c.args.sym
    c.loop-number.invariant (λ one there is. let q : false ≡ true = c.if-is_symbol.ensures.1
    (c.symbol_of_rule.ensures one there ∙ is) in absurd (cc)))
