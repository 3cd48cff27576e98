use Rattle.std.proofs.Common.{◌≡◌, ◌+◌, [], ◌∷◌, ◌++◌, true, false, sym, subst, take, get_or}
use Rattle.std.proofs.lemmas.List.{take_more}
use Rattle.rule_code.specs.Growing.{CanBeWanted, AreThose}
use Rattle.rule_code.proofs.Parts.{those_taken, those_left}
use Rattle.rule_code.proofs.splitting.those.Goals as goal

pub loop-number-preserved-then-not-admits : goal.loop-number-preserved-then-not-admits
loop-number-preserved-then-not-admits c =
    let i = c.loop-number.number-index in
    let numbers = c.args.numbers.now in
    subst (λ ns. AreThose c.args.rules.now ns c.args.path.now c.args.wanted c.loop-number.those.items)
    (sym (take_more numbers i 0 c.loop-number-test.true))
    (those_left c.args.rules.now c.args.path.now c.args.wanted (take i numbers) c.loop-number.those.items
    (get_or numbers i 0) c.loop-number.invariant
    (λ one there can. let q : false ≡ true = c.if-not-admits.ensures.1
    (subst (λ o. CanBeWanted c.args.wanted o) (sym (c.symbol_of_rule-there.ensures one there)) can) in absurd (cc)))

pub loop-number-preserved : goal.loop-number-preserved
loop-number-preserved c =
    let i = c.loop-number.number-index in
    let numbers = c.args.numbers.now in
    let more = those_taken c.args.rules.now c.args.path.now c.args.wanted (take i numbers)
    c.loop-number.those.items (get_or numbers i 0) c.loop-number.invariant in
    subst (λ xs. AreThose c.args.rules.now (take (i + 1) numbers) c.args.path.now c.args.wanted xs)
    (sym c.in_ok-push.ensures.items)
    (subst (λ ns. AreThose c.args.rules.now ns c.args.path.now c.args.wanted (c.loop-number.those.items
    ++ get_or numbers i 0 ∷ [])) (sym (take_more numbers i 0 c.loop-number-test.true)) more)
